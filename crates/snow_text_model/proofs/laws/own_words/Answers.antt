use Rattle.snow_text_model.proofs.Told.{own_words_shown}
use Rattle.snow_text_model.proofs.laws.own_words.Goals as goal

pub returns : goal.returns
returns c = own_words_shown
