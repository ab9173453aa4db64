use Rattle.snow_text_model.proofs.Framed.{made_again}
use Rattle.snow_text_model.proofs.laws.one_text.Goals as goal

pub returns : goal.returns
returns c = made_again
