use Rattle.snow_text_model.proofs.Tidied.{shown_tidied, tidied_again}
use Rattle.snow_text_model.proofs.laws.one_form.Goals as goal

pub returns-clause-short : goal.returns-clause-short
returns-clause-short c = shown_tidied

pub returns-clause-again : goal.returns-clause-again
returns-clause-again c = tidied_again
