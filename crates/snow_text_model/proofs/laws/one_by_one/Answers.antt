use Rattle.snow_text_model.proofs.Tidied.{line_front, shown_end, shown_front}
use Rattle.snow_text_model.proofs.laws.one_by_one.Goals as goal

pub returns-clause-frame : goal.returns-clause-frame
returns-clause-frame c = shown_front

pub returns-clause-rest : goal.returns-clause-rest
returns-clause-rest c = shown_end

pub returns-clause-line : goal.returns-clause-line
returns-clause-line c = line_front
