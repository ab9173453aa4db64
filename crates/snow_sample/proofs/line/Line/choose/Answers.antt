-- The one rule is that of all numbers.
use Rattle.std.proofs.Common.{sym, ap, ◌∙◌}
use Rattle.snow_sample.specs.Model.Words.{reduced}
use Rattle.snow_sample.proofs.Choosing.{choice_reduced}
use Rattle.snow_sample.proofs.line.Line.choose.Goals as goal

pub returns-clause-chosen : goal.returns-clause-chosen
returns-clause-chosen c =
    choice_reduced c.args.n c.args.self.now c.requires ∙ ap (reduced c.args.n) (sym c.self.view_is) ∙ rw c.as_slice.ensures.value at c.reduce.ensures.reduced
