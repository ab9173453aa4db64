use Rattle.std.proofs.Common.{◌≡◌, length}
use Rattle.snow_reading.specs.Model.Reading.{draw_of, items}
use Rattle.snow_reading.proofs.Cutting.{onto}
use Rattle.snow_reading.proofs.words.Words.draws.Given as goal

abbrev pub invariant-loop-word : goal.invariant-loop-word
invariant-loop-word l = onto l.draws (items draw_of l.self) ≡ items draw_of l.initial.self

abbrev pub decreases-loop-word : goal.decreases-loop-word
decreases-loop-word l = length l.self
