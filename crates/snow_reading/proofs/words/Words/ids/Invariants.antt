use Rattle.std.proofs.Common.{◌≡◌, length}
use Rattle.snow_reading.specs.Model.Reading.{bytes_of, items}
use Rattle.snow_reading.proofs.Cutting.{onto}
use Rattle.snow_reading.proofs.words.Words.ids.Given as goal

abbrev pub invariant-loop-word : goal.invariant-loop-word
invariant-loop-word l = onto l.ids (items (bytes_of 32) l.self) ≡ items (bytes_of 32) l.initial.self

abbrev pub decreases-loop-word : goal.decreases-loop-word
decreases-loop-word l = length l.self
