use Rattle.std.proofs.Common.{◌≡◌, ◌<◌, ◌^◌, drop}
use Rattle.snow_reading.specs.Model.Reading.{value_after}
use Rattle.snow_reading.proofs.field.value.Given as goal

abbrev pub invariant-loop-byte : goal.invariant-loop-byte
invariant-loop-byte l = (value_after l.value (drop l.byte-index l.word) ≡ value_after 0 l.word) × (l.value < 2 ^ 64)
