use Rattle.std.proofs.Common.{◌≡◌, ◌+◌, drop, slice_index}
use Rattle.snow_show.specs.Kept.Shortening.{times_in_front}
use Rattle.snow_show.proofs.bytes.times_of.Given as goal

abbrev pub invariant-loop-times : goal.invariant-loop-times
invariant-loop-times l = l.times + times_in_front (slice_index l.bytes 0) (drop l.times l.bytes) ≡ times_in_front (slice_index l.bytes 0) l.bytes
