-- So many zeros are written.
use Rattle.std.proofs.Common.{◌≡◌, ◌-◌, ◌≤◌, replicate}
use Rattle.std.specs.Vec.{vec_len}
use Rattle.snow_sample.proofs.fresh.write_zeros.Given as goal

abbrev pub invariant-loop-made : goal.invariant-loop-made
invariant-loop-made l = (l.room.items ≡ replicate l.made 0) × (vec_len l.room ≡ l.made) × (l.made ≤ l.count)

abbrev pub decreases-loop-made : goal.decreases-loop-made
decreases-loop-made l = l.count - l.made
