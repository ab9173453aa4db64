-- So many are written, each at its own position.
use Rattle.std.proofs.Common.{◌≡◌, ℕ, ◌<◌, length, get_or}
use Rattle.snow_sample.proofs.shuffle.number.Given as goal

abbrev pub invariant-loop-p : goal.invariant-loop-p
invariant-loop-p l = (length l.units ≡ length l.initial.units) × ((p : ℕ) → p < l.p → get_or l.units p 0 ≡ p)
