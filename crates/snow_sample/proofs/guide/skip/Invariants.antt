-- The ends so far are at most the unit.
use Rattle.std.proofs.Common.{ℕ, ◌-◌, ◌<◌, ◌≤◌, length, get_or}
use Rattle.snow_sample.proofs.guide.skip.Given as goal

abbrev pub invariant-loop-at : goal.invariant-loop-at
invariant-loop-at l =
    (l.start ≤ l.at) × (l.at ≤ length l.ends) × ((i d : ℕ) → l.start ≤ i → i < l.at → get_or l.ends i d ≤ l.unit)

abbrev pub decreases-loop-at : goal.decreases-loop-at
decreases-loop-at l = length l.ends - l.at
