-- The words so far were passed over.
use Rattle.std.proofs.Common.{◌≡◌, ◌-◌, ◌≤◌, length, drop}
use Rattle.snow_sample.specs.Model.Words.{reduced, IsRest}
use Rattle.snow_sample.proofs.line.reduce.Given as goal

abbrev pub invariant-loop-at : goal.invariant-loop-at
invariant-loop-at l =
    (l.at ≤ length l.words) × (l.initial.at ≤ l.at) × (reduced l.n (drop l.at l.words) ≡ reduced l.n (drop l.initial.at l.words))
    × IsRest (drop l.initial.at l.words) (drop l.at l.words)

abbrev pub decreases-loop-at : goal.decreases-loop-at
decreases-loop-at l = length l.words - l.at
