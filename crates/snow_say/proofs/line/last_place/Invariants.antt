use Rattle.std.proofs.Common.{◌≡◌, ◌≤◌, ◌==◌, All, length, drop, false}
use Rattle.snow_say.proofs.line.last_place.Given as goal

abbrev pub invariant-loop-at : goal.invariant-loop-at
invariant-loop-at l = All (λ b. b == l.mark ≡ false) (drop l.at l.text) × (l.at ≤ length l.text)

abbrev pub decreases-loop-at : goal.decreases-loop-at
decreases-loop-at l = l.at
