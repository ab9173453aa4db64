-- The digits that are left follow those that were read.
use Rattle.std.proofs.Common.{◌≡◌, ◌≤◌, Some, fold, length}
use Rattle.snow_command.specs.Model.Words.{with_digit, digits_within}
use Rattle.snow_command.proofs.figures.digits_within.Given as goal

abbrev pub invariant-loop-left : goal.invariant-loop-left
invariant-loop-left l = (fold (with_digit l.most) (Some l.number) l.left ≡ digits_within l.most l.digits) × (l.number ≤ l.most)

abbrev pub decreases-loop-left : goal.decreases-loop-left
decreases-loop-left l = length l.left
