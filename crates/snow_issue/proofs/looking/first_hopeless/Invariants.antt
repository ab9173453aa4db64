use Rattle.std.proofs.Common.{◌-◌, length}
use Rattle.std.specs.List.{position_or_len}
use Rattle.snow_lineup.specs.declared.marks.Mark.TheVariants.{New}
use Rattle.snow_lineup.specs.Kept.Marks.{has}
use Rattle.snow_issue.proofs.Looked.{IsLooking}
use Rattle.snow_issue.proofs.looking.first_hopeless.Given as goal

abbrev pub invariant-loop-at : goal.invariant-loop-at
invariant-loop-at g l = IsLooking l.initial.waiting l.waiting l.gets (g.B.Board.board l.board)

abbrev pub decreases-loop-at : goal.decreases-loop-at
decreases-loop-at g l = length l.waiting - position_or_len (has New) l.waiting
