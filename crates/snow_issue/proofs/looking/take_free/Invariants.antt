use Rattle.std.proofs.Common.{filter, length}
use Rattle.snow_lineup.specs.declared.marks.Mark.TheVariants.{New}
use Rattle.snow_lineup.specs.Kept.Marks.{has}
use Rattle.snow_issue.specs.Kept.Keeping.{IsWalked}
use Rattle.snow_issue.specs.Kept.Known.{items_of}
use Rattle.snow_issue.proofs.looking.take_free.Given as goal

abbrev pub invariant-loop-reply : goal.invariant-loop-reply
invariant-loop-reply l = IsWalked l.initial.replies l.replies (items_of l.waiting) l.gets

abbrev pub decreases-loop-reply : goal.decreases-loop-reply
decreases-loop-reply l = length (filter (has New) l.replies)
