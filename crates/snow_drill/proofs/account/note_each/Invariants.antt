-- The lines so far were noted.
use Rattle.std.proofs.Common.{◌≡◌, fold, take}
use Rattle.snow_drill.specs.Kept.Told.{noted}
use Rattle.snow_drill.proofs.account.note_each.Given as goal

abbrev pub invariant-loop-line : goal.invariant-loop-line
invariant-loop-line l = l.tally ≡ fold noted l.initial.tally (take l.line-index l.lines)
