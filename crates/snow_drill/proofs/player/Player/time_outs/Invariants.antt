-- The Timeouts so far.
use Rattle.std.proofs.Common.{fold, take}
use Rattle.snow_drill.specs.Model.Drill.{timed_out}
use Rattle.snow_drill.specs.Kept.Following.{Follows}
use Rattle.snow_drill.proofs.player.Player.time_outs.Given as goal

abbrev pub invariant-loop-line : goal.invariant-loop-line
invariant-loop-line g l =
    Follows l.initial.self l.self (λ d. fold (timed_out g.E.Driven.step) d (take l.line-index l.lines))
