-- The rounds so far.
use Rattle.snow_drill.specs.Model.Drill.{with_rounds}
use Rattle.snow_drill.specs.Kept.Following.{Follows}
use Rattle.snow_drill.proofs.player.Player.rounds.Given as goal

abbrev pub invariant-loop-i : goal.invariant-loop-i
invariant-loop-i g l = Follows l.initial.self l.self (λ d. with_rounds l.i g.E.Driven.step d)
