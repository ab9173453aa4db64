-- The answers so far.
use Rattle.snow_drill.specs.Model.Drill.{with_answers}
use Rattle.snow_drill.specs.Kept.Following.{Follows}
use Rattle.snow_drill.proofs.player.Player.answers.Given as goal

abbrev pub invariant-loop : goal.invariant-loop
invariant-loop g l = Follows l.initial.self l.self (λ d. with_answers l.counter g.E.Driven.step d)
