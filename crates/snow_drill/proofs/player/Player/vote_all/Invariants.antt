-- The votes so far.
use Rattle.std.proofs.Common.{fold, take}
use Rattle.snow_drill.specs.Model.Drill.{with_vote}
use Rattle.snow_drill.specs.Kept.Following.{Follows}
use Rattle.snow_drill.proofs.player.Player.vote_all.Given as goal

abbrev pub invariant-loop-node : goal.invariant-loop-node
invariant-loop-node g l =
    Follows l.initial.self l.self (λ d. fold (with_vote g.E.Driven.step l.number) d (take l.node-index l.nodes))
