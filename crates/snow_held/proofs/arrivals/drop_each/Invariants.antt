use Rattle.std.proofs.Common.{ℕ, Option}
use Rattle.snow_held.specs.declared.keys.NodeKey.{NodeKey}
use Rattle.snow_held.specs.Kept.Arrivals.{IsFiled, AreNodesOf, IsLeaving, names}
use Rattle.snow_held.proofs.arrivals.drop_each.Given as goal

abbrev pub invariant-loop-arrival : goal.invariant-loop-arrival
invariant-loop-arrival l =
    (number : ℕ) (number_at : ℕ → NodeKey → Option ℕ) (next : ℕ) → IsFiled l.initial.backlog number_at (names l.initial.blocks) next → AreNodesOf number l.initial.backlog l.nodes
    → IsLeaving number l.initial.backlog l.backlog l.nodes l.arrival-iterator number_at (names l.blocks) next
