-- The ends of the nodes so far.
use Rattle.std.proofs.Common.{◌≡◌, take}
use Rattle.snow_sample.specs.Model.Roster.{total_weight, ends_from}
use Rattle.snow_sample.proofs.weighing.ends_of.Given as goal

abbrev pub invariant-loop-node : goal.invariant-loop-node
invariant-loop-node l =
    (l.end ≡ total_weight (take l.node-index l.nodes)) × (l.ends.items ≡ ends_from 0 (take l.node-index l.nodes))
