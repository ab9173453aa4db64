-- The units of the nodes so far, which aren't too many.
use Rattle.std.proofs.Common.{◌≡◌, ◌<◌, ◌^◌, take}
use Rattle.snow_sample.specs.Model.Roster.{total_weight}
use Rattle.snow_sample.proofs.weighing.total_of.Given as goal

abbrev pub invariant-loop-node : goal.invariant-loop-node
invariant-loop-node l = (l.total ≡ total_weight (take l.node-index l.nodes)) × (l.total < 2 ^ 63)
