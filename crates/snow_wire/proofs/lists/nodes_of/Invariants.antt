use Rattle.std.proofs.Common.{◌≡◌, map, take}
use Rattle.snow_wire.specs.Clauses.Spelled.{weighed_in}
use Rattle.snow_wire.proofs.lists.nodes_of.Given as goal

abbrev pub invariant-loop-node : goal.invariant-loop-node
invariant-loop-node l = l.made ≡ map weighed_in (take l.node-index l.nodes)
