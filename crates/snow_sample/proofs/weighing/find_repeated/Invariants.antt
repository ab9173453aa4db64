-- The nodes so far are distinct, and their identifiers are those that were seen.
use Rattle.snow_sample.proofs.Weights.{HasSeen}
use Rattle.snow_sample.proofs.weighing.find_repeated.Given as goal

abbrev pub invariant-loop-node : goal.invariant-loop-node
invariant-loop-node l = HasSeen l.nodes l.node-index l.earlier
