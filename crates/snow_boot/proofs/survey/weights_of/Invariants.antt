-- The table has the nodes that were passed over.
use Rattle.std.proofs.Common.{◌≤◌, drop, length}
use Rattle.snow_boot.specs.Kept.Surveying.{HasWeights}
use Rattle.snow_boot.proofs.survey.weights_of.Given as goal

abbrev pub invariant-loop-at : goal.invariant-loop-at
invariant-loop-at l = (l.at ≤ length l.nodes) × HasWeights l.weights (drop l.at l.nodes)

abbrev pub decreases-loop-at : goal.decreases-loop-at
decreases-loop-at l = l.at
