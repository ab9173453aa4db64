use Rattle.snow_tree.specs.Kept.Nodes.{blocks_of}
use Rattle.snow_tree.proofs.Climbed.{IsClimbed, height_of}
use Rattle.snow_tree.proofs.looking.ancestor.Given as goal

abbrev pub invariant-loop-place : goal.invariant-loop-place
invariant-loop-place g l = IsClimbed (blocks_of l.nodes.entries) l.last l.id l.place

abbrev pub decreases-loop-place : goal.decreases-loop-place
decreases-loop-place g l = height_of l.place
