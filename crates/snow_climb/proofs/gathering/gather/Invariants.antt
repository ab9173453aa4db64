use Rattle.std.proofs.Common.{◌+◌, ◌≤◌, length}
use Rattle.snow_climb.specs.Kept.Ladder.{chain}
use Rattle.snow_climb.proofs.Gatherings.{AreGathered}
use Rattle.snow_climb.proofs.gathering.gather.Given as goal

abbrev pub invariant-loop-left : goal.invariant-loop-left
invariant-loop-left g l = record {
  within : l.left ≤ length l.links;
  gathered : AreGathered l.tree.pending l.ladder.came (chain l.links l.left) l.children.list;
  places : l.fn.children.room + length l.fn.children.list ≤ l.children.room + length l.children.list;
}

abbrev pub decreases-loop-left : goal.decreases-loop-left
decreases-loop-left g l = l.left
