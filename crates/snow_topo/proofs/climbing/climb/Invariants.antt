use Rattle.std.proofs.Common.{◌≡◌, ◌+◌, ◌*◌, ◌<◌, ◌≤◌, false, List, drop, length}
use Rattle.snow_base.specs.declared.block.Vote.{Vote}
use Rattle.snow_tree.specs.Kept.Held.{blocks_in}
use Rattle.snow_climb.specs.Kept.Climbing.{cursors_of, ArePlaced}
use Rattle.snow_climb.specs.Kept.Rising.{AreClimbing}
use Rattle.snow_climb.specs.Kept.Starting.{HaveBegun}
use Rattle.snow_topo.specs.Kept.Half.{IsHalf}
use Rattle.snow_climb.specs.Kept.Ladder.{KeepsRoom}
use Rattle.snow_topo.specs.Kept.Leading.{all_leads}
use Rattle.snow_topo.specs.Kept.Recording.{recording_in}
use Rattle.snow_topo.proofs.climbing.climb.Given as goal

abbrev pub invariant-loop-top : goal.invariant-loop-top
invariant-loop-top g l = record {
  all : (votes : List Vote) → HaveBegun l.params votes l.fn.tree.pending l.fn.ladder
      → IsHalf l.params l.polls votes l.fn.tree.pending l.tree.pending l.top × AreClimbing l.params votes (blocks_in l.fn.tree.pending) l.top (cursors_of (blocks_in l.fn.tree.pending) l.ladder.climbers);
  rest : l.tree ≡ record l.fn.tree { pending = l.tree.pending };
  blocks : blocks_in l.tree.pending ≡ blocks_in l.fn.tree.pending;
  within : l.top ≤ length l.fn.tree.pending;
  short : length l.ladder.climbers ≤ length l.fn.ladder.climbers;
  places : l.fn.children.room + length l.fn.children.list ≤ l.children.room + length l.children.list;
  put : l.ladder.put + l.top ≤ l.ladder.most;
  below : l.top < l.ladder.low;
  room : KeepsRoom l.fn.ladder l.ladder;
  placed : ArePlaced (blocks_in l.fn.tree.pending) l.ladder.climbers;
  steady : l.moved ≡ false → all_leads g.R.Rule.answer l.tree.pending ≡ all_leads g.R.Rule.answer l.fn.tree.pending;
  steps : (votes : List Vote) → HaveBegun l.params votes l.fn.tree.pending l.fn.ladder
      → l.steps ≤ l.fn.steps + 5 * recording_in l.params (blocks_in l.fn.tree.pending) votes (drop l.top (blocks_in l.fn.tree.pending));
}

abbrev pub decreases-loop-top : goal.decreases-loop-top
decreases-loop-top g l = l.top
