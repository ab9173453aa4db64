use Rattle.std.proofs.Common.{◌≡◌, ◌+◌, ◌*◌, ◌≤◌, false, [], ◌∷◌, drop}
use Rattle.snow_tree.specs.Kept.Held.{blocks_in}
use Rattle.snow_climb.specs.Kept.Climbing.{reach}
use Rattle.snow_topo.specs.Kept.Leading.{all_leads}
use Rattle.snow_topo.specs.Kept.Recording.{recording_in}
use Rattle.snow_topo.proofs.Lines.{IsOnLine, sought, vote_at}
use Rattle.snow_topo.proofs.counting.count_votes.Given as goal

abbrev pub invariant-loop-above : goal.invariant-loop-above
invariant-loop-above g l = record {
  line : IsOnLine l.params l.polls l.one l.fn.tree.pending l.tree.pending l.at;
  vote : l.vote ≡ vote_at (blocks_in l.fn.tree.pending) l.at l.one.count;
  rest : l.tree ≡ record l.fn.tree { pending = l.tree.pending };
  blocks : blocks_in l.tree.pending ≡ blocks_in l.fn.tree.pending;
  steady : l.moved ≡ false → all_leads g.R.Rule.answer l.tree.pending ≡ all_leads g.R.Rule.answer l.fn.tree.pending;
  steps : l.steps ≤ l.fn.steps + 5 * recording_in l.params (blocks_in l.fn.tree.pending) (l.one ∷ []) (drop (reach (blocks_in l.fn.tree.pending) (sought (blocks_in l.fn.tree.pending) l.at)) (blocks_in l.fn.tree.pending));
}

abbrev pub decreases-loop-above : goal.decreases-loop-above
decreases-loop-above g l = l.at
