use Rattle.std.proofs.Common.{◌≡◌, ◌+◌, ◌≤◌, length, vec_capacity}
use Rattle.snow_board.proofs.Settled.{IsSettling, to_do}
use Rattle.snow_topo.specs.Kept.View.{view, AreFit}
use Rattle.snow_topo.proofs.settling.settle.Given as goal

abbrev pub invariant-loop-more : goal.invariant-loop-more
invariant-loop-more g l = record {
  settling : IsSettling (view l.params l.polls l.initial.root l.initial.tree) l.initial.decisions.items l.more (view l.params l.polls l.root l.tree) l.decisions.items;
  fit : AreFit l.params l.polls l.root l.tree;
  room : vec_capacity l.decisions ≡ vec_capacity l.initial.decisions;
  fewer : length l.decisions.items + length l.tree.pending ≤ length l.initial.decisions.items + length l.initial.tree.pending;
}

abbrev pub decreases-loop-more : goal.decreases-loop-more
decreases-loop-more g l = to_do l.more (view l.params l.polls l.root l.tree)
