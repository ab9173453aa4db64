use Rattle.std.proofs.Common.{◌≡◌, length, bytes_eq}
use Rattle.std.specs.List.{list_any}
use Rattle.snow_board.specs.Model.Preference.{path_from, preferred_path}
use Rattle.snow_tree.specs.Kept.Held.{blocks_in, children_of}
use Rattle.snow_topo.specs.Kept.Children.{shown, IsFit}
use Rattle.snow_topo.specs.Kept.View.{all_pending, view}
use Rattle.snow_topo.proofs.leading.passes.Given as goal

abbrev pub invariant-loop-next : goal.invariant-loop-next
invariant-loop-next g l = record {
  fit : IsFit l.params l.polls (children_of (blocks_in l.tree.pending) l.at) l.load;
  rest : list_any (λ other. bytes_eq other l.id) (path_from g.R.Rule.answer l.at (shown l.params l.polls l.load) (all_pending l.params l.polls l.tree.pending))
      ≡ list_any (λ other. bytes_eq other l.id) (preferred_path g.R.Rule.answer (view l.params l.polls l.root l.tree));
}

-- the rest of the way
abbrev pub decreases-loop-next : goal.decreases-loop-next
decreases-loop-next g l = length (path_from g.R.Rule.answer l.at (shown l.params l.polls l.load) (all_pending l.params l.polls l.tree.pending))
