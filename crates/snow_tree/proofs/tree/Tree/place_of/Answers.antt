use Rattle.std.proofs.Common.{is_some, sym, ap, ◌∙◌}
use Rattle.snow_board.specs.Kept.Grown.{has_block}
use Rattle.snow_tree.proofs.Left.{same_blocks}
use Rattle.snow_tree.proofs.Placed.{place_there}
use Rattle.snow_tree.proofs.Seen.{place_seen}
use Rattle.snow_tree.proofs.tree.Tree.place_of.Goals as goal

pub returns : goal.returns
returns g c =
    let nodes = c.self.inside.nodes.entries in
    let id = c.args.id.now in
    rw (← c.self.view_is) (record {
      place = c.place_of.ensures ∙ place_seen nodes id;
      pending = ap is_some c.place_of.ensures ∙ place_there nodes id ∙ ap (λ l. has_block l id) (sym (same_blocks nodes));
    })
