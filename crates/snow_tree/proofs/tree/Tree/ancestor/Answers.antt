use Rattle.std.proofs.Common.{◌≡◌, Option, Some, None, is_some, refl, sym, ap, ◌∙◌}
use Rattle.std.specs.Option.{option_map}
use Rattle.snow_base.specs.declared.block.Header.{Header}
use Rattle.snow_base.specs.Model.Ancestry.{child_on}
use Rattle.snow_board.specs.Kept.Grown.{has_block}
use Rattle.snow_tree.specs.Kept.Nodes.{blocks_of}
use Rattle.snow_tree.proofs.Left.{same_blocks}
use Rattle.snow_tree.proofs.Seen.{line_there}
use Rattle.snow_tree.proofs.tree.Tree.ancestor.Goals as goal

pub returns-clause-ancestor : goal.returns-clause-ancestor
returns-clause-ancestor g c =
    rw (← c.self.view_is)
    (c.ancestor.ensures ∙ ap (λ l. option_map (λ b. b.id) (child_on l c.self.inside.last c.args.id.now)) (sym (same_blocks c.self.inside.nodes.entries)))

pub returns-clause-pending : goal.returns-clause-pending
returns-clause-pending g c =
    let nodes = c.self.inside.nodes.entries in
    let id = c.args.id.now in
    rw (← c.self.view_is)
    (ap is_some c.ancestor.ensures ∙ mapped (child_on (blocks_of nodes) c.self.inside.last id) ∙ line_there c.self.inside.last (blocks_of nodes) id c.self.invariant.grown
    ∙ ap (λ l. has_block l id) (sym (same_blocks nodes)))
  where
    mapped : (o : Option Header) → is_some (option_map (λ b. b.id) o) ≡ is_some o
    mapped None = refl
    mapped (Some b) = refl
