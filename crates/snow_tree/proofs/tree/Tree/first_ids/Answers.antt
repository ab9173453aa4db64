use Rattle.std.proofs.Common.{sym, ap, ◌∙◌}
use Rattle.snow_tree.specs.Kept.Held.{children_of}
use Rattle.snow_tree.proofs.Left.{same_blocks}
use Rattle.snow_tree.proofs.tree.Tree.first_ids.Goals as goal

pub returns : goal.returns
returns g c =
    let inside = c.self.inside in
    rw (← c.self.view_is) (c.list.ensures ∙ c.self.invariant.children ∙ ap (λ l. children_of l inside.last) (sym (same_blocks inside.nodes.entries)))
