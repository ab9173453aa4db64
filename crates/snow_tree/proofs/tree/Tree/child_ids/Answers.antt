use Rattle.std.proofs.Common.{sym, ap, ◌∙◌}
use Rattle.std.specs.Option.{option_copied}
use Rattle.snow_board.proofs.Cases.{same_id}
use Rattle.snow_tree.specs.Kept.Held.{children_of}
use Rattle.snow_tree.specs.Kept.Nodes.{blocks_of}
use Rattle.snow_tree.proofs.Left.{same_blocks}
use Rattle.snow_tree.proofs.Seen.{children_found, children_none}
use Rattle.snow_tree.proofs.tree.Tree.child_ids.Goals as goal

pub returns-then-eq : goal.returns-then-eq
returns-then-eq g c =
    let nodes = c.self.inside.nodes.entries in
    rw (← c.self.view_is)
    (c.list.ensures ∙ c.self.invariant.children ∙ ap (children_of (blocks_of nodes)) (same_id c.self.inside.last c.args.id.now (sym c.eq.ensures ∙ c.if-eq.true))
    ∙ ap (λ l. children_of l c.args.id.now) (sym (same_blocks nodes)))

pub returns-in-Some : goal.returns-in-Some
returns-in-Some g c =
    let nodes = c.self.inside.nodes.entries in
    let id = c.args.id.now in
    rw (← c.self.view_is)
    (c.list-in-Some.ensures
    ∙ children_found c.self.inside.last id c.self.inside.children nodes _ c.in-Some.node.now c.self.invariant (sym c.get.ensures.value ∙ ap option_copied c.in-Some.is)
    ∙ ap (λ l. children_of l id) (sym (same_blocks nodes)))

pub returns-in-None : goal.returns-in-None
returns-in-None g c =
    let nodes = c.self.inside.nodes.entries in
    let id = c.args.id.now in
    rw (← c.self.view_is)
    (sym (ap (λ l. children_of l id) (same_blocks nodes)
    ∙ children_none c.self.inside.last id c.self.inside.children nodes _ c.self.invariant (sym c.eq.ensures ∙ c.if-eq.false) (sym c.get.ensures.value ∙ ap option_copied c.in-None.is)))
