use Rattle.std.proofs.Common.{◌≡◌, ◌++◌, Some, IfSome, map, sym, ap, subst, ◌∙◌}
use Rattle.std.specs.Option.{option_map}
use Rattle.snow_tree.specs.Kept.Held.{Held, promoted}
use Rattle.snow_tree.specs.Kept.Nodes.{IsTakenOver, entry_of, outsiders}
use Rattle.snow_tree.proofs.Left.{kept_accepted, left_seen, outsiders_seen, found_seen}
use Rattle.snow_tree.proofs.Seen.{found_back}
use Rattle.snow_tree.proofs.tree.Tree.promote.Goals as goal

pub take_accepted-self-inside-requires-clause-child : goal.take_accepted-self-inside-requires-clause-child
take_accepted-self-inside-requires-clause-child g c =
    let found = found_back c.self.inside.nodes.entries c.args.child.now c.self.inside.last (rw (← c.self.view_is) at c.requires.child) in
    ap (option_map (λ n. n.parent)) found.1 ∙ ap Some found.2

pub invariant_of-self : goal.invariant_of-self
invariant_of-self g c =
    let nodes = c.self.inside.nodes.entries in
    let child = c.args.child.now in
    let found = found_back nodes child c.self.inside.last (rw (← c.self.view_is) at c.requires.child) in
    let over = subst (λ o. IfSome o (λ n. IsTakenOver n c.take_accepted-self-inside.new.children c.take_accepted-self-inside.new.load c.take_accepted-self-inside.result)) found.1 c.take_accepted-self-inside.ensures.node in
    rw (over.children, c.take_accepted-self-inside.ensures.room, c.clear.ensures.capacity)
    (kept_accepted c.self.inside.last child c.self.inside.children nodes c.take_accepted-self-inside.new.nodes.entries _ found.0 c.self.invariant found.1
    found.2 c.take_accepted-self-inside.ensures.left)

pub returns-clause-load : goal.returns-clause-load
returns-clause-load g c =
    let nodes = c.self.inside.nodes.entries in
    let child = c.args.child.now in
    let found = found_back nodes child c.self.inside.last (rw (← c.self.view_is) at c.requires.child) in
    let over = subst (λ o. IfSome o (λ n. IsTakenOver n c.take_accepted-self-inside.new.children c.take_accepted-self-inside.new.load c.take_accepted-self-inside.result)) found.1 c.take_accepted-self-inside.ensures.node in
    rw (← c.self.view_is) (subst (λ o. IfSome o (λ e. c.take_accepted-self-inside.new.load ≡ e.load)) (sym (found_seen nodes child found.0 (found.1))) over.load)

pub returns-clause-tree : goal.returns-clause-tree
returns-clause-tree g c =
    let nodes = c.self.inside.nodes.entries in
    let child = c.args.child.now in
    let back = found_back nodes child c.self.inside.last (rw (← c.self.view_is) at c.requires.child) in
    let over = subst (λ o. IfSome o (λ n. IsTakenOver n c.take_accepted-self-inside.new.children c.take_accepted-self-inside.new.load c.take_accepted-self-inside.result)) back.1 c.take_accepted-self-inside.ensures.node in
    let found = found_seen nodes child back.0 (back.1) in
    let stay = ap (map entry_of) c.take_accepted-self-inside.ensures.left ∙ left_seen nodes child in
    let gone = c.take_accepted-self-inside.ensures.told ∙ ap (λ l. l ++ outsiders nodes child) c.clear.ensures.items ∙ outsiders_seen nodes child in
    let before : Held g.row.T.Denot = record {
      last = c.self.inside.last;
      height = c.self.inside.height;
      pending = map entry_of nodes;
      rejected = c.self.inside.rejected.items;
    }
    in
    let after : Held g.row.T.Denot = record {
      last = child;
      height = c.take_accepted-self-inside.result;
      pending = map entry_of c.take_accepted-self-inside.new.nodes.entries;
      rejected = c.take_accepted-self-inside.new.rejected.items;
    }
    in
    rw (← c.self.view_is)
    (subst (λ o. IfSome o (λ e. after ≡ promoted before e.block)) (sym found) (λ j. record { last = child; height = over.height j; pending = stay j; rejected = gone j }))
