use Rattle.std.proofs.Common.{◌≡◌, ℕ, List, ◌++◌, Some, None, IfSome, bytes_eq, slice_get, refl, sym, ap, subst, ◌∙◌}
use Rattle.std.specs.List.{position}
use Rattle.std.specs.Map.{keys_of, lookup, values_of}
use Rattle.std.specs.Option.{option_map}
use Rattle.std.proofs.lemmas.Option.{none-some, same_Some}
use Rattle.snow_tree.specs.declared.node.Node.{Node}
use Rattle.snow_tree.specs.Kept.Nodes.{IsTakenOver}
use Rattle.snow_tree.proofs.Edges.{edge_key, looked_at, value_there}
use Rattle.snow_tree.proofs.Placed.{found_at}
use Rattle.snow_tree.proofs.Seen.{found_child}
use Rattle.snow_tree.proofs.Swept.{all_swept}
use Rattle.snow_tree.proofs.leaving.take_among.Goals as goal

-- a child of the last accepted block is found
off : {T : Type 0} (nodes : List (List ℕ × Node T)) (child last : List ℕ) → position (bytes_eq child) (keys_of nodes) ≡ None
    → option_map (λ n. n.parent) (lookup (bytes_eq child) nodes) ≡ Some last → ⊥
off nodes child last none is =
    let found = found_child (lookup (bytes_eq child) nodes) last is in
    none-some found.0 (looked_at nodes child None None (sym none ∙ sym (edge_key nodes child)) (λ i e. absurd (none-some i e)) (λ e. refl) ∙ found.1)

pub returns-in-Some-clause-node : goal.returns-in-Some-clause-node
returns-in-Some-clause-node g c =
    let nodes = c.args.nodes.now.entries in
    let child = c.args.child.now in
    let place = c.in-Some.place in
    let e = found_at nodes child place (sym c.get_index_of.ensures.index ∙ c.in-Some.is) in
    subst (λ o. IfSome o (λ n. IsTakenOver n c.take_at.new.children c.take_at.new.load c.take_at.result))
    (looked_at nodes child (Some place) (Some e.0.1) (sym c.in-Some.is ∙ c.get_index_of.ensures.index ∙ sym (edge_key nodes child))
    (λ i is. value_there nodes place e.0 e.1 ∙ ap (slice_get (values_of nodes)) (same_Some place i is))
    (λ is. absurd (none-some place (sym is))))
    (c.take_at.ensures.node e.0 e.1)

pub returns-in-Some-clause-left : goal.returns-in-Some-clause-left
returns-in-Some-clause-left g c =
    let nodes = c.args.nodes.now.entries in
    let child = c.args.child.now in
    let place = c.in-Some.place in
    let e = found_at nodes child place (sym c.get_index_of.ensures.index ∙ c.in-Some.is) in
    c.take_at.ensures.left e.0 e.1 ∙ (all_swept c.args.last.now child nodes place e.0 c.args.nodes.now.next c.requires.grown c.len-len.ensures.order c.len-len.ensures.own e.1 e.2).0

pub returns-in-Some-clause-told : goal.returns-in-Some-clause-told
returns-in-Some-clause-told g c =
    let nodes = c.args.nodes.now.entries in
    let child = c.args.child.now in
    let place = c.in-Some.place in
    let e = found_at nodes child place (sym c.get_index_of.ensures.index ∙ c.in-Some.is) in
    c.take_at.ensures.told e.0 e.1
    ∙ ap (λ l. c.args.rejected.now.items ++ l) (all_swept c.args.last.now child nodes place e.0 c.args.nodes.now.next c.requires.grown c.len-len.ensures.order c.len-len.ensures.own e.1 e.2).1

pub returns-in-None-clause-node : goal.returns-in-None-clause-node
returns-in-None-clause-node g c = absurd (off c.args.nodes.now.entries c.args.child.now c.args.last.now (sym c.get_index_of.ensures.index ∙ c.in-None.is) c.requires.child)

pub returns-in-None-clause-left : goal.returns-in-None-clause-left
returns-in-None-clause-left g c = absurd (off c.args.nodes.now.entries c.args.child.now c.args.last.now (sym c.get_index_of.ensures.index ∙ c.in-None.is) c.requires.child)

pub returns-in-None-clause-told : goal.returns-in-None-clause-told
returns-in-None-clause-told g c = absurd (off c.args.nodes.now.entries c.args.child.now c.args.last.now (sym c.get_index_of.ensures.index ∙ c.in-None.is) c.requires.child)
