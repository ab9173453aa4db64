use Rattle.std.proofs.Common.{◌≡◌, ℕ, List, ◌∷◌, ◌++◌, [], true, false, map, bytes_eq, position, refl, sym, ap, subst, ◌∙◌, arith}
use Rattle.std.specs.List.{AllByRecursion}
use Rattle.std.proofs.lemmas.Bool.{or_parts}
use Rattle.std.proofs.lemmas.List.{map-append}
use Rattle.snow_base.specs.declared.block.Header.{Header}
use Rattle.snow_board.specs.Kept.Grown.{has_block, is_on}
use Rattle.snow_tree.specs.declared.node.Node.{Node}
use Rattle.snow_tree.specs.Kept.Held.{Held, blocks_in, place_in}
use Rattle.snow_tree.specs.Kept.Nodes.{blocks_of, entry_of, linked, with_children}
use Rattle.snow_tree.specs.Kept.Row.{edge_of, edges_of}
use Rattle.snow_tree.proofs.Descending.{last_off}
use Rattle.snow_tree.proofs.Edges.{read_through, same_place, childless_edges}
use Rattle.snow_tree.proofs.Left.{same_blocks}
use Rattle.snow_tree.proofs.Linked.{kept_issued, not_found, blocks_changed}
use Rattle.snow_tree.proofs.Seen.{ok_after, place_seen, seen_changed}
use Rattle.snow_tree.proofs.tree.Tree.insert.Goals as goal

pub make_room_and_link-room-requires-clause-off : goal.make_room_and_link-room-requires-clause-off
make_room_and_link-room-requires-clause-off g c = last_off c.self.inside.last (blocks_of c.self.inside.nodes.entries) c.self.invariant.grown

pub make_room_and_link-room-requires-clause-exact : goal.make_room_and_link-room-requires-clause-exact
make_room_and_link-room-requires-clause-exact g c =
    c.requires.place ∙ sym (place_seen c.self.inside.nodes.entries c.args.parent ∙ ap (λ (h : Held g.row.T.Denot). place_in h.pending c.args.parent) c.self.view_is)

pub push-requires-clause-place : goal.push-requires-clause-place
push-requires-clause-place g c =
    let nodes = c.self.inside.nodes.entries in
    let block : Header = record { id = c.args.id; parent = c.args.parent; height = c.args.height } in
    let went = sym c.is_err.ensures.value ∙ c.if-is_err.false in
    c.requires.place ∙ sym (place_seen nodes c.args.parent ∙ ap (λ (h : Held g.row.T.Denot). place_in h.pending c.args.parent) c.self.view_is)
    ∙ same_place nodes (with_children (linked block)) c.args.parent (λ e. refl)
    ∙ ap (position (λ e. bytes_eq e.0 c.args.parent)) (sym (ok_after c.make_room_and_link-room.result went c.make_room_and_link-room.ensures.nodes))

pub push-requires-clause-childless : goal.push-requires-clause-childless
push-requires-clause-childless g c =
    let nodes = c.self.inside.nodes.entries in
    let last = c.self.inside.last in
    let block : Header = record { id = c.args.id; parent = c.args.parent; height = c.args.height } in
    let went = sym c.is_err.ensures.value ∙ c.if-is_err.false in
    let unknown : is_on last (blocks_in (map entry_of nodes)) c.args.id ≡ false = rw (← c.self.view_is) at c.requires.unknown in
    let off : is_on last (blocks_of nodes) c.args.id ≡ false = ap (λ l. is_on last l c.args.id) (sym (same_blocks nodes)) ∙ unknown in
    subst (λ l. AllByRecursion (λ e. bytes_eq c.args.id e.parent ≡ false) l)
    (sym (ap edges_of (ok_after c.make_room_and_link-room.result went c.make_room_and_link-room.ensures.nodes) ∙ read_through edge_of (with_children (linked block)) (λ e. refl) nodes))
    (childless_edges last nodes c.args.id c.self.invariant.grown off)

pub push-requires-clause-new : goal.push-requires-clause-new
push-requires-clause-new g c =
    let nodes = c.self.inside.nodes.entries in
    let id = c.args.id in
    let block : Header = record { id = id; parent = c.args.parent; height = c.args.height } in
    let went = sym c.is_err.ensures.value ∙ c.if-is_err.false in
    let unknown : is_on c.self.inside.last (blocks_in (map entry_of nodes)) id ≡ false = rw (← c.self.view_is) at c.requires.unknown in
    let off : has_block (blocks_of nodes) id ≡ false =
    ap (λ l. has_block l id) (sym (same_blocks nodes)) ∙ (or_parts _ (has_block (blocks_in (map entry_of nodes)) id) unknown).1
    in
    not_found c.make_room_and_link-room.new.nodes.entries id
    (ap (λ l. has_block (blocks_of l) id) (ok_after c.make_room_and_link-room.result went c.make_room_and_link-room.ensures.nodes) ∙ ap (λ l. has_block l id) (blocks_changed (linked block) nodes) ∙ off)

pub invariant_of-self-2 : goal.invariant_of-self-2
invariant_of-self-2 g c =
    let nodes = c.self.inside.nodes.entries in
    let last = c.self.inside.last in
    let went = sym c.is_err.ensures.value ∙ c.if-is_err.false in
    let unknown : is_on last (blocks_in (map entry_of nodes)) c.args.id ≡ false = rw (← c.self.view_is) at c.requires.unknown in
    let follows : is_on last (blocks_in (map entry_of nodes)) c.args.parent ≡ true = rw (← c.self.view_is) at c.requires.follows in
    rw (c.push.ensures, ok_after c.make_room_and_link-room.result went c.make_room_and_link-room.ensures.nodes, ok_after c.make_room_and_link-room.result went c.make_room_and_link-room.ensures.first)
    (kept_issued last c.self.inside.children nodes _ _ c.args.id _ c.self.invariant c.new.ensures
    (ap (λ l. is_on last l c.args.id) (sym (same_blocks nodes)) ∙ unknown)
    (ap (λ l. is_on last l c.args.parent) (sym (same_blocks nodes)) ∙ follows)
    (omega (arith, (ok_after c.make_room_and_link-room.result went c.make_room_and_link-room.ensures.room).1, c.clear.ensures.capacity)))

pub returns-clause-ok : goal.returns-clause-ok
returns-clause-ok g c =
    let nodes = c.self.inside.nodes.entries in
    let block : Header = record { id = c.args.id; parent = c.args.parent; height = c.args.height } in
    let went = sym c.is_err.ensures.value ∙ c.if-is_err.false in
    let new : List ℕ × Node g.row.T.Denot = (c.args.id, record { number = _; up = _; parent = c.args.parent; height = c.args.height; children = c.new.result; load = c.args.load }) in
    let seen = ap (map entry_of) (c.push.ensures ∙ ap (λ l. l ++ new ∷ []) (ok_after c.make_room_and_link-room.result went c.make_room_and_link-room.ensures.nodes))
    ∙ map-append entry_of (map (with_children (linked block)) nodes) (new ∷ []) ∙ ap (λ l. l ++ record { block = block; load = c.args.load } ∷ []) (seen_changed (linked block) nodes)
    in
    rw (← c.self.view_is) (λ j. record { last = c.self.inside.last; height = c.self.inside.height; pending = seen j; rejected = c.clear.ensures.items j })
