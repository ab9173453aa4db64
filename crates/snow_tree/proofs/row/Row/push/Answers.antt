use Rattle.std.proofs.Common.{ℕ, List, ◌+◌, ◌<◌, ◌∷◌, [], length, bytes_eq, slice_set, sym, subst, arith}
use Rattle.std.proofs.lemmas.List.{map-append}
use Rattle.std.specs.HashMap.{get}
use Rattle.snow_tree.specs.Kept.Hints.{slot_of}
use Rattle.snow_tree.specs.Kept.Row.{IsNumbered, edge_of, edges_of}
use Rattle.snow_tree.specs.declared.node.Node.{Node}
use Rattle.snow_tree.proofs.Edges.{before_new}
use Rattle.snow_tree.proofs.Told.{one_told}
use Rattle.snow_tree.proofs.row.Row.push.Goals as goal

pub invariant_of-self : goal.invariant_of-self
invariant_of-self g c =
    let inside = c.self.inside in
    let items = inside.entries.items in
    let hints = inside.numbers.hints in
    let e : List ℕ × Node g.row.T.Denot = (c.args.id, c.args.node) in
    let free = rw (← c.self.view_is) at c.requires.room in
    let some : 0 < length hints = omega (arith, free) in
    let fresh = before_new items (edge_of e) c.args.at (λ k. get bytes_eq inside.numbers.map k) hints inside.next c.self.invariant
    (rw (← c.self.view_is) at c.requires.number) (rw (← c.self.view_is) at c.requires.up) c.requires.other (rw (← c.self.view_is) at c.requires.new)
    (rw (← c.self.view_is) at c.requires.place) (rw (← c.self.view_is) at c.requires.childless)
    in
    rw (c.push_back_reserved.ensures.items, c.take_slot.ensures.hints)
    (subst (λ l. IsNumbered l (λ k. get bytes_eq c.take_slot.new.self.map k) (slice_set hints (slot_of (length hints) c.args.id) inside.next) (inside.next + 1)) (sym (map-append edge_of items (e ∷ [])))
    (one_told (edges_of items) (edge_of e) (λ k. get bytes_eq inside.numbers.map k) _ hints inside.next c.self.invariant some (rw (← c.self.view_is) at c.requires.number) fresh.0 fresh.1
    c.take_slot.ensures.map))
