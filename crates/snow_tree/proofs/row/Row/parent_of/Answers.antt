use Rattle.std.proofs.Common.{◌<◌, length, nat_eq, refl, ap, ◌∙◌, arith}
use Rattle.std.specs.List.{position}
use Rattle.std.proofs.lemmas.Option.{none-some}
use Rattle.snow_tree.specs.Kept.Row.{edge_of, edges_of}
use Rattle.snow_tree.proofs.Edges.{edge_place, node_there, node_missing}
use Rattle.snow_tree.proofs.Ordered.{parent_place}
use Rattle.snow_tree.proofs.Searched.{all_taken, edge_there}
use Rattle.snow_tree.proofs.Seen.{parent_found}
use Rattle.snow_tree.proofs.row.Row.parent_of.Goals as goal

pub returns-in-Some : goal.returns-in-Some
returns-in-Some g c =
    let inside = c.self.inside in
    let items = inside.entries.items in
    let place = c.args.place in
    let x = c.in-Some.entry.now in
    let within : place < length items = omega (arith, c.in-Some.ensures.variant.0 refl, inside.entries.ok.0) in
    let there = node_there items place x within c.in-Some.ensures.lookup in
    rw (← c.self.view_is)
    (parent_found items place x c.place_of_number.result there
    (c.place_of_number.ensures
    ∙ ap (λ l. position (λ e. nat_eq e.number x.1.up) (edges_of l)) (all_taken items c.len.result (c.len.ensures ∙ inside.entries.ok.0))
    ∙ parent_place (edges_of items) place (edge_of x) inside.next c.self.invariant.order c.self.invariant.own (edge_there items place x there)
    ∙ edge_place items x.1.parent))

pub returns-in-None : goal.returns-in-None
returns-in-None g c =
    rw (← c.self.view_is)
    (λ e at. absurd (none-some e (node_missing c.self.inside.entries.items c.args.place c.in-None.ensures.item.3 ∙ at)))
