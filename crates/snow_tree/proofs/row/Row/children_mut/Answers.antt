use Rattle.std.proofs.Common.{◌≡◌, ◌<◌, ◌≤◌, ◌-◌, ◌^◌, inl, inr, min, length, slice_set, bytes_eq, deque_len, deque_capacity, refl, sym, ap, subst, ◌∙◌, arith}
use Rattle.std.specs.HashMap.{get, spare}
use Rattle.std.specs.Option.{option_map}
use Rattle.snow_tree.specs.Kept.Row.{IsNumbered, edge_of, edges_of, set_children_at}
use Rattle.snow_tree.proofs.Edges.{read_linked, children_written, node_there, value_there, value_missing}
use Rattle.snow_tree.proofs.row.Row.children_mut.Goals as goal

pub invariant_of-self-lent : goal.invariant_of-self-lent
invariant_of-self-lent g c =
    λ w.
    let inside = c.self.inside in
    let items = inside.entries.items in
    let place = c.args.place in
    let e = c.in-Some.entry.now in
    let within : place < length items = omega (arith, c.in-Some.ensures.variant.0 refl, inside.entries.ok.0) in
    let written : slice_set items place (e.0, record e.1 { children = w }) ≡ set_children_at items place w = children_written items place e w within c.in-Some.ensures.value in
    subst (λ l. IsNumbered l (λ k. get bytes_eq inside.numbers.map k) inside.numbers.hints inside.next)
    (sym (ap edges_of written ∙ read_linked edge_of items place w (λ x. refl))) c.self.invariant

pub returns-in-Some : goal.returns-in-Some
returns-in-Some g c =
    let inside = c.self.inside in
    let items = inside.entries.items in
    let place = c.args.place in
    let e = c.in-Some.entry.now in
    let within : place < length items = omega (arith, c.in-Some.ensures.variant.0 refl, inside.entries.ok.0) in
    let there = value_there items place e (node_there items place e within c.in-Some.ensures.value) in
    rw (← c.self.view_is) (
      (λ i. inl (
        c.entry-1.given,
        λ w. record {
          entries = children_written items place e w within c.in-Some.ensures.value i;
          spare = min (2 ^ 64 - 1 - inside.next) (min (length inside.numbers.hints) (min (spare inside.numbers.map) (deque_capacity inside.entries - deque_len inside.entries)));
          next = inside.next;
        },
      )),
      record { writes_back = tt; value = ap (option_map (λ n. n.children)) there },
    )

pub returns-in-None : goal.returns-in-None
returns-in-None g c =
    let items = c.self.inside.entries.items in
    let past : length items ≤ c.args.place = c.in-None.ensures.item.3 in
    (λ i. inr (c.self.view_is i), record { writes_back = tt; value = rw (← c.self.view_is) (ap (option_map (λ n. n.children)) (value_missing items c.args.place past)) })
