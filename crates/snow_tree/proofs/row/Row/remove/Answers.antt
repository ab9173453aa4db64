use Rattle.std.proofs.Common.{◌≡◌, ◌<◌, length, bytes_eq, Some, OnSome, refl, sym, ap, subst, ◌∙◌, arith}
use Rattle.std.specs.HashMap.{get}
use Rattle.std.specs.List.{remove}
use Rattle.snow_tree.proofs.Edges.{node_there, place_own, place_gone}
use Rattle.snow_tree.proofs.row.Row.remove.Given as given
use Rattle.snow_tree.proofs.row.Row.remove.Goals as goal
use Rattle.snow_tree.proofs.row.Row.remove.Goals.{After-remove}

pub forget-requires : goal.forget-requires
forget-requires g c =
    let inside = c.self.inside in
    let items = inside.entries.items in
    let e = c.in-Some.entry.now in
    let within : c.args.place < length items = omega (arith, c.in-Some.ensures.variant.0 refl, inside.entries.ok.0) in
    place_own items c.args.place e (λ k. get bytes_eq inside.numbers.map k) inside.numbers.hints inside.next c.self.invariant (node_there items c.args.place e within c.in-Some.ensures.lookup)

-- the node that stood there comes out
gone : (g : given.Over) (c : After-remove g) → c.remove.result ≡ Some c.in-Some.entry.now
gone g c =
    let inside = c.self.inside in
    let e = c.in-Some.entry.now in
    let within : c.args.place < length inside.entries.items = omega (arith, c.in-Some.ensures.variant.0 refl, inside.entries.ok.0) in
    c.remove.ensures.succeeds e (omega (arith, within, inside.entries.ok.0)) ∙ ap Some (sym c.in-Some.ensures.lookup)

left : (g : given.Over) (c : After-remove g) → c.remove.new.self.items ≡ remove c.self.inside.entries.items c.args.place
left g c = subst (λ o. OnSome o (c.remove.new.self.items ≡ remove c.self.inside.entries.items c.args.place)) (gone g c) c.remove.ensures.items

pub invariant_of-self : goal.invariant_of-self
invariant_of-self g c =
    let inside = c.self.inside in
    let items = inside.entries.items in
    let e = c.in-Some.entry.now in
    let within : c.args.place < length items = omega (arith, c.in-Some.ensures.variant.0 refl, inside.entries.ok.0) in
    rw (left g (goal.at.invariant_of-self g c).After-remove, c.forget.ensures.hints)
    (place_gone items c.args.place e (λ k. get bytes_eq inside.numbers.map k) _ inside.numbers.hints inside.next c.self.invariant (node_there items c.args.place e within c.in-Some.ensures.lookup) c.forget.ensures.map)

pub returns-clause-node : goal.returns-clause-node
returns-clause-node g c =
    let items = c.self.inside.entries.items in
    let e = c.in-Some.entry.now in
    let within : c.args.place < length items = omega (arith, c.in-Some.ensures.variant.0 refl, c.self.inside.entries.ok.0) in
    rw (← c.self.view_is) (gone g (goal.at.returns-clause-node g c).After-remove ∙ sym (node_there items c.args.place e within c.in-Some.ensures.lookup))

pub returns-clause-rest : goal.returns-clause-rest
returns-clause-rest g c = rw (← c.self.view_is) (left g (goal.at.returns-clause-rest g c).After-remove)
