use Rattle.std.proofs.Common.{◌≡◌, ◌<◌, ◌||◌, false, length, take, nat_eq, is_some, refl, sym, ap, ◌∙◌, arith, ne_eqb}
use Rattle.std.specs.List.{list_any}
use Rattle.std.proofs.lemmas.Option.{none-some, same_Some}
use Rattle.snow_tree.specs.Kept.Row.{is_above}
use Rattle.snow_tree.proofs.Edges.{node_there, node_missing, number_among}
use Rattle.snow_tree.proofs.sweeping.is_above.Goals as goal

pub returns-else-number-up : goal.returns-else-number-up
returns-else-number-up g c =
    λ e at.
    let items = c.args.entries.now.items in
    let kept = take c.args.kept items in
    let x = c.in-Some.entry.now in
    let within : c.args.place < length items = omega (arith, c.in-Some.ensures.variant.0 refl, c.args.entries.now.ok.0) in
    let same = same_Some x e (sym (node_there items c.args.place x within c.in-Some.ensures.lookup) ∙ at) in
    let other : nat_eq c.args.number x.1.up ≡ false = ne_eqb c.args.number x.1.up (λ is. omega (arith, c.if-number-up.false, is)) in
    c.is_some.ensures ∙ ap is_some c.place_of_number.ensures ∙ number_among kept x.1.up
    ∙ ap (λ b. b || list_any (λ y. nat_eq y.1.number x.1.up) kept) (sym other)
    ∙ ap (is_above c.args.number kept) same

pub returns-in-None : goal.returns-in-None
returns-in-None g c = λ e at. absurd (none-some e (node_missing c.args.entries.now.items c.args.place c.in-None.ensures.item.3 ∙ at))
