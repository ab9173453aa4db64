use Rattle.std.proofs.Common.{◌<◌, length, Some, None, slice_get, refl, sym, ap, ◌∙◌, arith}
use Rattle.std.specs.Option.{option_copied}
use Rattle.std.specs.Map.{values_of}
use Rattle.std.proofs.lemmas.Option.{none-some, same_Some}
use Rattle.snow_tree.proofs.Edges.{looked_at, node_there, value_there, value_missing}
use Rattle.snow_tree.proofs.row.Row.get.Goals as goal

pub returns-in_err-place : goal.returns-in_err-place
returns-in_err-place g c =
    let items = c.self.inside.entries.items in
    rw (← c.self.view_is) (record {
      value = looked_at items c.args.id.now c.place_of_id.result (option_copied c.from_residual.result) c.place_of_id.ensures
          (λ i e. absurd (none-some i (sym c.in_err-place.was ∙ e))) (λ e. ap option_copied c.from_residual.ensures);
    })

pub returns-in-Some : goal.returns-in-Some
returns-in-Some g c =
    let items = c.self.inside.entries.items in
    let place = c.in_ok-place.place in
    let x = c.in-Some.entry.now in
    let within : place < length items = omega (arith, c.in-Some.ensures.variant.0 refl, c.self.inside.entries.ok.0) in
    let there = value_there items place x (node_there items place x within c.in-Some.ensures.lookup) in
    rw (← c.self.view_is) (record {
      value = looked_at items c.args.id.now c.place_of_id.result (Some x.1) c.place_of_id.ensures
          (λ i e. there ∙ ap (slice_get (values_of items)) (same_Some place i (sym c.in_ok-place.was ∙ e)))
          (λ e. absurd (none-some place (sym e ∙ c.in_ok-place.was)));
    })

pub returns-in-None : goal.returns-in-None
returns-in-None g c =
    let items = c.self.inside.entries.items in
    let place = c.in_ok-place.place in
    rw (← c.self.view_is) (record {
      value = looked_at items c.args.id.now c.place_of_id.result None c.place_of_id.ensures
          (λ i e. value_missing items place c.in-None.ensures.item.3 ∙ ap (slice_get (values_of items)) (same_Some place i (sym c.in_ok-place.was ∙ e)))
          (λ e. refl);
    })
