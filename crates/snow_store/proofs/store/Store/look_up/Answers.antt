-- The block at its place.
use Rattle.std.proofs.Common.{reverse, sym, ap, ◌∙◌}
use Rattle.std.specs.List.{slice_get}
use Rattle.std.proofs.lemmas.List.{reverse-reverse}
use Rattle.snow_store.specs.Kept.Indexing.{Shelf}
use Rattle.snow_store.specs.Model.Keeping.{held}
use Rattle.snow_store.proofs.Indexed.{no_place, at_place}
use Rattle.snow_store.proofs.store.Store.look_up.Goals as goal

pub returns-in-Some : goal.returns-in-Some
returns-in-Some g c =
    let items = c.self.inside.kept.items in
    let is = c.self.invariant (ap (λ (v : Shelf). v.whole) c.self.view_is ∙ c.requires) in
    let there = at_place (reverse items) c.args.height c.in-Some.place.now (sym (c.in-Some.ensures.value ∙ is.places c.args.height)) in
    c.item_at.ensures ∙ ap (λ l. slice_get l c.in-Some.place.now) (c.as_slice.ensures.value ∙ sym (reverse-reverse items)) ∙ there.1
    ∙ ap (λ (v : Shelf). held v.store.kept c.args.height) c.self.view_is

pub returns-in-None : goal.returns-in-None
returns-in-None g c =
    let is = c.self.invariant (ap (λ (v : Shelf). v.whole) c.self.view_is ∙ c.requires) in
    sym (no_place (reverse c.self.inside.kept.items) c.args.height (sym (c.in-None.ensures.value ∙ is.places c.args.height)))
    ∙ ap (λ (v : Shelf). held v.store.kept c.args.height) c.self.view_is
