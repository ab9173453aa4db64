-- The block at the place has the height, and no other has.
use Rattle.std.proofs.Common.{◌≡◌, Some, reverse, sym, ap, ◌∙◌}
use Rattle.std.specs.List.{slice_get}
use Rattle.std.proofs.lemmas.List.{reverse-reverse}
use Rattle.snow_store.specs.Kept.Indexing.{Shelf}
use Rattle.snow_store.specs.Model.Keeping.{held}
use Rattle.snow_store.proofs.Indexed.{held_there}
use Rattle.snow_store.proofs.store.Store.in_run.Goals as goal

pub returns : goal.returns
returns g c =
    let items = c.self.inside.kept.items in
    let is = c.self.invariant (ap (λ (v : Shelf). v.whole) c.self.view_is ∙ c.requires) in
    let there : slice_get (reverse (reverse items)) c.in_ok-place.place ≡ Some c.in_ok-block.block.now =
    ap (λ l. slice_get l c.in_ok-place.place) (reverse-reverse items ∙ sym c.as_slice.ensures.value) ∙ sym c.in_ok-block.ensures in
    sym (ap (λ (v : Shelf). held v.store.kept c.args.height) c.self.view_is) ∙ ap (held (reverse items)) (sym c.if-block-height.false)
    ∙ held_there (reverse items) c.in_ok-place.place c.in_ok-block.block.now is.linked.apart there
