-- What the index has of the identifier.
use Rattle.std.proofs.Common.{ap, ◌∙◌}
use Rattle.snow_store.specs.Kept.Indexing.{Shelf, links_of}
use Rattle.snow_store.proofs.store.Store.links_of.Goals as goal

pub returns : goal.returns
returns g c =
    let is = c.self.invariant (ap (λ (v : Shelf). v.whole) c.self.view_is ∙ c.requires) in
    c.links_at.ensures ∙ is.links c.args.id.now ∙ ap (λ (v : Shelf). links_of v.store.kept c.args.id.now) c.self.view_is
