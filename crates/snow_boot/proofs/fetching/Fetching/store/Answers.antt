-- The store is as it should be.
use Rattle.std.proofs.Common.{true, ap, ◌∙◌}
use Rattle.snow_boot.specs.Kept.Fetching.{Hunt}
use Rattle.snow_store.specs.Kept.Indexing.{Shelf}
use Rattle.snow_boot.proofs.fetching.Fetching.store.Goals as goal

pub returns : goal.returns
returns g c =
    ap (λ w. (let shelf : Shelf = record { whole = w; store = c.self.inside.store.store } in shelf)) (c.self.invariant (ap (λ (v : Hunt). v.whole) c.self.view_is ∙ c.requires)).0
    ∙ ap (λ (v : Hunt). (let shelf : Shelf = record { whole = true; store = v.fetch.store } in shelf)) c.self.view_is
