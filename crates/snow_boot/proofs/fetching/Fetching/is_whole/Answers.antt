-- Nothing is missed where the set is empty.
use Rattle.std.proofs.Common.{ap, ◌∙◌}
use Rattle.snow_boot.specs.Kept.Fetching.{Hunt}
use Rattle.snow_store.specs.Model.Paths.{is_whole}
use Rattle.snow_store.specs.Kept.Renewing.{fetch_by}
use Rattle.snow_boot.proofs.fetching.Fetching.is_whole.Goals as goal

pub returns : goal.returns
returns g c =
    c.is_met.ensures (fetch_by c.self.inside.store.store c.self.inside.targets c.self.inside.found) (c.self.invariant (ap (λ (v : Hunt). v.whole) c.self.view_is ∙ c.requires)).1
    ∙ ap (λ (v : Hunt). is_whole v.fetch) c.self.view_is
