-- What a target misses, as its block or its absence in the list of those found tells.
use Rattle.std.proofs.Common.{ap, ◌∙◌}
use Rattle.snow_boot.specs.Kept.Fetching.{Hunt}
use Rattle.snow_store.specs.Model.Paths.{Fetch, missed}
use Rattle.snow_store.proofs.Storing.{missed_is}
use Rattle.snow_boot.proofs.fetching.Fetching.missed.Goals as goal

pub returns : goal.returns
returns g c =
    let f : Fetch = record { store = c.self.inside.store.store; targets = c.self.inside.targets; found = c.self.inside.found } in
    c.missed.ensures c.self.inside.found c.has.ensures ∙ missed_is f c.args.target.now ∙ ap (λ (v : Hunt). missed v.fetch c.args.target.now) c.self.view_is

pub missed-requires : goal.missed-requires
missed-requires g c = (c.self.invariant (ap (λ (v : Hunt). v.whole) c.self.view_is ∙ c.requires)).0
