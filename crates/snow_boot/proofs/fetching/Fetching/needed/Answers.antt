-- The set has what the targets miss.
use Rattle.std.proofs.Common.{◌≡◌, Bool, Some, None, if◌then◌else◌, sym, ap, ◌∙◌}
use Rattle.snow_boot.specs.Kept.Fetching.{Hunt}
use Rattle.snow_store.specs.Model.Needing.{is_missed}
use Rattle.snow_store.specs.Kept.Renewing.{fetch_by}
use Rattle.snow_store.proofs.Counting.{has_missed}
use Rattle.snow_boot.proofs.fetching.Fetching.needed.Goals as goal

pub returns-then-contains_key : goal.returns-then-contains_key
returns-then-contains_key g c =
    let id = c.args.id in
    let is : c.contains_key.result ≡ is_missed c.args.self.now.fetch c.args.self.now.fetch.targets id =
    c.contains_key.ensures
    ∙ has_missed c.self.inside.needs (fetch_by c.self.inside.store.store c.self.inside.targets c.self.inside.found)
    (c.self.invariant (ap (λ (v : Hunt). v.whole) c.self.view_is ∙ c.requires)).1 id ∙ ap (λ (v : Hunt). is_missed v.fetch v.fetch.targets id) c.self.view_is in
    ap (λ (b : Bool). if b then Some id else None) (sym c.if-contains_key.true ∙ is)

pub returns : goal.returns
returns g c =
    let id = c.args.id in
    let is : c.contains_key.result ≡ is_missed c.args.self.now.fetch c.args.self.now.fetch.targets id =
    c.contains_key.ensures
    ∙ has_missed c.self.inside.needs (fetch_by c.self.inside.store.store c.self.inside.targets c.self.inside.found)
    (c.self.invariant (ap (λ (v : Hunt). v.whole) c.self.view_is ∙ c.requires)).1 id ∙ ap (λ (v : Hunt). is_missed v.fetch v.fetch.targets id) c.self.view_is in
    ap (λ (b : Bool). if b then Some id else None) (sym c.if-contains_key.false ∙ is)
