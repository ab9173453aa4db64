-- What is missed is known again once the block was taken.
use Rattle.std.proofs.Common.{refl, sym, ap, subst, ◌∙◌}
use Rattle.snow_store.specs.declared.store.KeptBlock.{KeptBlock}
use Rattle.snow_boot.specs.Kept.Fetching.{Hunt}
use Rattle.snow_store.specs.Kept.Indexing.{Shelf}
use Rattle.snow_store.specs.Laws.Linking.{held_heights}
use Rattle.snow_store.specs.Model.Needing.{is_missed, Covers}
use Rattle.snow_store.specs.Kept.Renewing.{fetch_by}
use Rattle.snow_store.specs.Model.Paths.{missed}
use Rattle.snow_store.specs.Clauses.Coming.{after_verdict}
use Rattle.snow_store.proofs.Renewed.{kept_there}
use Rattle.snow_boot.proofs.Fetched.{has_come}
use Rattle.snow_boot.proofs.fetching.Fetching.came.Goals as goal

pub links-requires : goal.links-requires
links-requires g c = (c.self.invariant (ap (λ (v : Hunt). v.whole) c.self.view_is ∙ c.requires)).0

pub take-requires : goal.take-requires
take-requires g c = (c.self.invariant (ap (λ (v : Hunt). v.whole) c.self.view_is ∙ c.requires)).0

pub renew-requires-clause-whole : goal.renew-requires-clause-whole
renew-requires-clause-whole g c = ap (λ (s : Shelf). s.whole) c.in_ok-verdict.ensures.store

pub renew-requires-clause-held : goal.renew-requires-clause-held
renew-requires-clause-held g c keeps =
    let b : KeptBlock = record { header = c.args.header.now; bytes = c.args.bytes.now } in
    ap (λ (s : Shelf). held_heights s.store.kept b.header.height) c.in_ok-verdict.ensures.store ∙ kept_there c.self.inside.store.store b c.in_ok-verdict.verdict keeps

pub invariant_of-self-2 : goal.invariant_of-self-2
invariant_of-self-2 g c whole =
    let i = c.self.inside in
    let known = c.self.invariant (ap (λ (v : Hunt). v.whole) c.self.view_is ∙ c.requires) in
    let b : KeptBlock = record { header = c.args.header.now; bytes = c.args.bytes.now } in
    let come = has_come i.store.store c.take.new.self.store i.targets i.found c.renew.new.found b c.in_ok-verdict.verdict c.missed-before.result i.needs c.renew.new.needs i.due c.in_ok-due.due c.links.ensures
    c.in_ok-verdict.ensures.answer (c.missed-before.ensures ∙ sym (ap (λ (h : Hunt). missed h.fetch b.header.id) c.self.view_is)) known.1 (ap (λ (s : Shelf). s.store) c.in_ok-verdict.ensures.store)
    c.in_ok-due.ensures in
    (ap (λ (s : Shelf). s.whole) c.in_ok-verdict.ensures.store, come.has)

pub returns-clause-fetch : goal.returns-clause-fetch
returns-clause-fetch g c =
    let i = c.self.inside in
    let known = c.self.invariant (ap (λ (v : Hunt). v.whole) c.self.view_is ∙ c.requires) in
    let b : KeptBlock = record { header = c.args.header.now; bytes = c.args.bytes.now } in
    let come = has_come i.store.store c.take.new.self.store i.targets i.found c.renew.new.found b c.in_ok-verdict.verdict c.missed-before.result i.needs c.renew.new.needs i.due c.in_ok-due.due c.links.ensures
    c.in_ok-verdict.ensures.answer (c.missed-before.ensures ∙ sym (ap (λ (h : Hunt). missed h.fetch b.header.id) c.self.view_is)) known.1 (ap (λ (s : Shelf). s.store) c.in_ok-verdict.ensures.store)
    c.in_ok-due.ensures in
    (refl, come.is ∙ ap (λ (h : Hunt). after_verdict h.fetch b c.in_ok-verdict.verdict) c.self.view_is)

pub returns-clause-due : goal.returns-clause-due
returns-clause-due g c =
    let i = c.self.inside in
    let known = c.self.invariant (ap (λ (v : Hunt). v.whole) c.self.view_is ∙ c.requires) in
    let b : KeptBlock = record { header = c.args.header.now; bytes = c.args.bytes.now } in
    let come = has_come i.store.store c.take.new.self.store i.targets i.found c.renew.new.found b c.in_ok-verdict.verdict c.missed-before.result i.needs c.renew.new.needs i.due c.in_ok-due.due c.links.ensures
    c.in_ok-verdict.ensures.answer (c.missed-before.ensures ∙ sym (ap (λ (h : Hunt). missed h.fetch b.header.id) c.self.view_is)) known.1 (ap (λ (s : Shelf). s.store) c.in_ok-verdict.ensures.store)
    c.in_ok-due.ensures in
    subst (λ (h : Hunt). Covers h.due (is_missed h.fetch h.fetch.targets) c.in_ok-due.due (is_missed (fetch_by c.take.new.self.store i.targets c.renew.new.found) i.targets)) c.self.view_is come.due
