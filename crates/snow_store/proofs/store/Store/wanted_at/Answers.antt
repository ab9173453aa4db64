-- The lowest block of the run.
use Rattle.std.proofs.Common.{◌≡◌, Some, None, reverse, sym, ap, ◌∙◌}
use Rattle.snow_interval.specs.Model.Heights.{lowest}
use Rattle.snow_store.specs.Kept.Indexing.{Shelf}
use Rattle.snow_store.specs.Model.Keeping.{Store, held}
use Rattle.snow_store.specs.Laws.Linking.{held_heights}
use Rattle.snow_store.specs.Model.Needing.{need_at}
use Rattle.snow_store.specs.Model.Paths.{wanted_below}
use Rattle.snow_store.proofs.Storing.{same_lowest}
use Rattle.snow_store.proofs.store.Store.wanted_at.Goals as goal

pub lowest-requires : goal.lowest-requires
lowest-requires g c =
    let is = c.self.invariant (ap (λ (v : Shelf). v.whole) c.self.view_is ∙ c.requires.whole) in
    is.runs c.args.height ∙ ap (λ (v : Shelf). held_heights v.store.kept c.args.height) c.self.view_is ∙ c.requires.held

pub returns-in-Some : goal.returns-in-Some
returns-in-Some g c =
    let s : Store = record { last = c.self.inside.last; height = c.self.inside.height; kept = reverse c.self.inside.kept.items } in
    let is = c.self.invariant (ap (λ (v : Shelf). v.whole) c.self.view_is ∙ c.requires.whole) in
    let low : c.lowest.result ≡ lowest (held_heights s.kept) c.args.height = c.lowest.ensures ∙ same_lowest (g.H.Kept.held c.self.inside.heights) (held_heights s.kept) is.runs c.args.height in
    let below : Some c.in-Some.block.now ≡ held s.kept c.lowest.result = c.in-Some.ensures ∙ sym (ap (λ (v : Shelf). held v.store.kept c.lowest.result) c.self.view_is) in
    c.wanted_below.ensures ∙ ap (wanted_below s.height) (below ∙ ap (held s.kept) low) ∙ ap (λ (v : Shelf). need_at v.store c.args.height) c.self.view_is

pub returns-in-None : goal.returns-in-None
returns-in-None g c =
    let s : Store = record { last = c.self.inside.last; height = c.self.inside.height; kept = reverse c.self.inside.kept.items } in
    let is = c.self.invariant (ap (λ (v : Shelf). v.whole) c.self.view_is ∙ c.requires.whole) in
    let low : c.lowest.result ≡ lowest (held_heights s.kept) c.args.height = c.lowest.ensures ∙ same_lowest (g.H.Kept.held c.self.inside.heights) (held_heights s.kept) is.runs c.args.height in
    let below : None ≡ held s.kept c.lowest.result = c.in-None.ensures ∙ sym (ap (λ (v : Shelf). held v.store.kept c.lowest.result) c.self.view_is) in
    ap (wanted_below s.height) (below ∙ ap (held s.kept) low) ∙ ap (λ (v : Shelf). need_at v.store c.args.height) c.self.view_is
