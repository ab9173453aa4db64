-- A block that fits is kept, and noted in each index.
use Rattle.std.proofs.Common.{◌≡◌, ◌<◌, [], ◌∷◌, length, reverse, refl, sym, ap, subst, ◌∙◌, arith}
use Rattle.std.specs.Prelude.{is_some, Result, Ok}
use Rattle.std.proofs.lemmas.List.{reverse-append, length-reverse}
use Rattle.snow_store.specs.declared.store.KeptBlock.{KeptBlock}
use Rattle.snow_store.specs.declared.stop.BootStop.{BootStop}
use Rattle.snow_store.specs.declared.stop.Verdict.{Verdict}
use Rattle.snow_store.specs.declared.stop.Verdict.TheVariants as verdict
use Rattle.snow_store.specs.Kept.Indexing.{Shelf, links_of}
use Rattle.snow_store.specs.Model.Keeping.{Store, taken}
use Rattle.snow_store.proofs.Linked.{keeps_facts}
use Rattle.snow_store.proofs.Storing.{stored_more}
use Rattle.snow_store.proofs.store.Store.take.Goals as goal

pub add-requires-clause-above : goal.add-requires-clause-above
add-requires-clause-above g c =
    let s : Store = record { last = c.self.inside.last; height = c.self.inside.height; kept = reverse c.self.inside.kept.items } in
    let is = c.self.invariant (ap (λ (v : Shelf). v.whole) c.self.view_is ∙ c.requires) in
    let fits : taken s c.args.header.now ≡ Ok verdict.Keeps = ap (λ (v : Shelf). taken v.store c.args.header.now) c.self.view_is ∙ sym c.in_ok-verdict.ensures ∙ ap (λ (v : Verdict). (let r : Result Verdict BootStop = Ok v in r)) c.in-Keeps.is in
    subst (λ n. n < c.args.header.now.height) (sym is.floor) (keeps_facts s c.args.header.now fits).above

pub add-requires-clause-new : goal.add-requires-clause-new
add-requires-clause-new g c =
    let s : Store = record { last = c.self.inside.last; height = c.self.inside.height; kept = reverse c.self.inside.kept.items } in
    let is = c.self.invariant (ap (λ (v : Shelf). v.whole) c.self.view_is ∙ c.requires) in
    let fits : taken s c.args.header.now ≡ Ok verdict.Keeps = ap (λ (v : Shelf). taken v.store c.args.header.now) c.self.view_is ∙ sym c.in_ok-verdict.ensures ∙ ap (λ (v : Verdict). (let r : Result Verdict BootStop = Ok v in r)) c.in-Keeps.is in
    is.runs c.args.header.now.height ∙ ap is_some (keeps_facts s c.args.header.now fits).free

pub invariant_of-self-2 : goal.invariant_of-self-2
invariant_of-self-2 g c whole =
    let items = c.self.inside.kept.items in
    let s : Store = record { last = c.self.inside.last; height = c.self.inside.height; kept = reverse c.self.inside.kept.items } in
    let b : KeptBlock = record { header = c.args.header.now; bytes = c.in_ok-bytes.bytes } in
    let is = c.self.invariant (ap (λ (v : Shelf). v.whole) c.self.view_is ∙ c.requires) in
    let fits : taken s c.args.header.now ≡ Ok verdict.Keeps = ap (λ (v : Shelf). taken v.store c.args.header.now) c.self.view_is ∙ sym c.in_ok-verdict.ensures ∙ ap (λ (v : Verdict). (let r : Result Verdict BootStop = Ok v in r)) c.in-Keeps.is in
    rw (c.push_reserved.ensures.items, c.in_ok-reserve.ensures.items, reverse-append items (b ∷ []))
    (stored_more s b c.self.inside.places c.note_place.new.places c.self.inside.by_id c.note_links.new.by_id
    (g.H.Kept.floor c.self.inside.heights) (g.H.Kept.floor c.add.new.self) (g.H.Kept.held c.self.inside.heights) (g.H.Kept.held c.add.new.self) is fits c.note_place.ensures.fits
    (c.in_ok-note_place.ensures.noted (reverse items) b refl
    (let e : length (reverse items) ≡ c.len.result = omega (arith, length-reverse items, c.len.ensures, c.reserve.new.self.ok.0, ap length c.in_ok-reserve.ensures.items) in e))
    (c.in_ok-note_links.ensures (reverse items) b refl (c.links_of-links.ensures ∙ sym (ap (λ (v : Shelf). links_of v.store.kept c.args.header.now.id) c.self.view_is)))
    c.add.ensures.floor c.in_ok-add.ensures.held)
