-- The block's identifier has its top, and its parent has one child more.
use Rattle.std.proofs.Common.{◌≡◌, ℕ, List, ◌∷◌, Some, Bool, true, false, cond, bytes_eq, refl, sym, ap, subst, ◌∙◌}
use Rattle.snow_base.specs.declared.block.Header.{Header}
use Rattle.snow_map.specs.Clauses.Entries.{value_of, HasAt}
use Rattle.snow_store.specs.declared.store.KeptBlock.{KeptBlock}
use Rattle.snow_store.specs.declared.index.Links.{Links}
use Rattle.snow_store.specs.Kept.Indexing.{HasLinks, links_of, with_top, adopting, links_or_none, links_at}
use Rattle.snow_store.proofs.Indexed.{links_more}
use Rattle.snow_store.proofs.index.note_links.Goals as goal

noted : (before mid now : List (List ℕ × Links)) (kept : List KeptBlock) (b : KeptBlock) (links : Links) (h : Header) → b.header ≡ h → links ≡ links_of kept h.id
    → HasAt before mid h.id (Some (with_top h.height links)) → HasAt mid now h.parent (Some (adopting h.height (links_at mid h.parent)))
    → HasLinks before kept → HasLinks now (b ∷ kept)
noted before mid now kept b links h at is top child has =
    links_more before mid now kept b links (subst (λ (x : Header). links ≡ links_of kept x.id) (sym at) is)
    (subst (λ (x : Header). HasAt before mid x.id (Some (with_top x.height links))) (sym at) top)
    (subst (λ (x : Header). HasAt mid now x.parent (Some (adopting x.height (links_at mid x.parent)))) (sym at) child)
    has

-- what is put twice is what was put last
put_twice : (before mid now : List (List ℕ × Links)) (id : List ℕ) (first last : Links) → HasAt before mid id (Some first) → HasAt mid now id (Some last) → HasAt before now id (Some last)
put_twice before mid now id first last one two q = two q ∙ ap (cond (bytes_eq id q) (Some last)) (one q) ∙ by_test (bytes_eq id q)
  where
    by_test : (t : Bool) → cond t (Some last) (cond t (Some first) (value_of before q)) ≡ cond t (Some last) (value_of before q)
    by_test true = refl
    by_test false = refl

pub returns-in_default : goal.returns-in_default
returns-in_default c kept b at is has =
    let mid : List (List ℕ × Links) = c.insert.new.self in
    let h = c.args.header.now in
    noted c.args.by_id.now mid c.insert-2.new.self kept b c.args.links h at is
    (subst (λ (l : Links). HasAt c.args.by_id.now mid h.id (Some l)) c.with_top.ensures c.in_ok-insert.ensures.updates)
    (subst (λ (l : Links). HasAt mid c.insert-2.new.self h.parent (Some l))
    (c.adopting-first.ensures ∙ ap (λ o. adopting h.height (links_or_none o)) (sym c.in_default.is ∙ c.in_ok-parent.ensures.before)) c.in_ok-parent.ensures.updates)
    has

pub returns-in_ok-insert-2 : goal.returns-in_ok-insert-2
returns-in_ok-insert-2 c kept b at is has =
    let mid : List (List ℕ × Links) = c.insert.new.self in
    let now : List (List ℕ × Links) = c.insert-in-Some.new.self in
    let h = c.args.header.now in
    noted c.args.by_id.now mid now kept b c.args.links h at is
    (subst (λ (l : Links). HasAt c.args.by_id.now mid h.id (Some l)) c.with_top.ensures c.in_ok-insert.ensures.updates)
    (subst (λ (l : Links). HasAt mid now h.parent (Some l))
    (c.adopting.ensures ∙ ap (λ o. adopting h.height (links_or_none o)) (sym c.in-Some.is ∙ c.in_ok-parent.ensures.before))
    (put_twice mid c.insert-2.new.self now h.parent c.adopting-first.result c.adopting.result c.in_ok-parent.ensures.updates c.in_ok-insert-2.ensures.updates))
    has
