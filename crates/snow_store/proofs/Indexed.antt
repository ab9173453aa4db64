-- The indexes of the kept blocks, with one block more.
use Rattle.std.proofs.Common.{◌≡◌, ℕ, zero, suc, ◌<◌, Bool, true, false, ◌==◌, cond, List, [], ◌∷◌, ◌++◌, length, reverse, Option, Some, None, bytes_eq, nat_lt, if◌then◌else◌, inl, inr, refl, sym, ap, ◌∙◌, arith, subst, ⊎_elim}
use Rattle.std.specs.BTreeMap.{BTreeMap, get, is_at}
use Rattle.std.specs.List.{slice_get}
use Rattle.std.specs.Option.{option_map}
use Rattle.std.specs.Ordering.{nat_cmp, is_eq}
use Rattle.std.proofs.lemmas.Bool.{eq-eqb, ne_eqb, lt-ltb, le-ltb, cases_lt, cases_order}
use Rattle.std.proofs.lemmas.List.{length-append, length-reverse, reverse-append}
use Rattle.std.proofs.lemmas.Option.{slice_get_within}
use Rattle.snow_map.specs.Clauses.Entries.{value_of, HasAt}
use Rattle.snow_store.specs.declared.store.KeptBlock.{KeptBlock}
use Rattle.snow_store.specs.declared.index.Links.{Links}
use Rattle.snow_store.specs.Model.Keeping.{held, highest, higher}
use Rattle.snow_store.specs.Kept.Indexing.{place_of, top_of, higher_height, with_child, children_of, links_of, with_top, adopting, links_or_none, links_at, HasPlaces, HasLinks}
use Rattle.snow_store.specs.Laws.Linking.{AreApart}
use Rattle.snow_store.proofs.Cases.{same_id, same_some, none_not, picked, passed}
use Rattle.snow_store.proofs.Holding.{held_first, held_deeper}

-- whichever of two numbers is compared to the other
pub turned : (a b : ℕ) → (a == b) ≡ (b == a)
turned a b =
    ⊎_elim (λ (same : a ≡ b). eq-eqb a b same ∙ sym (eq-eqb b a (sym same)))
    (λ apart. ⊎_elim
    (λ (less : a < b). ne_eqb a b (λ e. omega (arith, e, less)) ∙ sym (ne_eqb b a (λ e. omega (arith, e, less))))
    (λ (more : b < a). ne_eqb a b (λ e. omega (arith, e, more)) ∙ sym (ne_eqb b a (λ e. omega (arith, e, more))))
    apart)
    (cases_order a b)

-- a height is compared as it is tested
same_height : (a b : ℕ) → is_eq (nat_cmp a b) ≡ (a == b)
same_height a b =
    ⊎_elim (λ (same : a ≡ b). rw (← same, eq-eqb a a refl, le-ltb a a (omega arith)) refl)
    (λ apart. ⊎_elim
    (λ (less : a < b). rw (lt-ltb a b less, ne_eqb a b (λ e. omega (arith, e, less))) refl)
    (λ (more : b < a). rw (le-ltb a b (omega (arith, more)), ne_eqb a b (λ e. omega (arith, e, more))) refl)
    apart)
    (cases_order a b)

-- ---- by height

pub places_more : (before now : BTreeMap ℕ ℕ) (kept : List KeptBlock) (b : KeptBlock) (height place : ℕ)
    → ((q : ℕ) → get nat_cmp now q ≡ cond (is_at (nat_cmp height) q) (Some place) (get nat_cmp before q))
    → b.header.height ≡ height → length kept ≡ place → HasPlaces before kept → HasPlaces now (b ∷ kept)
unfolding place_of
places_more before now kept b height place change at len has q =
    change q ∙ ap (λ t. cond t (Some place) (get nat_cmp before q)) (same_height height q ∙ ap (λ n. n == q) (sym at))
    ∙ ap (λ o. cond (b.header.height == q) (Some place) o) (has q)
    ∙ ap (λ n. cond (b.header.height == q) (Some n) (place_of kept q)) (sym len)

pub no_places : (places : BTreeMap ℕ ℕ) → places.entries ≡ [] → HasPlaces places []
unfolding place_of
no_places places none h = rw none refl

get_last : (items : List KeptBlock) (b : KeptBlock) → slice_get (items ++ b ∷ []) (length items) ≡ Some b
get_last [] b = refl
get_last (c ∷ items) b = get_last items b

get_front : (items : List KeptBlock) (b : KeptBlock) (p : ℕ) → p < length items → slice_get (items ++ b ∷ []) p ≡ slice_get items p
get_front [] b p in_it = absurd (omega (arith, in_it))
get_front (c ∷ items) b zero in_it = refl
get_front (c ∷ items) b (suc p) in_it = get_front items b p (omega (arith, in_it))

-- a block that has no place isn't kept
pub no_place : (kept : List KeptBlock) (h : ℕ) → place_of kept h ≡ None → held kept h ≡ None
unfolding place_of held
no_place [] h e = refl
no_place (b ∷ kept) h e = let p = passed (b.header.height == h) (length kept) (place_of kept h) e in rw p.0 (no_place kept h p.1)

-- the block at its place
pub at_place : (kept : List KeptBlock) (h p : ℕ) → place_of kept h ≡ Some p → (p < length kept) × (slice_get (reverse kept) p ≡ held kept h)
unfolding place_of held
at_place [] h p e = none_not p e
at_place (b ∷ kept) h p e =
    elim (picked (b.header.height == h) (length kept) p (place_of kept h) e) [
      | inl q ↦
          let is : p ≡ length (reverse kept) = sym q.1 ∙ sym (length-reverse kept) in
          (omega (arith, q.1), ap (λ l. slice_get l p) (reverse-append (b ∷ []) kept) ∙ ap (slice_get (reverse kept ++ b ∷ [])) is ∙ get_last (reverse kept) b ∙ rw q.0 refl)
      | inr q ↦
          let rest = at_place kept h p q.1 in
          let within : p < length (reverse kept) = omega (arith, rest.0, length-reverse kept) in
          (omega (arith, rest.0), ap (λ l. slice_get l p) (reverse-append (b ∷ []) kept) ∙ get_front (reverse kept) b p within ∙ rest.1 ∙ rw q.0 refl)
    ]

-- the block at a place is the one at its height
pub held_there : (kept : List KeptBlock) (p : ℕ) (b : KeptBlock) → AreApart kept → slice_get (reverse kept) p ≡ Some b → held kept b.header.height ≡ Some b
held_there [] p b apart e = none_not b e
held_there (c ∷ kept) p b apart e =
    let there : slice_get (reverse kept ++ c ∷ []) p ≡ Some b = ap (λ l. slice_get l p) (sym (reverse-append (c ∷ []) kept)) ∙ e in
    elim (cases_lt p (length (reverse kept))) [
      | inl before ↦ held_deeper kept c b apart (held_there kept p b apart.1 (sym (get_front (reverse kept) c p before) ∙ there))
      | inr behind ↦
          let within : p < length (reverse kept ++ c ∷ []) = slice_get_within (reverse kept ++ c ∷ []) p b there in
          let is : p ≡ length (reverse kept) = omega (arith, behind, within, length-append (reverse kept) (c ∷ [])) in
          let same : c ≡ b = same_some c b (sym (get_last (reverse kept) c) ∙ ap (slice_get (reverse kept ++ c ∷ [])) (sym is) ∙ there) in
          subst (λ (x : KeptBlock). held (c ∷ kept) x.header.height ≡ Some x) same (held_first kept c)
    ]

-- ---- by identifier

-- the height of the higher of two
pub higher_is : (b : KeptBlock) (o : Option KeptBlock) → (higher b o).header.height ≡ higher_height b.header.height (option_map (λ x. x.header.height) o)
higher_is b None = refl
higher_is b (Some c) = by_test (nat_lt b.header.height c.header.height)
  where
    by_test : (t : Bool) → (if t then c else b).header.height ≡ (if t then c.header.height else b.header.height)
    by_test true = refl
    by_test false = refl

-- a block's identifier has its top, and a parent its children
tops_more : (before mid : List (List ℕ × Links)) (kept : List KeptBlock) (b : KeptBlock) (links : Links)
    → links ≡ links_of kept b.header.id → HasAt before mid b.header.id (Some (with_top b.header.height links)) → HasLinks before kept
    → (q : List ℕ) → links_at mid q ≡ record { top = top_of (b ∷ kept) q; children = children_of kept q }
unfolding highest
tops_more before mid kept b links is change has q = ap links_or_none (change q) ∙ by_test (bytes_eq b.header.id q) refl
  where
    by_test : (t : Bool) → bytes_eq b.header.id q ≡ t
        → links_or_none (cond t (Some (with_top b.header.height links)) (value_of before q))
        ≡ record { top = option_map (λ x. x.header.height) (if t then Some (higher b (highest kept q)) else highest kept q); children = children_of kept q }
    by_test true e =
        ap (with_top b.header.height) (is ∙ ap (links_of kept) (same_id b.header.id q e))
        ∙ ap (λ (n : ℕ). record { top = Some n; children = children_of kept q }) (sym (higher_is b (highest kept q)))
    by_test false e = has q

pub links_more : (before mid now : List (List ℕ × Links)) (kept : List KeptBlock) (b : KeptBlock) (links : Links)
    → links ≡ links_of kept b.header.id → HasAt before mid b.header.id (Some (with_top b.header.height links))
    → HasAt mid now b.header.parent (Some (adopting b.header.height (links_at mid b.header.parent)))
    → HasLinks before kept → HasLinks now (b ∷ kept)
unfolding children_of
links_more before mid now kept b links is top child has q = ap links_or_none (child q) ∙ by_test (bytes_eq b.header.parent q) refl
  where
    mid_has : (id : List ℕ) → links_at mid id ≡ record { top = top_of (b ∷ kept) id; children = children_of kept id }
    mid_has = tops_more before mid kept b links is top has

    by_test : (t : Bool) → bytes_eq b.header.parent q ≡ t
        → links_or_none (cond t (Some (adopting b.header.height (links_at mid b.header.parent))) (value_of mid q))
        ≡ record { top = top_of (b ∷ kept) q; children = if t then Some (with_child b.header.height (children_of kept q)) else children_of kept q }
    by_test true e = ap (λ i. adopting b.header.height (links_at mid i)) (same_id b.header.parent q e) ∙ ap (adopting b.header.height) (mid_has q)
    by_test false e = mid_has q

pub no_links : (by_id : List (List ℕ × Links)) → by_id ≡ [] → HasLinks by_id []
unfolding highest children_of
no_links by_id none id = rw none refl
