-- Lemmas on the numbers of the replies that named a block: those of replies that are held stay.
use Rattle.std.proofs.Common.{◌≡◌, ℕ, Bool, true, false, ◌||◌, cond, List, [], ◌∷◌, ◌++◌, filter, Some, None, refl, sym, ap, ◌∙◌}
use Rattle.std.specs.BTreeMap.{get, is_at}
use Rattle.std.specs.Cmp.Lexicographic.{slice_cmp}
use Rattle.std.specs.Option.{is_some}
use Rattle.std.specs.Ordering.{nat_cmp}
use Rattle.std.proofs.lemmas.List.Folds.{list_any-append}
use Rattle.std.proofs.lemmas.Map.Lookups.{exact_bytes}
use Rattle.std.proofs.lemmas.Map.Views.{any-filter_same}
use Rattle.snow_held.specs.declared.backlog.Kept.{Kept}
use Rattle.snow_held.specs.Kept.Arrivals.{Entries, BlockMap, at_arrival, is_among, has_number_in, names, StaysNamed}
use Rattle.snow_held.proofs.Stocked.{same_number, number_apart, at_turned}
use Rattle.snow_held.proofs.Numbered.{equal_by}
use Rattle.snow_map.proofs.Booleans.{or_false, or_true}

-- ---- a list of numbers

-- a number stands behind the others
pub among_more : (numbers : List ℕ) (n a : ℕ) → is_among (numbers ++ n ∷ []) a ≡ cond (is_at (nat_cmp n) a) true (is_among numbers a)
among_more numbers n a =
    let Goal : Bool → Type 0 = λ t. (is_among numbers a || t) ≡ cond t true (is_among numbers a) in
    list_any-append (is_at (nat_cmp a)) numbers (n ∷ [])
    ∙ ap (λ b. is_among numbers a || b) (or_false (is_at (nat_cmp a) n) ∙ at_turned a n)
    ∙ (elim (is_at (nat_cmp n) a) as Goal [ true ↦ or_true (is_among numbers a) | false ↦ or_false (is_among numbers a) ])

-- a reply that is held has another number than one that isn't
pub held_apart : (es : Entries) (n a : ℕ) (k : Kept) → at_arrival es n ≡ None → at_arrival es a ≡ Some k → is_at (nat_cmp n) a ≡ false
held_apart es n a k none found = number_apart n a (λ same. let e : at_arrival es a ≡ None = ap (at_arrival es) (sym same) ∙ none in absurd cc)

-- the numbers of replies that left go
pub among_held : (es : Entries) (before after : List ℕ) (a : ℕ) (k : Kept) → after ≡ filter (λ x. is_some (at_arrival es x)) before → at_arrival es a ≡ Some k
    → is_among before a ≡ true → is_among after a ≡ true
among_held es before after a k is found h =
    ap (λ l. is_among l a) is
    ∙ any-filter_same (is_at (nat_cmp a)) (λ x. is_some (at_arrival es x)) true (λ x t. ap is_some (ap (at_arrival es) (sym (same_number a x t)) ∙ found)) before
    ∙ h

-- ---- the lists of all blocks

-- the list of a block is exchanged for one that has the numbers of these replies too
pub stays_within : (es : Entries) (before now : BlockMap) (id new : List ℕ)
    → ((q : List ℕ) → get (slice_cmp nat_cmp) now q ≡ cond (is_at (slice_cmp nat_cmp id) q) (Some new) (get (slice_cmp nat_cmp) before q))
    → ((a : ℕ) (k : Kept) → at_arrival es a ≡ Some k → names before id a ≡ true → is_among new a ≡ true)
    → StaysNamed es (names before) (names now)
stays_within es before now id new change step q a k found named =
    let Goal : Bool → Type 0 = λ t. is_at (slice_cmp nat_cmp id) q ≡ t → has_number_in (cond t (Some new) (get (slice_cmp nat_cmp) before q)) a ≡ true in
    ap (λ o. has_number_in o a) (change q)
    ∙ (elim (is_at (slice_cmp nat_cmp id) q) as Goal [
      | true ↦ λ t. step a k found (ap (λ m. names before m a) (exact_bytes id q (equal_by (slice_cmp nat_cmp id q) t)) ∙ named)
      | false ↦ λ t. named
    ]) refl
