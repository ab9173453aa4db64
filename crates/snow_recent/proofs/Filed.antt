-- Numbers whose identifiers rise: where a search finds one, and what filing does.
use Rattle.std.proofs.Common.{◌≡◌, ℕ, zero, suc, ◌+◌, ◌<◌, ◌≤◌, List, [], ◌∷◌, length, map, get_or, set, insert, All, Result, Ok, Err, refl, sym, ap, ◌∙◌, arith, Ordering, Less, Equal, Greater, is_lt, inl, inr}
use Rattle.std.specs.List.Sorted.{IsSortedBy, IsSearchInRange, IsBinarySearchResult}
use Rattle.std.specs.Ordering.{match_ordering, ordering_reverse}
use Rattle.std.proofs.lemmas.Bool.{cases_lt}
use Rattle.std.proofs.lemmas.Cmp.{nat_list_cmp_total, tied_itself}
use Rattle.std.proofs.lemmas.List.{get_or-map, length-map}
use Rattle.std.proofs.lemmas.List.Elements.{All-cons, All-head, All-tail}
use Rattle.std.proofs.lemmas.List.Kept.{AllPairs-cons}
use Rattle.std.proofs.lemmas.List.Sorted.{searchable_from_sorted}
use Rattle.std.proofs.lemmas.Map.Lookups.{exact_bytes}
use Rattle.snow_recent.specs.Kept.Index.{byte_cmp, IsRising, IsPlaceOf, HasLatest, filed}

-- ---- identifiers that rise

-- one number stands before the other
abbrev IsBefore : (ℕ → List ℕ) → ℕ → ℕ → Type 0
IsBefore id m n = byte_cmp (id m) (id n) ≡ Less

-- the first stands before the rest
pub rising_head : (id : ℕ → List ℕ) (n : ℕ) (numbers : List ℕ) → IsRising id (n ∷ numbers) → All (λ m. byte_cmp (id n) (id m) ≡ Less) numbers
rising_head id n numbers h = λ k d p. h 0 (suc k) d (omega arith) (omega arith)

-- the rest rises
pub rising_tail : (id : ℕ → List ℕ) (n : ℕ) (numbers : List ℕ) → IsRising id (n ∷ numbers) → IsRising id numbers
rising_tail id n numbers h = λ i j d p q. h (suc i) (suc j) d (omega arith) (omega arith)

pub flip : (a b : List ℕ) → byte_cmp a b ≡ ordering_reverse (byte_cmp b a)
flip a b = nat_list_cmp_total.antisymm a b

sorted : (id : ℕ → List ℕ) (numbers : List ℕ) → IsRising id numbers → IsSortedBy (λ m n. is_lt (byte_cmp (id m) (id n))) numbers
sorted id numbers rising = λ k d low high.
    ap is_lt (flip (id (get_or numbers (k + 1) d)) (id (get_or numbers k d)) ∙ ap ordering_reverse (rising k (k + 1) d (omega arith) high))

-- what a binary search finds in them
pub searched : (id : ℕ → List ℕ) (numbers : List ℕ) (key : List ℕ) (r : Result ℕ ℕ) → IsRising id numbers → IsSearchInRange r (length numbers)
    → IsBinarySearchResult (λ n. byte_cmp (id n) key) numbers r → IsPlaceOf id numbers key r
searched id numbers key (Ok at) rising bound found = (bound, found)
searched id numbers key (Err at) rising bound found =
    (bound, found (searchable_from_sorted nat_list_cmp_total id numbers key (sorted id numbers rising)))

-- no identifier stands before itself
pub not_itself : (a b : List ℕ) → a ≡ b → byte_cmp a b ≡ Less → ⊥
not_itself a b same less =
    let tied : byte_cmp b b ≡ Equal = tied_itself {R = byte_cmp} nat_list_cmp_total b in
    let turned : byte_cmp b b ≡ Less = ap (λ i. byte_cmp i b) (sym same) ∙ less in
    cc

-- two numbers of one identifier are one
pub one_place : (id : ℕ → List ℕ) (numbers : List ℕ) (i j d : ℕ) → IsRising id numbers → i < length numbers → j < length numbers
    → id (get_or numbers i d) ≡ id (get_or numbers j d) → i ≡ j
one_place id numbers i j d rising within_i within_j same =
    elim (cases_lt i j) [
      | inl less ↦ absurd (not_itself (id (get_or numbers i d)) (id (get_or numbers j d)) same (rising i j d less within_j))
      | inr more ↦
          elim (cases_lt j i) [
            | inl less ↦ absurd (not_itself (id (get_or numbers j d)) (id (get_or numbers i d)) (sym same) (rising j i d less within_i))
            | inr less ↦ omega arith
          ]
    ]

-- where a search finds none there is none
pub nowhere : (id : ℕ → List ℕ) (numbers : List ℕ) (key : List ℕ) (at i d : ℕ) → IsPlaceOf id numbers key (Err at) → i < length numbers
    → id (get_or numbers i d) ≡ key → ⊥
nowhere id numbers key at i d place within same =
    elim (cases_lt i at) [
      | inl below ↦ not_itself (id (get_or numbers i d)) key same (place.1.0 i d (omega arith) below)
      | inr above ↦
          let tied : byte_cmp key key ≡ Equal = tied_itself {R = byte_cmp} nat_list_cmp_total key in
          let turned : byte_cmp key key ≡ Greater = ap (λ k. byte_cmp k key) (sym same) ∙ place.1.1 i d above within in
          cc
    ]

-- numbers rise by identifier where their places do
pub rising_numbers : (id : ℕ → List ℕ) (place : ℕ → ℕ) (numbers : List ℕ) → IsRising id (map place numbers) → IsRising (λ n. id (place n)) numbers
rising_numbers id place numbers rising = λ i j d less within.
    let at_i : get_or (map place numbers) i d ≡ place (get_or numbers i d) = get_or-map place numbers i d d (omega arith) in
    let at_j : get_or (map place numbers) j d ≡ place (get_or numbers j d) = get_or-map place numbers j d d within in
    ap (λ p. byte_cmp (id p) (id (place (get_or numbers j d)))) (sym at_i)
    ∙ ap (λ p. byte_cmp (id (get_or (map place numbers) i d)) (id p)) (sym at_j)
    ∙ rising i j d less (omega (arith, length-map numbers place))

-- ---- filing

abbrev pub step : Ordering → (ℕ → List ℕ) → ℕ → List ℕ → ℕ → List ℕ
step o id n numbers number = match_ordering o (n ∷ filed id numbers number) (number ∷ numbers) (number ∷ n ∷ numbers)

-- where the identifier has a number, this one replaces it
filed_at : (id : ℕ → List ℕ) (numbers : List ℕ) (number at d : ℕ) → at < length numbers
    → ((k : ℕ) → k < at → byte_cmp (id (get_or numbers k d)) (id number) ≡ Less) → byte_cmp (id (get_or numbers at d)) (id number) ≡ Equal
    → set numbers at number ≡ filed id numbers number
unfolding filed
filed_at id [] number at d h less same = absurd (omega arith)
filed_at id (n ∷ numbers) number zero d h less same = sym (ap (λ o. step o id n numbers number) same)
filed_at id (n ∷ numbers) number (suc at) d h less same =
    ap (λ l. n ∷ l) (filed_at id numbers number at d (omega arith) (λ k p. less (suc k) (omega arith)) same)
    ∙ sym (ap (λ o. step o id n numbers number) (less 0 (omega arith)))

-- the same from the place that a search found
pub filed_set : (id : ℕ → List ℕ) (numbers : List ℕ) (number at : ℕ) → IsRising id numbers → IsPlaceOf id numbers (id number) (Ok at)
    → set numbers at number ≡ filed id numbers number
filed_set id numbers number at rising place =
    let same : id (get_or numbers at 0) ≡ id number = exact_bytes _ _ (place.1 0) in
    filed_at id numbers number at 0 place.0
    (λ k p. ap (λ i. byte_cmp (id (get_or numbers k 0)) i) (sym same) ∙ rising k at 0 p place.0)
    (place.1 0)

-- at a place for a new number it is put
pub filed_insert : (id : ℕ → List ℕ) (numbers : List ℕ) (number at : ℕ) → IsPlaceOf id numbers (id number) (Err at)
    → insert numbers at number ≡ filed id numbers number
unfolding filed
filed_insert id [] number zero place = refl
filed_insert id [] number (suc at) place = absurd (omega arith)
filed_insert id (n ∷ numbers) number zero place = sym (ap (λ o. step o id n numbers number) (place.1.1 0 n (omega arith) (omega arith)))
filed_insert id (n ∷ numbers) number (suc at) place =
    ap (λ l. n ∷ l) (filed_insert id numbers number at
    (omega arith, (λ k d p q. place.1.0 (suc k) d (omega arith) (omega arith), λ k d p q. place.1.1 (suc k) d (omega arith) (omega arith))))
    ∙ sym (ap (λ o. step o id n numbers number) (place.1.0 0 n (omega arith) (omega arith)))

-- what holds of all numbers and of the new one holds once it is filed
pub all_filed : (P : ℕ → Type 0) (id : ℕ → List ℕ) (numbers : List ℕ) (number : ℕ) → All P numbers → P number → All P (filed id numbers number)
unfolding filed
all_filed P id [] number all one = All-cons P _ [] one all
all_filed P id (n ∷ numbers) number all one =
    let head = All-head P n numbers all in
    let tail = All-tail P n numbers all in
    elim (byte_cmp (id n) (id number)) as (λ o. All P (step o id n numbers number)) [
      | Less ↦ All-cons P n _ head (all_filed P id numbers number tail one)
      | Equal ↦ All-cons P number numbers one tail
      | Greater ↦ All-cons P number (n ∷ numbers) one all
    ]

rising_step : (o : Ordering) (id : ℕ → List ℕ) (n : ℕ) (numbers : List ℕ) (number : ℕ) → byte_cmp (id n) (id number) ≡ o → IsRising id (n ∷ numbers)
    → IsRising id (filed id numbers number) → IsRising id (step o id n numbers number)
rising_step Less id n numbers number is rising rest =
    AllPairs-cons (IsBefore id) n _ (all_filed (IsBefore id n) id numbers number (rising_head id n numbers rising) is) rest
rising_step Equal id n numbers number is rising rest =
    let same : id n ≡ id number = exact_bytes _ _ is in
    AllPairs-cons (IsBefore id) number numbers
    (λ k d p. ap (λ i. byte_cmp i (id (get_or numbers k d))) (sym same) ∙ rising_head id n numbers rising k d p)
    (rising_tail id n numbers rising)
rising_step Greater id n numbers number is rising rest =
    let first : byte_cmp (id number) (id n) ≡ Less = flip (id number) (id n) ∙ ap ordering_reverse is in
    AllPairs-cons (IsBefore id) number (n ∷ numbers)
    (All-cons (IsBefore id number) n numbers first
    (λ k d p. nat_list_cmp_total.trans (id number) (id n) _ first (rising_head id n numbers rising k d p))) rising

-- identifiers still rise
pub rising_filed : (id : ℕ → List ℕ) (numbers : List ℕ) (number : ℕ) → IsRising id numbers → IsRising id (filed id numbers number)
unfolding filed
rising_filed id [] number rising = AllPairs-cons (IsBefore id) number [] (λ k d p. absurd (omega arith)) rising
rising_filed id (n ∷ numbers) number rising =
    rising_step (byte_cmp (id n) (id number)) id n numbers number refl rising (rising_filed id numbers number (rising_tail id n numbers rising))

latest_step : (o : Ordering) (id : ℕ → List ℕ) (p : ℕ) (places : List ℕ) (new place : ℕ) → byte_cmp (id p) (id new) ≡ o → (id new ≡ id place → place ≤ new)
    → HasLatest id (p ∷ places) place → (HasLatest id places place → HasLatest id (filed id places new) place)
    → HasLatest id (step o id p places new) place
latest_step Less id p places new place is later has rest = elim has [ inl here ↦ inl here | inr there ↦ inr (rest there) ]
latest_step Equal id p places new place is later has rest =
    elim has [ inl here ↦ let same : id new ≡ id place = sym (exact_bytes _ _ is) ∙ here.0 in inl (same, later same) | inr there ↦ inr there ]
latest_step Greater id p places new place is later has rest = inr has

-- each identifier still has its latest place, where the new place is no earlier than those of its own
pub latest_filed : (id : ℕ → List ℕ) (places : List ℕ) (new place : ℕ) → (id new ≡ id place → place ≤ new) → HasLatest id places place → HasLatest id (filed id places new) place
unfolding filed
latest_filed id [] new place later has = absurd has
latest_filed id (p ∷ places) new place later has =
    latest_step (byte_cmp (id p) (id new)) id p places new place refl later has (latest_filed id places new place later)

-- and the new place is filed
pub newest_filed : (id : ℕ → List ℕ) (places : List ℕ) (new : ℕ) → HasLatest id (filed id places new) new
unfolding filed
newest_filed id [] new = inl (refl, omega arith)
newest_filed id (p ∷ places) new =
    elim (byte_cmp (id p) (id new)) as (λ o. HasLatest id (step o id p places new) new) [
      | Less ↦ inr (newest_filed id places new)
      | Equal ↦ inl (refl, omega arith)
      | Greater ↦ inl (refl, omega arith)
    ]

-- places are filed as their numbers are
pub map_filed : (id : ℕ → List ℕ) (place : ℕ → ℕ) (numbers : List ℕ) (number : ℕ)
    → map place (filed (λ n. id (place n)) numbers number) ≡ filed id (map place numbers) (place number)
unfolding filed
map_filed id place [] number = refl
map_filed id place (n ∷ numbers) number =
    elim (byte_cmp (id (place n)) (id (place number))) as
    (λ o. map place (step o (λ m. id (place m)) n numbers number) ≡ step o id (place n) (map place numbers) (place number)) [
      | Less ↦ ap (λ l. place n ∷ l) (map_filed id place numbers number)
      | Equal ↦ refl
      | Greater ↦ refl
    ]
