-- What forgetting the oldest entry does to the index.
use Rattle.std.proofs.Common.{◌≡◌, ℕ, zero, suc, ◌+◌, ◌-◌, ◌%◌, ◌^◌, ◌<◌, ◌≤◌, not, List, [], ◌∷◌, length, map, get_or, remove, All, Ok, Err, refl, sym, ap, ◌∙◌, arith, Less, inl, inr, drop, subst}
use Rattle.std.proofs.lemmas.Bool.{cond-true, cond-false, eq-eqb, ne_eqb}
use Rattle.std.proofs.lemmas.List.{get_or_default, get_or-map, length-map}
use Rattle.std.proofs.lemmas.List.Elements.{All-cons, All-head, All-tail}
use Rattle.std.proofs.lemmas.List.Kept.{AllPairs-cons}
use Rattle.std.proofs.lemmas.Map.Lookups.{exact_bytes}
use Rattle.snow_recent.specs.Kept.Index.{id_at, id_of, place_of, head_of, number_at, byte_cmp, IsRising, IsPlaceOf, HasLatest, HasNoSeated, IsIndex, without_oldest}
use Rattle.snow_recent.proofs.Filed.{rising_head, rising_tail, not_itself, one_place, nowhere}

-- ---- the number that is taken out

-- numbers of which none is the oldest one stay
pub without_none : (first : ℕ) (numbers : List ℕ) → All (λ n. n ≡ first → ⊥) numbers → numbers ≡ without_oldest first numbers
without_none first [] none = refl
without_none first (n ∷ numbers) none =
    let P : ℕ → Type 0 = λ m. m ≡ first → ⊥ in
    ap (λ l. n ∷ l) (without_none first numbers (All-tail P n numbers none))
    ∙ sym (cond-true _ _ _ (ap not (ne_eqb n first (All-head P n numbers none))))

-- where the oldest one stands it is taken out
pub without_at : (id : ℕ → List ℕ) (first : ℕ) (numbers : List ℕ) (at : ℕ) → IsRising id numbers → at < length numbers → get_or numbers at first ≡ first
    → remove numbers at ≡ without_oldest first numbers
without_at id first [] at rising h is = absurd (omega arith)
without_at id first (n ∷ numbers) zero rising h is =
    without_none first numbers
    (λ k d p same. not_itself (id n) (id (get_or numbers k d)) (ap id (is ∙ sym same)) (rising_head id n numbers rising k d p))
    ∙ sym (cond-false _ _ _ (ap not (eq-eqb n first is)))
without_at id first (n ∷ numbers) (suc at) rising h is =
    let before : byte_cmp (id n) (id (get_or numbers at first)) ≡ Less = rising_head id n numbers rising at first (omega arith) in
    ap (λ l. n ∷ l) (without_at id first numbers at (rising_tail id n numbers rising) (omega arith) is)
    ∙ sym (cond-true _ _ _ (ap not (ne_eqb n first (λ same. not_itself (id n) (id (get_or numbers at first)) (ap id (same ∙ sym is)) before))))

-- where a search finds another number in its place, it isn't there
pub without_other : (id : ℕ → List ℕ) (first : ℕ) (numbers : List ℕ) (at : ℕ) → IsRising id numbers → IsPlaceOf id numbers (id first) (Ok at)
    → (get_or numbers at first ≡ first → ⊥) → numbers ≡ without_oldest first numbers
without_other id first numbers at rising place other =
    without_none first numbers
    (λ k d h same.
    let one : k ≡ at = one_place id numbers k at d rising h place.0 (ap id same ∙ sym (exact_bytes _ _ (place.1 d))) in
    other (get_or_default numbers at first d place.0 ∙ ap (λ i. get_or numbers i d) (sym one) ∙ same))

-- nor where a search finds none
pub without_place : (id : ℕ → List ℕ) (first : ℕ) (numbers : List ℕ) (at : ℕ) → IsPlaceOf id numbers (id first) (Err at)
    → numbers ≡ without_oldest first numbers
without_place id first numbers at place =
    without_none first numbers (λ k d h same. nowhere id numbers (id first) at k d place h (ap id same))

-- ---- the places of the others

-- the places once the oldest entry is gone
abbrev lowered : List ℕ → List ℕ
lowered [] = []
lowered (zero ∷ places) = lowered places
lowered (suc p ∷ places) = p ∷ lowered places

all_lowered : (P Q : ℕ → Type 0) → ((p : ℕ) → P (suc p) → Q p) → (places : List ℕ) → All P places → All Q (lowered places)
all_lowered P Q below [] all = λ k d h. absurd (omega arith)
all_lowered P Q below (zero ∷ places) all = all_lowered P Q below places (All-tail P zero places all)
all_lowered P Q below (suc p ∷ places) all =
    All-cons Q p _ (below p (All-head P (suc p) places all)) (all_lowered P Q below places (All-tail P (suc p) places all))

rising_lowered : {T : Type 0} (name : T → List ℕ) (e : T) (entries : List T) (places : List ℕ) → IsRising (id_at name (e ∷ entries)) places → IsRising (id_at name entries) (lowered places)
rising_lowered name e entries [] rising = λ i j d p q. absurd (omega arith)
rising_lowered name e entries (zero ∷ places) rising = rising_lowered name e entries places (rising_tail (id_at name (e ∷ entries)) zero places rising)
rising_lowered name e entries (suc p ∷ places) rising =
    AllPairs-cons (λ m n. byte_cmp (id_at name entries m) (id_at name entries n) ≡ Less) p _
    (all_lowered (λ m. byte_cmp (id_at name entries p) (id_at name (e ∷ entries) m) ≡ Less) (λ m. byte_cmp (id_at name entries p) (id_at name entries m) ≡ Less) (λ m less. less) places
    (rising_head (id_at name (e ∷ entries)) (suc p) places rising))
    (rising_lowered name e entries places (rising_tail (id_at name (e ∷ entries)) (suc p) places rising))

latest_lowered : {T : Type 0} (name : T → List ℕ) (e : T) (entries : List T) (places : List ℕ) (place : ℕ) → HasLatest (id_at name (e ∷ entries)) places (suc place)
    → HasLatest (id_at name entries) (lowered places) place
latest_lowered name e entries [] place has = absurd has
latest_lowered name e entries (zero ∷ places) place has =
    elim has [ inl here ↦ absurd (let early : suc place ≤ 0 = here.1 in omega arith) | inr there ↦ latest_lowered name e entries places place there ]
latest_lowered name e entries (suc p ∷ places) place has =
    elim has [
      | inl here ↦ inl (here.0, let later : suc place ≤ suc p = here.1 in omega arith)
      | inr there ↦ inr (latest_lowered name e entries places place there)
    ]

-- the heads of the rest: each that has a place there is one place nearer to the front
abbrev AreNearer : (List ℕ → ℕ) → (List ℕ → ℕ) → Type 0
AreNearer head next = (id : List ℕ) (p : ℕ) → head id ≡ suc p → next id ≡ p

nearer_head : (head next : List ℕ → ℕ) (id : List ℕ) → AreNearer head next → 0 < head id → head id ≡ suc (next id)
nearer_head head next id near some =
    let is : head id ≡ suc (head id - 1) = omega arith in
    is ∙ ap suc (sym (near id (head id - 1) is))

-- so the index of a list gives that of its rest
index_lowered : {T : Type 0} (name : T → List ℕ) (e : T) (entries : List T) (head next : List ℕ → ℕ) (places : List ℕ) → AreNearer head next
    → IsIndex name (e ∷ entries) head places → IsIndex name entries next (lowered places)
index_lowered name e entries head next places near index =
    let id : ℕ → List ℕ = id_at name entries in
    record {
      within = all_lowered (λ p. p < suc (length entries)) (λ p. p < length entries) (λ p h. omega arith) places index.within;
      rising = rising_lowered name e entries places index.rising;
      behind = all_lowered (λ p. p < head (id_at name (e ∷ entries) p)) (λ p. p < next (id p))
          (λ p h. let is = nearer_head head next (id p) near (omega (arith, h)) in omega (arith, is, h)) places index.behind;
      headed = λ place h.
          let headed = index.headed (suc place) (omega (arith, h)) in
          let is = nearer_head head next (id place) near (omega (arith, headed.later)) in
          record { there = omega (arith, is, headed.there); later = omega (arith, is, headed.later) };
      latest = λ place h.
          let headed = index.headed (suc place) (omega (arith, h)) in
          let is = nearer_head head next (id place) near (omega (arith, headed.later)) in
          elim (index.latest (suc place) (omega (arith, h))) [
            | inl own ↦ inl (ap (id_at name (e ∷ entries)) (sym is) ∙ own)
            | inr has ↦ inr (latest_lowered name e entries places place has)
          ];
    }

-- ---- their numbers

-- the oldest entry's number is the only one at place 0
only_first : (first n : ℕ) → first < 2 ^ 32 → n < 2 ^ 32 → place_of first n ≡ 0 → n ≡ first
only_first first n small within is = omega arith

at_first : (first : ℕ) → first < 2 ^ 32 → place_of first first ≡ 0
at_first first small = omega arith

-- each other number is one place nearer to the next
nearer : (first n p : ℕ) → first < 2 ^ 32 → place_of first n ≡ suc p → place_of ((first + 1) % 2 ^ 32) n ≡ p
nearer first n p small is = omega arith

map_lowered : (first : ℕ) (numbers : List ℕ) → first < 2 ^ 32 → All (λ n. n < 2 ^ 32) numbers
    → map (place_of ((first + 1) % 2 ^ 32)) (without_oldest first numbers) ≡ lowered (map (place_of first) numbers)
map_lowered first [] small within = refl
map_lowered first (n ∷ numbers) small within =
    let next : ℕ → ℕ = place_of ((first + 1) % 2 ^ 32) in
    let rest : map next (without_oldest first numbers) ≡ lowered (map (place_of first) numbers) =
    map_lowered first numbers small (All-tail (λ m. m < 2 ^ 32) n numbers within) in
    let n_small : n < 2 ^ 32 = All-head (λ m. m < 2 ^ 32) n numbers within in
    elim (place_of first n) as (λ p. place_of first n ≡ p → map next (without_oldest first (n ∷ numbers)) ≡ lowered (p ∷ map (place_of first) numbers)) [
      | zero ↦ λ is. ap (map next) (cond-false _ _ _ (ap not (eq-eqb n first (only_first first n small n_small is)))) ∙ rest
      | suc p ↦ λ is.
          let other : n ≡ first → ⊥ = λ same. let at : place_of first n ≡ 0 = ap (place_of first) same ∙ at_first first small in cc in
          ap (map next) (cond-true _ _ _ (ap not (ne_eqb n first other)))
          ∙ ap (λ q. q ∷ map next (without_oldest first numbers)) (nearer first n p small is)
          ∙ ap (λ l. p ∷ l) rest
    ] refl

-- where the oldest entry's number stands at its seat, the table hasn't it
pub no_oldest : {T : Type 0} (name : T → List ℕ) (entries : List T) (first : ℕ) (heads numbers : List ℕ) → first < 2 ^ 32
    → IsIndex name entries (head_of first heads) (map (place_of first) numbers) → HasNoSeated (id_of name entries first) heads first numbers
no_oldest name entries first heads numbers small index seated = λ k d h same.
    let place : ℕ → ℕ = place_of first in
    let zero_place : place first ≡ 0 = at_first first small in
    let long : k < length (map place numbers) = omega (arith, length-map numbers place, h) in
    let at : get_or (map place numbers) k 0 ≡ place first = get_or-map place numbers k d 0 h ∙ ap place same in
    let before = subst (λ p. p < head_of first heads (id_at name entries p)) at (index.behind k 0 long) in
    let head : head_of first heads (id_at name entries (place first)) ≡ place first = ap place seated in
    omega (arith, before, head)

-- the index of the list that forgot its oldest entry
pub forgotten : {T : Type 0} (name : T → List ℕ) (entries : List T) (first : ℕ) (heads numbers : List ℕ) → 0 < length entries → first < 2 ^ 32 → All (λ n. n < 2 ^ 32) numbers
    → IsIndex name entries (head_of first heads) (map (place_of first) numbers)
    → IsIndex name (drop 1 entries) (head_of ((first + 1) % 2 ^ 32) heads) (map (place_of ((first + 1) % 2 ^ 32)) (without_oldest first numbers))
forgotten name [] first heads numbers some small within index = absurd (omega arith)
forgotten name (e ∷ entries) first heads numbers some small within index =
    let next : ℕ = (first + 1) % 2 ^ 32 in
    subst (IsIndex name entries (head_of next heads)) (sym (map_lowered first numbers small within))
    (index_lowered name e entries (head_of first heads) (head_of next heads) (map (place_of first) numbers)
    (λ id p is. nearer first (number_at heads id) p small is) index)
