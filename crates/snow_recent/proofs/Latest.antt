-- What the index finds is the latest entry.
use Rattle.std.proofs.Common.{◌≡◌, ℕ, zero, suc, ◌<◌, ◌≤◌, Bool, List, [], ◌∷◌, length, map, get_or, replicate, reverse, Option, Some, None, find, refl, sym, ap, ◌∙◌, arith, inl, inr, subst}
use Rattle.std.specs.List.{slice_get}
use Rattle.std.specs.Option.{option_or, option_and_then, option_map_or}
use Rattle.std.specs.Str.{bytes_eq}
use Rattle.std.proofs.lemmas.Bool.{cond-true, cond-false, false_from_ne_true}
use Rattle.std.proofs.lemmas.List.{reverse-append, get_or-map, length-map}
use Rattle.std.proofs.lemmas.List.Folds.{find-append}
use Rattle.std.proofs.lemmas.Option.{slice_get-get_or, slice_get_cases, slice_get_within}
use Rattle.std.proofs.lemmas.Slice.Eq.{bytes_eq-Decides}
use Rattle.snow_recent.specs.Model.Recent.{latest}
use Rattle.snow_recent.specs.Kept.Index.{id_at, id_of, place_of, HasLatest, IsIndex}
use Rattle.snow_recent.specs.Kept.Table.{IsLatest}
use Rattle.snow_recent.proofs.Filed.{one_place}

-- ---- the latest entry of a list

abbrev has_id : {T : Type 0} (name : T → List ℕ) → List ℕ → T → Bool
has_id name key e = bytes_eq (name e) key

-- a first entry comes last in turn
behind_first : {T : Type 0} (name : T → List ℕ) (key : List ℕ) (e : T) (entries : List T) → latest name (e ∷ entries) key ≡ option_or (latest name entries key) (find (has_id name key) (e ∷ []))
behind_first name key e entries = ap (find (has_id name key)) (reverse-append (e ∷ []) entries) ∙ find-append (has_id name key) (reverse entries) (e ∷ [])

is_own : {T : Type 0} (name : T → List ℕ) (key : List ℕ) (e : T) → name e ≡ key → find (has_id name key) (e ∷ []) ≡ Some e
is_own name key e same = cond-true _ _ _ ((bytes_eq-Decides (name e) key).1 same)

is_other : {T : Type 0} (name : T → List ℕ) (key : List ℕ) (e : T) → (name e ≡ key → ⊥) → find (has_id name key) (e ∷ []) ≡ None
is_other name key e other = cond-false _ _ _ (false_from_ne_true _ (λ yes. other ((bytes_eq-Decides (name e) key).0 yes)))

-- there is none where no place has the identifier
none_latest : {T : Type 0} (name : T → List ℕ) (key : List ℕ) (entries : List T) → ((k : ℕ) → k < length entries → id_at name entries k ≡ key → ⊥) → latest name entries key ≡ None
none_latest name key [] none = refl
none_latest name key (e ∷ entries) none =
    behind_first name key e entries
    ∙ ap (λ o. option_or o (find (has_id name key) (e ∷ []))) (none_latest name key entries (λ k h. none (suc k) (omega arith)))
    ∙ is_other name key e (none 0 (omega arith))

-- and else it stands at the last such place
last_latest : {T : Type 0} (name : T → List ℕ) (key : List ℕ) (entries : List T) (k : ℕ) → k < length entries → id_at name entries k ≡ key
    → ((j : ℕ) → k < j → j < length entries → id_at name entries j ≡ key → ⊥) → latest name entries key ≡ slice_get entries k
last_latest name key [] k h is last = absurd (omega arith)
last_latest name key (e ∷ entries) zero h is last =
    behind_first name key e entries
    ∙ ap (λ o. option_or o (find (has_id name key) (e ∷ []))) (none_latest name key entries (λ k within. last (suc k) (omega arith) (omega arith)))
    ∙ is_own name key e is
last_latest name key (e ∷ entries) (suc k) h is last =
    let there : slice_get entries k ≡ Some (get_or entries k e) = slice_get-get_or entries k e (omega arith) in
    behind_first name key e entries
    ∙ ap (λ o. option_or o (find (has_id name key) (e ∷ []))) (last_latest name key entries k (omega arith) is (λ j after within. last (suc j) (omega arith) (omega arith)) ∙ there)
    ∙ sym there

-- ---- by the index

-- where the latest place of an identifier stands
place_there : (id : ℕ → List ℕ) (places : List ℕ) (place : ℕ) → HasLatest id places place
    → (i : ℕ) × (i < length places) × (id (get_or places i 0) ≡ id place) × (place ≤ get_or places i 0)
place_there id [] place has = absurd has
place_there id (p ∷ places) place has =
    elim has [
      | inl here ↦ (0, omega arith, here.0, here.1)
      | inr there ↦ let rest = place_there id places place there in (suc rest.0, omega arith, rest.2, rest.3)
    ]

-- the head of a seat is the latest entry of its identifier
head_latest : {T : Type 0} (name : T → List ℕ) (entries : List T) (head : List ℕ → ℕ) (places : List ℕ) (key : List ℕ) → IsIndex name entries head places
    → head key < length entries → id_at name entries (head key) ≡ key → latest name entries key ≡ slice_get entries (head key)
head_latest name entries head places key index there is =
    last_latest name key entries (head key) there is
    (λ j after within same.
    let early : j ≤ head key = subst (λ (i : List ℕ). j ≤ head i) same (index.headed j within).later in
    omega arith)

pub head_found : {T : Type 0} (name : T → List ℕ) (entries : List T) (head : List ℕ → ℕ) (places : List ℕ) (key : List ℕ) (e : T) → IsIndex name entries head places
    → Some e ≡ slice_get entries (head key) → name e ≡ key → Some e ≡ latest name entries key
head_found name entries head places key e index is own =
    is
    ∙ sym (head_latest name entries head places key index (slice_get_within entries (head key) e (sym is))
    (ap (λ o. option_map_or name o (replicate 32 0)) (sym is) ∙ own))

pub head_other : {T : Type 0} (name : T → List ℕ) (entries : List T) (head : List ℕ → ℕ) (key : List ℕ) (e : T)
    → Some e ≡ slice_get entries (head key) → (name e ≡ key → ⊥) → id_at name entries (head key) ≡ key → ⊥
head_other name entries head key e is other same = other (ap (λ o. option_map_or name o (replicate 32 0)) is ∙ same)

nothing : {T : Type 0} (e : T) → None ≡ Some e → ⊥
nothing e is = absurd cc

-- and where a seat has no head, none of its identifiers has an entry
pub headless : {T : Type 0} (name : T → List ℕ) (entries : List T) (head : List ℕ → ℕ) (places : List ℕ) (key : List ℕ) → IsIndex name entries head places
    → None ≡ slice_get entries (head key) → None ≡ latest name entries key
headless {T} name entries head places key index none =
    sym (none_latest name key entries
    (λ k within same.
    let there : head key < length entries = subst (λ (i : List ℕ). head i < length entries) same (index.headed k within).there in
    elim (slice_get_cases entries (head key)).1 [
      | inl found ↦ absurd (nothing found.0 (none ∙ found.2))
      | inr past ↦ omega (arith, there, past.0)
    ]))

-- where the head has another identifier, the places tell
tabled : {T : Type 0} (name : T → List ℕ) (entries : List T) (head : List ℕ → ℕ) (places : List ℕ) (key : List ℕ) (j : ℕ) → IsIndex name entries head places
    → (id_at name entries (head key) ≡ key → ⊥) → j < length entries → id_at name entries j ≡ key → HasLatest (id_at name entries) places j
tabled name entries head places key j index other within same =
    elim (index.latest j within) [
      | inl own ↦ absurd (other (ap (λ (i : List ℕ). id_at name entries (head i)) (sym same) ∙ own ∙ same))
      | inr has ↦ has
    ]

-- a place of the index that has the identifier has its latest entry
pub found_latest : {T : Type 0} (name : T → List ℕ) (entries : List T) (head : List ℕ → ℕ) (places : List ℕ) (key : List ℕ) (at : ℕ) → IsIndex name entries head places
    → (id_at name entries (head key) ≡ key → ⊥) → at < length places
    → id_at name entries (get_or places at 0) ≡ key → latest name entries key ≡ slice_get entries (get_or places at 0)
found_latest name entries head places key at index other h is =
    last_latest name key entries (get_or places at 0) (index.within at 0 h) is
    (λ j after within same.
    let there = place_there (id_at name entries) places j (tabled name entries head places key j index other within same) in
    let one : there.0 ≡ at = one_place (id_at name entries) places there.0 at 0 index.rising there.1 h (there.2 ∙ same ∙ sym is) in
    let early : j ≤ get_or places at 0 = subst (λ i. j ≤ get_or places i 0) one there.3 in
    omega arith)

-- and where none has it, there is none
pub missing_latest : {T : Type 0} (name : T → List ℕ) (entries : List T) (head : List ℕ → ℕ) (places : List ℕ) (key : List ℕ) → IsIndex name entries head places
    → (id_at name entries (head key) ≡ key → ⊥)
    → ((i : ℕ) → i < length places → id_at name entries (get_or places i 0) ≡ key → ⊥) → latest name entries key ≡ None
missing_latest name entries head places key index other none =
    none_latest name key entries
    (λ k within same.
    let there = place_there (id_at name entries) places k (tabled name entries head places key k index other within same) in
    none there.0 there.1 (there.2 ∙ same))

-- ---- by the numbers

-- the number of an identifier is that of its latest entry
pub found_number : {T : Type 0} (name : T → List ℕ) (entries : List T) (first : ℕ) (head : List ℕ → ℕ) (numbers : List ℕ) (key : List ℕ) (n : ℕ)
    → IsIndex name entries head (map (place_of first) numbers) → (id_at name entries (head key) ≡ key → ⊥)
    → IsLatest (id_of name entries first) numbers key (Some n) → latest name entries key ≡ slice_get entries (place_of first n)
found_number name entries first head numbers key n index other found =
    let at = found.0.0 in
    let there : get_or (map (place_of first) numbers) at 0 ≡ place_of first n =
    get_or-map (place_of first) numbers at n 0 found.0.1 ∙ ap (place_of first) found.0.2 in
    found_latest name entries head (map (place_of first) numbers) key at index other (omega (arith, length-map numbers (place_of first), found.0.1))
    (ap (id_at name entries) there ∙ found.1)
    ∙ ap (slice_get entries) there

-- where no number has the identifier, there is no entry
pub missing_number : {T : Type 0} (name : T → List ℕ) (entries : List T) (first : ℕ) (head : List ℕ → ℕ) (numbers : List ℕ) (key : List ℕ)
    → IsIndex name entries head (map (place_of first) numbers) → (id_at name entries (head key) ≡ key → ⊥)
    → IsLatest (id_of name entries first) numbers key None → latest name entries key ≡ None
missing_number name entries first head numbers key index other none =
    missing_latest name entries head (map (place_of first) numbers) key index other
    (λ i h same.
    let within : i < length numbers = omega (arith, length-map numbers (place_of first)) in
    none i 0 within (ap (id_at name entries) (sym (get_or-map (place_of first) numbers i 0 0 within)) ∙ same))

-- what is filed of an identifier that isn't the head of its seat is its latest entry
pub filed_latest : {T : Type 0} (name : T → List ℕ) (entries : List T) (first : ℕ) (head : List ℕ → ℕ) (numbers : List ℕ) (key : List ℕ) (n : Option ℕ) (entry : Option T)
    → IsIndex name entries head (map (place_of first) numbers) → (id_at name entries (head key) ≡ key → ⊥)
    → IsLatest (id_of name entries first) numbers key n → entry ≡ option_and_then (λ n. slice_get entries (place_of first n)) n → entry ≡ latest name entries key
filed_latest name entries first head numbers key None entry index other filed is = is ∙ sym (missing_number name entries first head numbers key index other filed)
filed_latest name entries first head numbers key (Some n) entry index other filed is = is ∙ sym (found_number name entries first head numbers key n index other filed)
