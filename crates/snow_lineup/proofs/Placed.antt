-- Lemmas on places: the slot of a place, and what is forgotten of the slots of a row.
use Rattle.std.proofs.Common.{◌≡◌, ℕ, ◌<◌, ◌≤◌, ◌==◌, ltb, Bool, true, false, ◌||◌, cond, List, [], ◌∷◌, ◌++◌, map, length, get_or, set, All, Option, Some, None, append-nil, refl, sym, ap, ◌∙◌, subst, arith, ⊎_elim}
use Rattle.std.specs.List.{AllPairs, position_or_len}
use Rattle.std.specs.List.Sorted.{IsPartitionedBy, IsPartitionPoint}
use Rattle.std.specs.Option.{option_to_list}
use Rattle.std.specs.Str.{bytes_eq}
use Rattle.std.proofs.lemmas.Bool.{cases_eq, cases_lt, eq-eqb, ne_eqb, eqb-true, eqb-false, ltb-true, ltb-false, lt-ltb}
use Rattle.std.proofs.lemmas.List.{length-set, get_or-set_same, get_or-set_other, get_or-map, length-map, get_or_default, same_lists}
use Rattle.std.proofs.lemmas.List.Elements.{All-head, All-tail}
use Rattle.std.proofs.lemmas.List.Folds.{list_any-append}
use Rattle.std.proofs.lemmas.List.Sums.{position_or_len_is, fails_before_first, passes_at_first}
use Rattle.snow_lineup.specs.declared.lineup.Slot.{Slot}
use Rattle.snow_lineup.specs.declared.marks.Mark.{Mark}
use Rattle.snow_lineup.specs.declared.marks.Mark.TheVariants.{New}
use Rattle.snow_lineup.specs.Kept.Index.{has_place, tag_of, seat_of, woken, woken_at, reset, forgotten}

abbrev pub Rises : {T : Type 0} → List (Slot T) → Type 0
Rises slots = AllPairs (λ s t. s.place < t.place) slots

-- ---- the slot of a place

pub partitioned : {T : Type 0} (slots : List (Slot T)) (place : ℕ) → Rises slots → IsPartitionedBy (λ s. ltb s.place place) slots
partitioned slots place rises i j d le within below =
    ⊎_elim
    (λ (less : i < j). let l = rises i j d less within in lt-ltb (get_or slots i d).place place (let b = ltb-true (get_or slots j d).place place below in omega (arith, l, b)))
    (λ (more : j ≤ i). let same : j ≡ i = omega (arith, le, more) in subst (λ k. ltb (get_or slots k d).place place ≡ true) same below)
    (cases_lt i j)

-- the first slot that isn't below the place has it
pub found_place : {T : Type 0} (slots : List (Slot T)) (place at : ℕ) (d : Slot T) → Rises slots → at < length slots → (get_or slots at d).place ≡ place
    → at ≡ position_or_len (λ s. s.place == place) slots
found_place slots place at d rises within is =
    sym (position_or_len_is (λ s. s.place == place) slots at d (omega (arith, within))
    (λ k less. let l = rises k at d less within in ne_eqb (get_or slots k d).place place (λ e. absurd (omega (arith, l, is, e))))
    (λ _. eq-eqb (get_or slots at d).place place is))

-- no slot has it
pub missing_place : {T : Type 0} (slots : List (Slot T)) (place : ℕ) (d : Slot T) → ((k : ℕ) → k < length slots → (get_or slots k d).place ≡ place → ⊥)
    → length slots ≡ position_or_len (λ s. s.place == place) slots
missing_place slots place d none =
    sym (position_or_len_is (λ s. s.place == place) slots (length slots) d (omega arith)
    (λ k within. ne_eqb (get_or slots k d).place place (none k within))
    (λ h. absurd (omega (arith, h))))

-- where the first slot that isn't below the place hasn't it, none has
pub missing_behind : {T : Type 0} (slots : List (Slot T)) (place at : ℕ) → Rises slots
    → IsPartitionPoint (λ s. ltb s.place place ≡ true) (λ s. ltb s.place place ≡ false) slots at
    → ((d : Slot T) → at < length slots → (get_or slots at d).place ≡ place → ⊥)
    → length slots ≡ position_or_len (λ s. s.place == place) slots
missing_behind [] place at rises point here = refl
missing_behind {T} (s ∷ slots) place at rises point here =
    let all : List (Slot T) = s ∷ slots in
    missing_place all place s (λ k within same. ⊎_elim
    (λ (less : k < at). let l = ltb-true (get_or all k s).place place (point.0 k s (omega arith) less) in omega (arith, l, same))
    (λ (more : at ≤ k). ⊎_elim
    (λ (less : at < k).
    let l = rises at k s less within in
    let b = ltb-false (get_or all at s).place place (point.1 at s (omega arith) (omega (arith, less, within))) in
    omega (arith, l, b, same))
    (λ (le : k ≤ at). let e : k ≡ at = omega (arith, le, more) in here s (omega (arith, e, within)) (ap (λ k. (get_or all k s).place) (sym e) ∙ same))
    (cases_lt at k))
    (cases_lt k at))

-- ---- one slot is woken

one_place : {T : Type 0} (place : ℕ) (s : Slot T) → (place == s.place) ≡ true → reset s ≡ woken_at (place ∷ []) s
one_place place s h = ap (λ b. record s { mark = cond (b || false) New s.mark }) (sym h)

other_place : {T : Type 0} (place : ℕ) (s : Slot T) → (place == s.place) ≡ false → s ≡ woken_at (place ∷ []) s
other_place place s h = ap (λ b. record s { mark = cond (b || false) New s.mark }) (sym h)

pub woken_one : {T : Type 0} (slots : List (Slot T)) (place at : ℕ) (s : Slot T) → Rises slots → at ≡ position_or_len (λ s. s.place == place) slots
    → at < length slots → s ≡ get_or slots at s → set slots at (reset s) ≡ map (woken_at (place ∷ [])) slots
woken_one slots place at s rises first there is =
    let passes : (get_or slots at s).place ≡ place = eqb-true (get_or slots at s).place place
    (subst (λ k. ((get_or slots k s).place == place) ≡ true) (sym first) (passes_at_first (λ s. s.place == place) slots s (omega (arith, first, there)))) in
    same_lists (set slots at (reset s)) (map (woken_at (place ∷ [])) slots) (length-set slots at (reset s) ∙ sym (length-map slots (woken_at (place ∷ []))))
    (λ k d within.
    let long : k < length slots = omega (arith, length-set slots at (reset s), within) in
    let right = get_or-map (woken_at (place ∷ [])) slots k d d long in
    ⊎_elim
    (λ (same : k ≡ at).
    let here : get_or slots k d ≡ s = ap (λ k. get_or slots k d) same ∙ get_or_default slots at d s there ∙ sym is in
    ap (λ k. get_or (set slots at (reset s)) k d) same ∙ get_or-set_same slots at (reset s) d there
    ∙ one_place place s (eq-eqb place s.place (sym (ap (λ (s : Slot _). s.place) is ∙ passes)))
    ∙ ap (woken_at (place ∷ [])) (sym here) ∙ sym right)
    (λ other.
    let apart : (place == (get_or slots k d).place) ≡ false = ne_eqb place (get_or slots k d).place (λ e.
    let at_d : (get_or slots at d).place ≡ place = ap (λ (s : Slot _). s.place) (get_or_default slots at d s there) ∙ passes in
    ⊎_elim
    (λ (less : k < at). let l = rises k at d less there in absurd (omega (arith, l, at_d, e)))
    (λ (more : at ≤ k). ⊎_elim
    (λ (less : at < k). let l = rises at k d less long in absurd (omega (arith, l, at_d, e)))
    (λ (le : k ≤ at). other (omega (arith, more, le)))
    (cases_lt at k))
    (cases_lt k at)) in
    get_or-set_other slots at k (reset s) d other ∙ other_place place (get_or slots k d) apart ∙ sym right)
    (cases_eq k at))

-- the same where the one with the place is the first
pub woken_at_first : {T : Type 0} (slots new : List (Slot T)) (place at : ℕ) → Rises slots → at ≡ position_or_len (λ s. s.place == place) slots
    → at < length slots → ((d : Slot T) → new ≡ set slots at (reset (get_or slots at d))) → new ≡ map (woken_at (place ∷ [])) slots
woken_at_first [] new place at rises first there is = absurd (omega (arith, there))
woken_at_first {T} (x ∷ slots) new place at rises first there is =
    let all : List (Slot T) = x ∷ slots in
    let s = get_or all at x in
    is x ∙ woken_one all place at s rises first there (get_or_default all at x s there)

pub woken_none : {T : Type 0} (slots : List (Slot T)) (place at : ℕ) → at ≡ position_or_len (λ s. s.place == place) slots → length slots ≤ at
    → slots ≡ map (woken_at (place ∷ [])) slots
woken_none slots place at first past =
    same_lists slots (map (woken_at (place ∷ [])) slots) (sym (length-map slots (woken_at (place ∷ []))))
    (λ k d within.
    let fails = fails_before_first (λ s. s.place == place) slots k d (omega (arith, first, past, within)) in
    let apart = ne_eqb place (get_or slots k d).place (λ e. eqb-false (get_or slots k d).place place fails (sym e)) in
    other_place place (get_or slots k d) apart ∙ sym (get_or-map (woken_at (place ∷ [])) slots k d d within))

-- ---- the slots of a row are woken

either_woken : (a b : Bool) (mark : Mark) → cond (b || false) New (cond a New mark) ≡ cond (a || (b || false)) New mark
either_woken true true mark = refl
either_woken true false mark = refl
either_woken false true mark = refl
either_woken false false mark = refl

pub woken_more : {T : Type 0} (slots : List (Slot T)) (places : List ℕ) (place : ℕ)
    → map (woken_at (place ∷ [])) (map (woken_at places) slots) ≡ map (woken_at (places ++ place ∷ [])) slots
woken_more [] places place = refl
woken_more {T} (s ∷ slots) places place =
    let with : Mark → Slot T = λ mark. record s { mark = mark } in
    let one = ap with (either_woken (has_place s.place places) (place == s.place) s.mark ∙ ap (λ b. cond b New s.mark) (sym (list_any-append (λ p. p == s.place) places (place ∷ [])))) in
    ap (λ (x : Slot T). x ∷ map (woken_at (place ∷ [])) (map (woken_at places) slots)) one
    ∙ ap (λ l. woken_at (places ++ place ∷ []) s ∷ l) (woken_more slots places place)

pub woken_by_none : {T : Type 0} (slots : List (Slot T)) → slots ≡ map (woken_at []) slots
woken_by_none [] = refl
woken_by_none (s ∷ slots) = ap (λ l. s ∷ l) (woken_by_none slots)

-- the slots of a row whose last place stands apart
pub woken_row : {T : Type 0} (slots : List (Slot T)) (before : List ℕ) (last : Option ℕ)
    → map (woken_at (option_to_list last)) (map (woken_at before) slots) ≡ map (woken_at (before ++ option_to_list last)) slots
woken_row slots before (Some place) = woken_more slots before place
woken_row slots before None = sym (woken_by_none (map (woken_at before) slots)) ∙ ap (λ (l : List ℕ). map (woken_at l) slots) (sym (append-nil before))

pub rises_woken : {T : Type 0} (slots : List (Slot T)) (places : List ℕ) → Rises slots → Rises (map (woken_at places) slots)
rises_woken [] places rises i j d less within = absurd (omega (arith, within))
rises_woken (x ∷ slots) places rises i j d less within =
    let all = x ∷ slots in
    let long : j < length all = omega (arith, length-map all (woken_at places), within) in
    let l = rises i j d less long in
    let a = ap (λ (s : Slot _). s.place) (get_or-map (woken_at places) all i d d (omega (arith, less, long))) in
    let b = ap (λ (s : Slot _). s.place) (get_or-map (woken_at places) all j d d long) in
    omega (arith, l, a, b)

-- where the row has the places of a key, the items of the key are woken
pub row_wakes : {T : Type 0} (key : T → List ℕ) (slots : List (Slot T)) (row id : List ℕ) → All (λ s. has_place s.place row ≡ bytes_eq id (key s.item)) slots
    → map seat_of (map (woken_at row) slots) ≡ map (woken key id) (map seat_of slots)
row_wakes key [] row id h = refl
row_wakes {T} key (s ∷ slots) row id h =
    let P : Slot T → Type 0 = λ s. has_place s.place row ≡ bytes_eq id (key s.item) in
    let seat : Bool → T × Mark = λ b. (s.item, cond b New s.mark) in
    ap (λ b. seat b ∷ map seat_of (map (woken_at row) slots)) (All-head P s slots h)
    ∙ ap (λ l. seat (bytes_eq id (key s.item)) ∷ l) (row_wakes key slots row id (All-tail P s slots h))

pub tags_woken : {T : Type 0} (key : T → List ℕ) (slots : List (Slot T)) (places : List ℕ) → map (tag_of key) (map (woken_at places) slots) ≡ map (tag_of key) slots
tags_woken key [] places = refl
tags_woken key (s ∷ slots) places = ap (λ l. tag_of key s ∷ l) (tags_woken key slots places)

pub tags_reset : {T : Type 0} (key : T → List ℕ) (slots : List (Slot T)) → map (tag_of key) (map reset slots) ≡ map (tag_of key) slots
tags_reset key [] = refl
tags_reset key (s ∷ slots) = ap (λ l. tag_of key s ∷ l) (tags_reset key slots)

pub seats_reset : {T : Type 0} (slots : List (Slot T)) → map seat_of (map reset slots) ≡ map forgotten (map seat_of slots)
seats_reset [] = refl
seats_reset (s ∷ slots) = ap (λ l. (s.item, New) ∷ l) (seats_reset slots)
