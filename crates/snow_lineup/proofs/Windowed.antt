-- Lemmas on windows: where a mark may stand, after each change.
use Rattle.std.proofs.Common.{◌≡◌, ℕ, ◌<◌, ◌≤◌, ◌+◌, ◌-◌, Bool, true, false, cond, List, [], ◌∷◌, ◌++◌, map, length, min, max, ltb, get_or, set, All, refl, sym, ap, ◌∙◌, subst, arith, ⊎_elim}
use Rattle.std.specs.List.{remove, position_or_len}
use Rattle.std.proofs.lemmas.Bool.{cases_eq, cases_lt, lt-ltb, le-ltb, false_from_ne_true, both_ways}
use Rattle.std.proofs.lemmas.List.{length-set, length_push, get_or-set_same, get_or-set_other, get_or_push, get_or_append_left, get_or-map, length-map}
use Rattle.std.proofs.lemmas.List.Edits.{length-remove, get_or-remove_below, get_or-remove_above}
use Rattle.std.proofs.lemmas.List.Sums.{fails_before_first, position_or_len_is}
use Rattle.snow_lineup.specs.declared.marks.Mark.{Mark}
use Rattle.snow_lineup.specs.declared.marks.Mark.TheVariants.{New, Quiet, Ripe}
use Rattle.snow_lineup.specs.declared.window.Window.{Window}
use Rattle.snow_lineup.specs.declared.window.Windows.{Windows}
use Rattle.snow_lineup.specs.Kept.Marks.{has}
use Rattle.snow_lineup.specs.Kept.Index.{forgotten}
use Rattle.snow_lineup.specs.Kept.Windows.{IsWithin, AreWithin, no_windows, no_place, all_fresh, with_place, marked, moved, closed_up, all_closed_up, from_first, narrowed}

pub within_nothing : {T : Type 0} → AreWithin {T = T} [] no_windows
within_nothing = record { fresh = λ k d h. absurd (omega (arith, h)); ripe = λ k d h. absurd (omega (arith, h)) }

-- ---- a mark at a place

-- a window that has places lies within the other
abbrev IsAround : Window → Window → Type 0
IsAround v w = w.low < w.high → (v.low ≤ w.low) × (w.high ≤ v.high)

itself_around : (w : Window) → IsAround w w
itself_around w h = (omega arith, omega arith)

place_within : (w : Window) (at : ℕ) → ((with_place w at).low ≤ at) × (at < (with_place w at).high)
place_within w at =
    let Goal : Bool → Type 0 = λ b. let v : Window = cond b (record { low = min w.low at; high = max w.high (at + 1) }) (record { low = at; high = at + 1 }) in
    (v.low ≤ at) × (at < v.high) in
    elim (ltb w.low w.high) as Goal [ true ↦ (omega arith, omega arith) | false ↦ (omega arith, omega arith) ]

place_around : (w : Window) (at : ℕ) → IsAround (with_place w at) w
place_around w at h =
    let Goal : Bool → Type 0 = λ b. let v : Window = cond b (record { low = min w.low at; high = max w.high (at + 1) }) (record { low = at; high = at + 1 }) in
    (v.low ≤ w.low) × (w.high ≤ v.high) in
    subst Goal (sym (lt-ltb w.low w.high h)) (omega arith, omega arith)

set_within : {T : Type 0} (mark : Mark) (seats : List (T × Mark)) (w v : Window) (at : ℕ) (x : T × Mark) → at < length seats → IsWithin mark seats w
    → (has mark x ≡ true → (v.low ≤ at) × (at < v.high)) → IsAround v w → IsWithin mark (set seats at x) v
set_within mark seats w v at x there is here around k d within marked =
    ⊎_elim
    (λ (same : k ≡ at).
    let e = ap (λ k. get_or (set seats at x) k d) same ∙ get_or-set_same seats at x d there in
    let both = here (sym (ap (has mark) e) ∙ marked) in
    (omega (arith, same, both), omega (arith, same, both)))
    (λ other.
    let e = get_or-set_other seats at k x d other in
    let both = is k d (omega (arith, length-set seats at x, within)) (sym (ap (has mark) e) ∙ marked) in
    let wide = around (omega (arith, both)) in
    (omega (arith, wide, both), omega (arith, wide, both)))
    (cases_eq k at)

push_within : {T : Type 0} (mark : Mark) (seats : List (T × Mark)) (w v : Window) (x : T × Mark) → IsWithin mark seats w
    → (has mark x ≡ true → (v.low ≤ length seats) × (length seats < v.high)) → IsAround v w → IsWithin mark (seats ++ x ∷ []) v
push_within mark seats w v x is here around k d within marked =
    ⊎_elim
    (λ (before : k < length seats).
    let e = get_or_append_left seats (x ∷ []) d k before in
    let both = is k d before (sym (ap (has mark) e) ∙ marked) in
    let wide = around (omega (arith, both)) in
    (omega (arith, wide, both), omega (arith, wide, both)))
    (λ (behind : length seats ≤ k).
    let same : length seats ≡ k = omega (arith, length_push seats x, within, behind) in
    let both = here (sym (ap (has mark) (get_or_push seats x d k same)) ∙ marked) in
    (omega (arith, same, both), omega (arith, same, both)))
    (cases_lt k (length seats))

pub within_marked : {T : Type 0} (seats : List (T × Mark)) (w : Windows) (at : ℕ) (x : T) (mark : Mark) → at < length seats → AreWithin seats w
    → AreWithin (set seats at (x, mark)) (marked w at mark)
within_marked seats w at x New there is = record {
  fresh = set_within New seats w.fresh (with_place w.fresh at) at (x, New) there is.fresh (λ _. place_within w.fresh at) (place_around w.fresh at);
  ripe = set_within Ripe seats w.ripe w.ripe at (x, New) there is.ripe (λ e. absurd cc) (itself_around w.ripe);
}
within_marked seats w at x Quiet there is = record {
  fresh = set_within New seats w.fresh w.fresh at (x, Quiet) there is.fresh (λ e. absurd cc) (itself_around w.fresh);
  ripe = set_within Ripe seats w.ripe w.ripe at (x, Quiet) there is.ripe (λ e. absurd cc) (itself_around w.ripe);
}
within_marked seats w at x Ripe there is = record {
  fresh = set_within New seats w.fresh w.fresh at (x, Ripe) there is.fresh (λ e. absurd cc) (itself_around w.fresh);
  ripe = set_within Ripe seats w.ripe (with_place w.ripe at) at (x, Ripe) there is.ripe (λ _. place_within w.ripe at) (place_around w.ripe at);
}

pub within_pushed : {T : Type 0} (seats : List (T × Mark)) (w : Windows) (x : T) → AreWithin seats w
    → AreWithin (seats ++ (x, New) ∷ []) (marked w (length seats) New)
within_pushed seats w x is = record {
  fresh = push_within New seats w.fresh (with_place w.fresh (length seats)) (x, New) is.fresh (λ _. place_within w.fresh (length seats)) (place_around w.fresh (length seats));
  ripe = push_within Ripe seats w.ripe w.ripe (x, New) is.ripe (λ e. absurd cc) (itself_around w.ripe);
}

-- ---- an item goes

moved_low : (at bound : ℕ) → at < bound → moved at bound ≡ bound - 1
moved_low at bound h = ap (λ b. cond b (bound - 1) bound) (lt-ltb at bound h)

moved_high : (at bound : ℕ) → bound ≤ at → moved at bound ≡ bound
moved_high at bound h = ap (λ b. cond b (bound - 1) bound) (le-ltb at bound h)

-- a bound that was at most k + 1, and at most k where the place is behind k
low_moved : (at low k : ℕ) → (k < at → low ≤ k) → (at ≤ k → low ≤ k + 1) → moved at low ≤ k
low_moved at low k before behind =
    ⊎_elim
    (λ (h : at < low). let m = moved_low at low h in
    ⊎_elim (λ (b : k < at). let l = before b in omega (arith, m, l)) (λ (b : at ≤ k). let l = behind b in omega (arith, m, l, h)) (cases_lt k at))
    (λ (h : low ≤ at). let m = moved_high at low h in
    ⊎_elim (λ (b : k < at). let l = before b in omega (arith, m, l)) (λ (b : at ≤ k). omega (arith, m, b, h)) (cases_lt k at))
    (cases_lt at low)

high_moved : (at high k : ℕ) → (k < at → k < high) → (at ≤ k → k + 1 < high) → k < moved at high
high_moved at high k before behind =
    ⊎_elim
    (λ (h : at < high). let m = moved_low at high h in
    ⊎_elim (λ (b : k < at). omega (arith, m, b, h)) (λ (b : at ≤ k). let l = behind b in omega (arith, m, l)) (cases_lt k at))
    (λ (h : high ≤ at). let m = moved_high at high h in
    ⊎_elim (λ (b : k < at). let l = before b in omega (arith, m, l)) (λ (b : at ≤ k). let l = behind b in omega (arith, b, h, l)) (cases_lt k at))
    (cases_lt at high)

remove_within : {T : Type 0} (mark : Mark) (seats : List (T × Mark)) (w : Window) (at : ℕ) → at < length seats → IsWithin mark seats w
    → IsWithin mark (remove seats at) (closed_up w at)
remove_within {T} mark seats w at there is k d within marked =
    let low : k < at → (w.low ≤ k) × (k < w.high) = λ b.
    is k d (omega (arith, b, there)) (sym (ap (has mark) (get_or-remove_below seats at d k b there)) ∙ marked) in
    let high : at ≤ k → (w.low ≤ k + 1) × (k + 1 < w.high) = λ b.
    is (k + 1) d (omega (arith, length-remove seats at there, within)) (sym (ap (has mark) (get_or-remove_above seats at d k b there)) ∙ marked) in
    (low_moved at w.low k (λ b. (low b).0) (λ b. (high b).0), high_moved at w.high k (λ b. (low b).1) (λ b. (high b).1))

pub within_removed : {T : Type 0} (seats : List (T × Mark)) (w : Windows) (at : ℕ) → at < length seats → AreWithin seats w
    → AreWithin (remove seats at) (all_closed_up w at)
within_removed seats w at there is = record {
  fresh = remove_within New seats w.fresh at there is.fresh;
  ripe = remove_within Ripe seats w.ripe at there is.ripe;
}

-- ---- items go

pub no_mark : {T : Type 0} (mark : Mark) (seats : List (T × Mark)) (w : Window) → IsWithin mark seats w → w.high ≤ w.low → All (λ s. has mark s ≡ false) seats
no_mark mark seats w is none k d within = false_from_ne_true (has mark (get_or seats k d)) (λ t. let both = is k d within t in omega (arith, both, none))

-- ---- the first item with a mark

first_within : {T : Type 0} (mark : Mark) (seats : List (T × Mark)) (w : Window) (at : ℕ) → IsWithin mark seats w → at ≡ position_or_len (has mark) seats
    → IsWithin mark seats (from_first w at (length seats))
first_within {T} mark seats w at is first =
    let Goal : Bool → Type 0 = λ b. IsWithin mark seats (cond b (record { low = at; high = w.high }) no_place) in
    let not_before : (k : ℕ) (d : T × Mark) → has mark (get_or seats k d) ≡ true → at ≤ k = λ k d marked.
    ⊎_elim
    (λ (h : k < at). absurd (both_ways (has mark (get_or seats k d)) (fails_before_first (has mark) seats k d (omega (arith, first, h))) marked))
    (λ (h : at ≤ k). h)
    (cases_lt k at) in
    ⊎_elim
    (λ (h : at < length seats). subst Goal (sym (lt-ltb at (length seats) h)) (λ k d within marked. (not_before k d marked, (is k d within marked).1)))
    (λ (h : length seats ≤ at). subst Goal (sym (le-ltb at (length seats) h)) (λ k d within marked. let b = not_before k d marked in absurd (omega (arith, b, h, within))))
    (cases_lt at (length seats))

pub within_narrowed : {T : Type 0} (mark : Mark) (seats : List (T × Mark)) (w : Windows) (at : ℕ) → AreWithin seats w → at ≡ position_or_len (has mark) seats
    → AreWithin seats (narrowed w mark at (length seats))
within_narrowed New seats w at is first = record { fresh = first_within New seats w.fresh at is.fresh first; ripe = is.ripe }
within_narrowed Quiet seats w at is first = is
within_narrowed Ripe seats w at is first = record { fresh = is.fresh; ripe = first_within Ripe seats w.ripe at is.ripe first }

-- ---- nothing is remembered

pub within_forgotten : {T : Type 0} (seats : List (T × Mark)) → AreWithin (map forgotten seats) (all_fresh (length seats))
within_forgotten seats = record {
  fresh = λ k d within marked. (omega arith, omega (arith, length-map seats forgotten, within));
  ripe = λ k d within marked.
      let e = get_or-map forgotten seats k d d (omega (arith, length-map seats forgotten, within)) in
      let no : has Ripe (forgotten (get_or seats k d)) ≡ true = sym (ap (has Ripe) e) ∙ marked in
      absurd cc;
}

-- ---- a walk for a mark

-- no place below this one has the mark
abbrev pub NoneBelow : {T : Type 0} → Mark → List (T × Mark) → ℕ → Type 0
NoneBelow {T} mark seats at = (k : ℕ) (d : T × Mark) → k < at → k < length seats → has mark (get_or seats k d) ≡ false

pub none_outside : {T : Type 0} (mark : Mark) (seats : List (T × Mark)) (w : Window) → IsWithin mark seats w → NoneBelow mark seats w.low
none_outside mark seats w is k d less within = false_from_ne_true (has mark (get_or seats k d)) (λ t. let both = is k d within t in omega (arith, both, less))

pub none_further : {T : Type 0} (mark : Mark) (seats : List (T × Mark)) (at : ℕ) → NoneBelow mark seats at
    → ((d : T × Mark) → at < length seats → has mark (get_or seats at d) ≡ false) → NoneBelow mark seats (at + 1)
none_further mark seats at before here k d less within =
    ⊎_elim (λ (h : k < at). before k d h within)
    (λ (h : at ≤ k). let same : at ≡ k = omega (arith, h, less) in subst (λ k. has mark (get_or seats k d) ≡ false) same (here d (omega (arith, same, within))))
    (cases_lt k at)

pub first_found : {T : Type 0} (mark : Mark) (seats : List (T × Mark)) (at : ℕ) (d : T × Mark) → NoneBelow mark seats at → at < length seats → has mark (get_or seats at d) ≡ true
    → at ≡ position_or_len (has mark) seats
first_found mark seats at d none there here =
    sym (position_or_len_is (has mark) seats at d (omega (arith, there)) (λ k less. none k d less (omega (arith, less, there))) (λ _. here))

pub first_missing : {T : Type 0} (mark : Mark) (seats : List (T × Mark)) (w : Window) (at high : ℕ) → IsWithin mark seats w → NoneBelow mark seats at
    → high ≡ min w.high (length seats) → high ≤ at → length seats ≡ position_or_len (has mark) seats
first_missing mark [] w at high is none top past = refl
first_missing {T} mark (s ∷ seats) w at high is none top past =
    let all : List (T × Mark) = s ∷ seats in
    sym (position_or_len_is (has mark) all (length all) s (omega arith)
    (λ k within. ⊎_elim
    (λ (h : k < at). none k s h within)
    (λ (h : at ≤ k). false_from_ne_true (has mark (get_or all k s)) (λ t. let both = is k s within t in omega (arith, both, top, past, h, within)))
    (cases_lt k at))
    (λ h. absurd (omega (arith, h))))
