-- Lemmas on looking: the first item that passes a test, where those that aren't new are known to fail it.
use Rattle.std.proofs.Common.{◌≡◌, ℕ, suc, ◌<◌, ◌≤◌, ◌+◌, ◌-◌, Bool, true, false, not, ◌||◌, cond, List, [], ◌∷◌, length, get_or, set, find, All, Some, None, refl, sym, ap, ◌∙◌, subst, arith, ⊎_elim}
use Rattle.std.specs.List.{position_or_len}
use Rattle.std.proofs.lemmas.Bool.{cases_lt, both_ways}
use Rattle.std.proofs.lemmas.List.{length-set, get_or-set_same, get_or-set_other, get_or-map, length-map, map-set, set-get_or}
use Rattle.std.proofs.lemmas.List.Elements.{All-set, All-head, All-tail}
use Rattle.std.proofs.lemmas.List.Sums.{position_or_len_is, fails_before_first, passes_at_first, prefix_len-le-length}
use Rattle.snow_board.specs.Model.Board.{Board}
use Rattle.snow_issue.specs.declared.work.Waiting.{Waiting}
use Rattle.snow_gets.specs.declared.gets.Get.{Get}
use Rattle.snow_lineup.specs.declared.marks.Mark.{Mark}
use Rattle.snow_lineup.specs.declared.marks.Mark.TheVariants.{New, Quiet, Ripe}
use Rattle.snow_gets.specs.Model.Gets.{asked_in}
use Rattle.snow_issue.specs.Model.Lists.{waits_below}
use Rattle.snow_issue.specs.Model.Offering.{is_on}
use Rattle.snow_issue.specs.Model.Settling.{is_hopeless_by, is_ready}
use Rattle.snow_issue.specs.Kept.Known.{items_of, sight, Tells}
use Rattle.snow_lineup.specs.Kept.Marks.{has, is_mark}

-- ---- places

-- no place before n passes, so the first that passes is n at least
pub at_least : {T : Type 0} (p : T → Bool) (xs : List T) (n : ℕ) (d : T) → n ≤ length xs → ((k : ℕ) → k < n → p (get_or xs k d) ≡ false) → n ≤ position_or_len p xs
at_least p xs n d within fails =
    ⊎_elim
    (λ (h : position_or_len p xs < n). absurd (both_ways (p (get_or xs (position_or_len p xs) d)) (fails (position_or_len p xs) h) (passes_at_first p xs d (omega (arith, h, within)))))
    (λ (h : n ≤ position_or_len p xs). h)
    (cases_lt (position_or_len p xs) n)

pub within_length : {T : Type 0} (p : T → Bool) (xs : List T) → position_or_len p xs ≤ length xs
within_length p xs = prefix_len-le-length (λ x. not (p x)) xs

-- the item at the first place that passes is found
pub found_first : {T : Type 0} (p : T → Bool) (xs : List T) (at : ℕ) (x : T) → at ≡ position_or_len p xs → at < length xs → x ≡ get_or xs at x → Some x ≡ find p xs
found_first p [] at x first there is = absurd (omega (arith, there))
found_first {T} p (y ∷ xs) at x first there is =
    let Goal : Bool → Type 0 = λ b. p y ≡ b → at ≡ cond (not b) (1 + position_or_len p xs) 0 → Some x ≡ cond b (Some y) (find p xs) in
    elim (p y) as Goal [
      | true ↦ λ e h. ap Some (is ∙ ap (λ k. get_or (y ∷ xs) k x) h)
      | false ↦ λ e h.
          let step : at ≡ suc (position_or_len p xs) = omega (arith, h) in
          let next : x ≡ get_or xs (position_or_len p xs) x = is ∙ ap (λ k. get_or (y ∷ xs) k x) step in
          found_first p xs (position_or_len p xs) x refl (omega (arith, step, there)) next
    ] refl first

pub found_none : {T : Type 0} (p : T → Bool) (xs : List T) → length xs ≤ position_or_len p xs → None ≡ find p xs
found_none p [] h = refl
found_none {T} p (y ∷ xs) h =
    let Goal : Bool → Type 0 = λ b. suc (length xs) ≤ cond (not b) (1 + position_or_len p xs) 0 → None ≡ cond b (Some y) (find p xs) in
    elim (p y) as Goal [
      | true ↦ λ h. absurd (omega (arith, h))
      | false ↦ λ h. found_none p xs (omega (arith, h))
    ] h

-- ---- the loops

-- what isn't new is known to fail
abbrev pub KnownToFail : {T : Type 0} → (T → Bool) → List (T × Mark) → Type 0
KnownToFail p seats = All (λ s. has New s ≡ false → p s.0 ≡ false) seats

pub items_at : {T : Type 0} (seats : List (T × Mark)) (k : ℕ) (d : T × Mark) → k < length seats → get_or (items_of seats) k d.0 ≡ (get_or seats k d).0
items_at seats k d within = get_or-map (λ (s : _ × Mark). s.0) seats k d d.0 within

-- the first new item, where it passes, or the end, is where the first item that passes stands
pub first_passing : {T : Type 0} (p : T → Bool) (seats : List (T × Mark)) (at : ℕ) (d : T × Mark) → KnownToFail p seats → at ≡ position_or_len (has New) seats
    → (at < length seats → p (get_or seats at d).0 ≡ true) → at ≡ position_or_len p (items_of seats)
first_passing {T} p seats at d known first passes =
    let long : length (items_of seats) ≡ length seats = length-map seats (λ (s : T × Mark). s.0) in
    let short : position_or_len (has New) seats ≤ length seats = within_length (has New) seats in
    sym (position_or_len_is p (items_of seats) at d.0 (omega (arith, long, short, first))
    (λ k less.
    let within : k < length seats = omega (arith, less, first, short) in
    ap p (items_at seats k d within) ∙ known k d within (fails_before_first (has New) seats k d (omega (arith, less, first))))
    (λ within. let h : at < length seats = omega (arith, within, long) in ap p (items_at seats at d h) ∙ passes h))

-- where nothing is new, none passes
pub none_passing : {T : Type 0} (p : T → Bool) (seats : List (T × Mark)) (at : ℕ) → KnownToFail p seats → at ≡ position_or_len (has New) seats → length seats ≤ at
    → at ≡ position_or_len p (items_of seats)
none_passing p [] at known first past = first
none_passing p (s ∷ seats) at known first past = first_passing p (s ∷ seats) at s known first (λ h. absurd (omega (arith, h, past)))

-- remembering something of the first new item leaves fewer places to look at
pub smaller : {T : Type 0} (seats : List (T × Mark)) (at : ℕ) (x : T) (mark : Mark) → is_mark New mark ≡ false → at ≡ position_or_len (has New) seats → at < length seats
    → length (set seats at (x, mark)) - position_or_len (has New) (set seats at (x, mark)) < length seats - position_or_len (has New) seats
smaller {T} seats at x mark old first there =
    let new : T × Mark = (x, mark) in
    let long = length-set seats at new in
    let later : at + 1 ≤ position_or_len (has New) (set seats at new) =
    at_least (has New) (set seats at new) (at + 1) new (omega (arith, long, there))
    (λ k less. ⊎_elim
    (λ (h : k < at). ap (has New) (get_or-set_other seats at k new new (λ e. omega (arith, e, h))) ∙ fails_before_first (has New) seats k new (omega (arith, h, first)))
    (λ (h : at ≤ k). let same : k ≡ at = omega (arith, h, less) in ap (has New) (ap (λ k. get_or (set seats at new) k new) same ∙ get_or-set_same seats at new new there) ∙ old)
    (cases_lt k at)) in
    omega (arith, long, later, first, there)

-- the items stay
pub items_set : {T : Type 0} (seats : List (T × Mark)) (at : ℕ) (x : T) (mark : Mark) (d : T × Mark) → at < length seats → x ≡ (get_or seats at d).0
    → items_of (set seats at (x, mark)) ≡ items_of seats
items_set {T} seats at x mark d there is =
    map-set (λ (s : T × Mark). s.0) seats at (x, mark)
    ∙ ap (λ y. set (items_of seats) at y) (is ∙ sym (items_at seats at d there))
    ∙ set-get_or (items_of seats) at d.0

-- the same, by what a call leaves
pub items_after_set : {T : Type 0} (seats after : List (T × Mark)) (at : ℕ) (mark : Mark) → at < length seats
    → ((d : T × Mark) → after ≡ set seats at ((get_or seats at d).0, mark)) → items_of after ≡ items_of seats
items_after_set [] after at mark there is = absurd (omega (arith, there))
items_after_set (s ∷ seats) after at mark there is = ap items_of (is s) ∙ items_set (s ∷ seats) at (get_or (s ∷ seats) at s).0 mark s there refl

-- ---- what a look tells

on_fails : (on other : Bool) (mark : Mark) → cond on (Some Ripe) (cond other (Some Quiet) None) ≡ Some mark → not (on || other) ≡ false
on_fails true other mark h = refl
on_fails false true mark h = refl
on_fails false false mark h = absurd cc

on_passes : (on other : Bool) → cond on (Some Ripe) (cond other (Some Quiet) None) ≡ None → not (on || other) ≡ true
on_passes true other h = absurd cc
on_passes false true h = absurd cc
on_passes false false h = refl

pub not_hopeless : (waiting : List Waiting) (gets : List Get) (board : Board) (w : Waiting) (mark : Mark) → sight waiting gets board w.header ≡ Some mark
    → is_hopeless_by waiting gets board w ≡ false
not_hopeless waiting gets board w mark h = on_fails (is_on board w.header.parent) (asked_in gets w.header.parent || waits_below waiting w.header) mark h

pub is_lost : (waiting : List Waiting) (gets : List Get) (board : Board) (w : Waiting) → sight waiting gets board w.header ≡ None
    → is_hopeless_by waiting gets board w ≡ true
is_lost waiting gets board w h = on_passes (is_on board w.header.parent) (asked_in gets w.header.parent || waits_below waiting w.header) h

new_never : (on other : Bool) → cond on (Some Ripe) (cond other (Some Quiet) None) ≡ Some New → is_mark New New ≡ false
new_never true other h = absurd cc
new_never false true h = absurd cc
new_never false false h = absurd cc

-- a look tells something else than that nothing is known
pub never_new : (on other : Bool) (mark : Mark) → cond on (Some Ripe) (cond other (Some Quiet) None) ≡ Some mark → is_mark New mark ≡ false
never_new on other New h = new_never on other h
never_new on other Quiet h = refl
never_new on other Ripe h = refl

pub told : (waiting : List Waiting) (gets : List Get) (board : Board) (w : Waiting) (mark : Mark) → sight waiting gets board w.header ≡ Some mark → Tells waiting gets board (w, mark)
told waiting gets board w New h = tt
told waiting gets board w Quiet h = h
told waiting gets board w Ripe h = h

tells_fails : (waiting : List Waiting) (gets : List Get) (board : Board) (w : Waiting) (mark : Mark) → Tells waiting gets board (w, mark) → is_mark New mark ≡ false
    → is_hopeless_by waiting gets board w ≡ false
tells_fails waiting gets board w New h old = absurd cc
tells_fails waiting gets board w Quiet h old = not_hopeless waiting gets board w Quiet h
tells_fails waiting gets board w Ripe h old = not_hopeless waiting gets board w Ripe h

pub known_not_hopeless : (waiting : List Waiting) (gets : List Get) (board : Board) (seats : List (Waiting × Mark)) → All (Tells waiting gets board) seats
    → KnownToFail (is_hopeless_by waiting gets board) seats
known_not_hopeless waiting gets board seats tells k d within old =
    let s = get_or seats k d in tells_fails waiting gets board s.0 s.1 (tells k d within) old

pub tells_set : (gets : List Get) (board : Board) (seats : List (Waiting × Mark)) (at : ℕ) (w : Waiting) (mark : Mark) (d : Waiting × Mark) → at < length seats
    → w ≡ (get_or seats at d).0 → sight (items_of seats) gets board w.header ≡ Some mark → All (Tells (items_of seats) gets board) seats
    → All (Tells (items_of (set seats at (w, mark))) gets board) (set seats at (w, mark))
tells_set gets board seats at w mark d there is h tells =
    let after = set seats at (w, mark) in
    subst (λ (l : List Waiting). All (Tells l gets board) after) (sym (items_set seats at w mark d there is))
    (All-set (Tells (items_of seats) gets board) seats at (w, mark) (told (items_of seats) gets board w mark h) tells)

-- ---- by what the calls leave

pub tells_after : (gets : List Get) (board : Board) (seats after : List (Waiting × Mark)) (at : ℕ) (mark : Mark) → at < length seats
    → ((d : Waiting × Mark) → after ≡ set seats at ((get_or seats at d).0, mark))
    → ((d : Waiting × Mark) → sight (items_of seats) gets board (get_or seats at d).0.header ≡ Some mark)
    → All (Tells (items_of seats) gets board) seats → All (Tells (items_of after) gets board) after
tells_after gets board [] after at mark there is sees tells = absurd (omega (arith, there))
tells_after gets board (s ∷ seats) after at mark there is sees tells =
    let all : List (Waiting × Mark) = s ∷ seats in
    subst (λ (l : List (Waiting × Mark)). All (Tells (items_of l) gets board) l) (sym (is s))
    (tells_set gets board all at (get_or all at s).0 mark s there refl (sees s) tells)

pub smaller_after : {T : Type 0} (seats after : List (T × Mark)) (at : ℕ) (mark : Mark) → is_mark New mark ≡ false → at ≡ position_or_len (has New) seats → at < length seats
    → ((d : T × Mark) → after ≡ set seats at ((get_or seats at d).0, mark))
    → length after - position_or_len (has New) after < length seats - position_or_len (has New) seats
smaller_after [] after at mark old first there is = absurd (omega (arith, there))
smaller_after {T} (s ∷ seats) after at mark old first there is =
    let all : List (T × Mark) = s ∷ seats in
    subst (λ (l : List (T × Mark)). length l - position_or_len (has New) l < length all - position_or_len (has New) all) (sym (is s))
    (smaller all at (get_or all at s).0 mark old first there)

pub first_passing_at : {T : Type 0} (p : T → Bool) (seats : List (T × Mark)) (at : ℕ) → KnownToFail p seats → at ≡ position_or_len (has New) seats → at < length seats
    → ((d : T × Mark) → p (get_or seats at d).0 ≡ true) → at ≡ position_or_len p (items_of seats)
first_passing_at p [] at known first there passes = absurd (omega (arith, there))
first_passing_at p (s ∷ seats) at known first there passes = first_passing p (s ∷ seats) at s known first (λ _. passes s)

-- a walk over waiting blocks: the same blocks, and what is remembered is true
pub record IsLooking (before now : List (Waiting × Mark)) (gets : List Get) (board : Board) : Type 0 where
  pub same : items_of now ≡ items_of before
  pub tells : All (Tells (items_of now) gets board) now

-- ---- ready blocks

-- a test of the items that is one of what is remembered has the same first place
pub position_same : {T : Type 0} (p : T → Bool) (q : T × Mark → Bool) (seats : List (T × Mark)) → All (λ s. p s.0 ≡ q s) seats → position_or_len p (items_of seats) ≡ position_or_len q seats
position_same p q [] h = refl
position_same {T} p q (s ∷ seats) h =
    ap (λ b. cond (not b) (1 + position_or_len p (items_of seats)) 0) (All-head (λ (s : T × Mark). p s.0 ≡ q s) s seats h)
    ∙ ap (λ n. cond (not (q s)) (1 + n) 0) (position_same p q seats (All-tail (λ (s : T × Mark). p s.0 ≡ q s) s seats h))

ripe_on : (on other : Bool) → cond on (Some Ripe) (cond other (Some Quiet) None) ≡ Some Ripe → on ≡ true
ripe_on true other h = refl
ripe_on false true h = absurd cc
ripe_on false false h = absurd cc

pub quiet_off : (on other : Bool) → cond on (Some Ripe) (cond other (Some Quiet) None) ≡ Some Quiet → on ≡ false
quiet_off true other h = absurd cc
quiet_off false other h = refl

-- a block that was looked at is ready where it is ripe
pub ready_is_ripe : (waiting : List Waiting) (gets : List Get) (board : Board) (w : Waiting) (mark : Mark) → Tells waiting gets board (w, mark) → is_mark New mark ≡ false
    → is_ready board w ≡ is_mark Ripe mark
ready_is_ripe waiting gets board w New h old = absurd cc
ready_is_ripe waiting gets board w Quiet h old = quiet_off (is_on board w.header.parent) (asked_in gets w.header.parent || waits_below waiting w.header) h
ready_is_ripe waiting gets board w Ripe h old = ripe_on (is_on board w.header.parent) (asked_in gets w.header.parent || waits_below waiting w.header) h

pub ready_all : (gets : List Get) (board : Board) (seats : List (Waiting × Mark)) → All (Tells (items_of seats) gets board) seats → length seats ≡ position_or_len (has New) seats
    → All (λ s. is_ready board s.0 ≡ has Ripe s) seats
ready_all gets board seats tells seen k d within =
    let s = get_or seats k d in
    ready_is_ripe (items_of seats) gets board s.0 s.1 (tells k d within) (fails_before_first (has New) seats k d (omega (arith, within, seen)))

-- where no block is ripe, none is ready
pub none_ripe : {T : Type 0} (seats : List (T × Mark)) → length seats ≤ position_or_len (has Ripe) seats → All (λ s. has Ripe s ≡ false) seats
none_ripe seats past k d within = fails_before_first (has Ripe) seats k d (omega (arith, within, past))
