-- The one block of which nothing is remembered is the first ready one, where its parent is on the board and none is ripe.
use Rattle.std.proofs.Common.{◌≡◌, ℕ, ◌<◌, ◌≤◌, true, false, ◌||◌, cond, List, [], ◌∷◌, length, get_or, find, All, Some, None, refl, sym, ap, ◌∙◌, arith, ⊎_elim}
use Rattle.std.specs.List.{position_or_len}
use Rattle.std.proofs.lemmas.Bool.{cases_lt, false_from_ne_true}
use Rattle.std.proofs.lemmas.List.{length-map}
use Rattle.std.proofs.lemmas.List.Sums.{position_or_len_is}
use Rattle.snow_board.specs.Model.Board.{Board}
use Rattle.snow_issue.specs.declared.work.Waiting.{Waiting}
use Rattle.snow_lineup.specs.declared.marks.Mark.{Mark}
use Rattle.snow_lineup.specs.declared.marks.Mark.TheVariants.{New, Quiet, Ripe}
use Rattle.snow_gets.specs.Model.Gets.{asked_in}
use Rattle.snow_issue.specs.Model.Lists.{waits_below}
use Rattle.snow_issue.specs.Model.Offering.{is_on}
use Rattle.snow_issue.specs.Model.Settling.{is_hopeless, is_ready}
use Rattle.snow_issue.specs.Kept.Known.{Seen, Knows, NoneRipe, items_of, lists_of}
use Rattle.snow_lineup.specs.Kept.Marks.{has}
use Rattle.snow_lineup.specs.Kept.Marks.{IsOnlyAt}
use Rattle.snow_issue.proofs.Looked.{items_at, known_not_hopeless, not_hopeless, ready_is_ripe}
use Rattle.snow_issue.proofs.Resting.{find_fails}

-- at no other place is a block new
abbrev IsOnlyNew : List (Waiting × Mark) → ℕ → Type 0
IsOnlyNew seats at = IsOnlyAt New seats at

old : (seats : List (Waiting × Mark)) (at k : ℕ) (d : Waiting × Mark) → IsOnlyNew seats at → k < length seats → (k ≡ at → ⊥) → has New (get_or seats k d) ≡ false
old seats at k d alone within other =
    false_from_ne_true (has New (get_or seats k d)) (λ t.
    absurd (other (alone k d within t)))

none_lost : (s : Seen) (board : Board) (at : ℕ) → Knows s board → IsOnlyNew s.seats at → ((d : Waiting × Mark) → is_on board (get_or s.seats at d).0.header.parent ≡ true)
    → All (λ w. is_hopeless (lists_of s) board w ≡ false) (items_of s.seats)
none_lost s board at knows alone on k d within =
    let e : Waiting × Mark = (d, New) in
    let h : k < length s.seats = omega (arith, within, length-map s.seats (λ (t : Waiting × Mark). t.0)) in
    let items = items_of s.seats in
    let w = (get_or s.seats k e).0 in
    let known : (k ≡ at → ⊥) → is_hopeless (lists_of s) board w ≡ false = λ other. known_not_hopeless items s.gets board s.seats knows k e h (old s.seats at k e alone h other) in
    ap (is_hopeless (lists_of s) board) (items_at s.seats k e h)
    ∙ ⊎_elim
    (λ (l : k < at). known (λ same. omega (arith, same, l)))
    (λ (l : at ≤ k). ⊎_elim
    (λ (m : at < k). known (λ same. omega (arith, same, m)))
    (λ (m : k ≤ at).
    let same : k ≡ at = omega (arith, l, m) in
    not_hopeless items s.gets board w Ripe
    (ap (λ b. cond b (Some Ripe) (cond (asked_in s.gets w.header.parent || waits_below items w.header) (Some Quiet) None))
    (ap (λ n. is_on board (get_or s.seats n e).0.header.parent) same ∙ on e)))
    (cases_lt at k))
    (cases_lt k at)

pub none_hopeless : (s : Seen) (board : Board) (at : ℕ) → Knows s board → IsOnlyNew s.seats at → ((d : Waiting × Mark) → is_on board (get_or s.seats at d).0.header.parent ≡ true)
    → find (is_hopeless (lists_of s) board) (items_of s.seats) ≡ None
none_hopeless s board at knows alone on = sym (find_fails (is_hopeless (lists_of s) board) (items_of s.seats) (none_lost s board at knows alone on))

first_ready : (s : Seen) (board : Board) (at : ℕ) (d : Waiting × Mark) → Knows s board → at < length s.seats → IsOnlyNew s.seats at → NoneRipe s.seats
    → is_on board (get_or s.seats at d).0.header.parent ≡ true → at ≡ position_or_len (is_ready board) (items_of s.seats)
first_ready s board at d knows there alone ripe on =
    let items = items_of s.seats in
    let long : length items ≡ length s.seats = length-map s.seats (λ (t : Waiting × Mark). t.0) in
    sym (position_or_len_is (is_ready board) items at d.0 (omega (arith, long, there))
    (λ k less.
    let h : k < length s.seats = omega (arith, less, there) in
    let seat = get_or s.seats k d in
    ap (is_ready board) (items_at s.seats k d h)
    ∙ ready_is_ripe items s.gets board seat.0 seat.1 (knows k d h) (old s.seats at k d alone h (λ same. omega (arith, same, less)))
    ∙ ripe k d h)
    (λ within. ap (is_ready board) (items_at s.seats at d there) ∙ on))

pub only_new_first : (s : Seen) (board : Board) (at : ℕ) → Knows s board → at < length s.seats → IsOnlyNew s.seats at → NoneRipe s.seats
    → ((d : Waiting × Mark) → is_on board (get_or s.seats at d).0.header.parent ≡ true) → at ≡ position_or_len (is_ready board) (items_of s.seats)
only_new_first s board at knows there alone ripe on = by s.seats refl
  where
    by : (seats : List (Waiting × Mark)) → seats ≡ s.seats → at ≡ position_or_len (is_ready board) (items_of s.seats)
    by [] e = let empty : length s.seats ≡ 0 = ap (λ (l : List (Waiting × Mark)). length l) (sym e) in absurd (omega (arith, empty, there))
    by (d ∷ seats) e = first_ready s board at d knows there alone ripe (on d)
