-- Lemmas on one step: a block is taken out at a place, and which step applies.
use Rattle.std.proofs.Common.{◌≡◌, ℕ, ◌<◌, ◌≤◌, Bool, true, List, map, length, get_or, find, Some, None, refl, ap, ◌∙◌, arith}
use Rattle.std.specs.List.{remove, position_or_len}
use Rattle.std.specs.Option.{option_map, option_or}
use Rattle.std.proofs.lemmas.List.{length-map}
use Rattle.snow_board.specs.Model.Board.{Board}
use Rattle.snow_issue.specs.declared.work.Waiting.{Waiting}
use Rattle.snow_issue.specs.declared.work.Work.TheVariants as work
use Rattle.snow_lineup.specs.declared.marks.Mark.{Mark}
use Rattle.snow_gets.specs.Model.Gets.{without, asked_in}
use Rattle.snow_issue.specs.Model.Lists.{Lists}
use Rattle.snow_issue.specs.Model.Settling.{work_of, after, is_hopeless, is_ready, is_free, gone_with}
use Rattle.snow_issue.specs.Kept.Known.{Seen, Knows, items_of, lists_of}
use Rattle.snow_lineup.specs.Kept.Index.{woken}
use Rattle.snow_issue.proofs.Looked.{found_first, found_none, within_length}
use Rattle.snow_issue.proofs.Settled.{lists_by, knows_from, items_left}
use Rattle.snow_issue.proofs.Taken.{item_is, tells_left, tells_stay}

abbrev pub parent_of_block : Waiting → List ℕ
parent_of_block w = w.header.parent

-- ---- a block is taken out

-- the block stood at the place, and the others are left
pub record IsTaken (before now : Seen) (at : ℕ) (w : Waiting) : Type 0 where
  pub within : at < length before.seats
  pub taken : (d : Waiting × Mark) → w ≡ (get_or before.seats at d).0
  pub items : items_of now.seats ≡ remove (items_of before.seats) at
  pub gets : now.gets ≡ before.gets
  pub held : now.held ≡ before.held

-- its children were woken
pub left_knows : (board : Board) (before now : Seen) (at : ℕ) (w : Waiting) → at < length before.seats → ((d : Waiting × Mark) → w ≡ (get_or before.seats at d).0)
    → now.seats ≡ map (woken parent_of_block w.header.id) (remove before.seats at) → now.gets ≡ before.gets → Knows before board → Knows now board
left_knows board before now at w there taken left gets knows =
    knows_from now board (map (woken parent_of_block w.header.id) (remove before.seats at)) before.gets left gets
    (tells_left before.gets board before.seats at w there taken knows)

pub left_items : (before now : Seen) (at : ℕ) (w : Waiting) → now.seats ≡ map (woken parent_of_block w.header.id) (remove before.seats at)
    → items_of now.seats ≡ remove (items_of before.seats) at
left_items before now at w left =
    ap items_of left ∙ items_left parent_of_block w.header.id before.seats before.seats at refl

-- it is still asked for, so that its children wait on
pub stay_knows : (board : Board) (before now : Seen) (at : ℕ) (w : Waiting) → at < length before.seats → ((d : Waiting × Mark) → w ≡ (get_or before.seats at d).0)
    → asked_in before.gets w.header.id ≡ true → now.seats ≡ remove before.seats at → now.gets ≡ before.gets → Knows before board → Knows now board
stay_knows board before now at w there taken asked left gets knows =
    knows_from now board (remove before.seats at) before.gets left gets
    (tells_stay before.gets board before.seats at w there taken asked knows)

-- where it stood first of those that pass, it is found
pub first_taken : (test : Waiting → Bool) (before now : Seen) (at : ℕ) (w : Waiting) → IsTaken before now at w → at ≡ position_or_len test (items_of before.seats)
    → Some w ≡ find test (items_of before.seats)
first_taken test before now at w is first =
    found_first test (items_of before.seats) at w first
    (omega (arith, is.within, length-map before.seats (λ (s : Waiting × Mark). s.0)))
    (item_is before.seats at w is.within is.taken)

-- and where the first is the end, none is
pub none_first : (test : Waiting → Bool) (s : Seen) (at : ℕ) → at ≡ position_or_len test (items_of s.seats) → length s.seats ≤ at
    → None ≡ find test (items_of s.seats)
none_first test s at first past =
    found_none test (items_of s.seats) (omega (arith, first, past, length-map s.seats (λ (s : Waiting × Mark). s.0)))

pub at_end : (test : Waiting → Bool) (s : Seen) (at : ℕ) → at ≡ position_or_len test (items_of s.seats) → length s.seats ≤ at → length s.seats ≡ at
at_end test s at first past =
    omega (arith, first, past, within_length test (items_of s.seats), length-map s.seats (λ (s : Waiting × Mark). s.0))

-- ---- which step applies

pub hopeless_step : (q : Lists) (board : Board) (w : Waiting) → Some w ≡ find (is_hopeless q board) q.waiting → Some (work.Hopeless w) ≡ work_of q board
hopeless_step q board w found =
    ap (λ o. option_or (option_map work.Hopeless o) (option_or (option_map work.Ready (find (is_ready board) q.waiting)) (option_map work.Vote (find (is_free q) q.held)))) found

pub ready_step : (q : Lists) (board : Board) (w : Waiting) → None ≡ find (is_hopeless q board) q.waiting → Some w ≡ find (is_ready board) q.waiting
    → Some (work.Ready w) ≡ work_of q board
ready_step q board w none found =
    let vote = option_map work.Vote (find (is_free q) q.held) in
    ap (λ o. option_or (option_map work.Ready o) vote) found
    ∙ ap (λ o. option_or (option_map work.Hopeless o) (option_or (option_map work.Ready (find (is_ready board) q.waiting)) vote)) none

pub vote_step : (q : Lists) (board : Board) → None ≡ find (is_hopeless q board) q.waiting → None ≡ find (is_ready board) q.waiting
    → option_map work.Vote (find (is_free q) q.held) ≡ work_of q board
vote_step q board none nor =
    let vote = option_map work.Vote (find (is_free q) q.held) in
    ap (λ o. option_or (option_map work.Ready o) vote) nor
    ∙ ap (λ o. option_or (option_map work.Hopeless o) (option_or (option_map work.Ready (find (is_ready board) q.waiting)) vote)) none

-- ---- the lists after it

pub after_hopeless : (board : Board) (before now : Seen) (at : ℕ) (w : Waiting) → IsTaken before now at w
    → at ≡ position_or_len (is_hopeless (lists_of before) board) (items_of before.seats) → now.gone ≡ gone_with before.gone w.header
    → lists_of now ≡ after (lists_of before) board (Some (work.Hopeless w))
after_hopeless board before now at w is first gone =
    let items = items_of before.seats in
    lists_by now (without (is_hopeless (lists_of before) board) items) before.gets before.held (gone_with before.gone w.header)
    (is.items ∙ ap (remove items) first) is.gets is.held gone

pub after_ready : (board : Board) (before now : Seen) (at : ℕ) (w : Waiting) → IsTaken before now at w
    → at ≡ position_or_len (is_ready board) (items_of before.seats) → now.gone ≡ before.gone
    → lists_of now ≡ after (lists_of before) board (Some (work.Ready w))
after_ready board before now at w is first gone =
    let items = items_of before.seats in
    lists_by now (without (is_ready board) items) before.gets before.held before.gone
    (is.items ∙ ap (remove items) first) is.gets is.held gone
