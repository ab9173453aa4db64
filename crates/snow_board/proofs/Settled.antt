-- Lemmas on acceptance while there is a winner: one step, and that the number of pending blocks is fuel enough.
use Rattle.std.proofs.Common.{◌≡◌, ℕ, zero, suc, ◌+◌, ◌<◌, ◌≤◌, Bool, true, false, not, ◌&&◌, List, [], ◌∷◌, ◌++◌, length, filter, find, position, cond, ltb, bytes_eq, Option, Some, None, slice_get, refl, sym, ap, ◌∙◌, subst, arith, append_assoc}
use Rattle.std.specs.List.{position_or_len}
use Rattle.std.proofs.lemmas.List.Folds.{find_at}
use Rattle.std.proofs.lemmas.Option.{none-some, same_Some, slice_get_past}
use Rattle.std.proofs.lemmas.Bool.{and_right, ltb-false, ltb-true}
use Rattle.snow_board.specs.declared.board.Decision.{Decision}
use Rattle.snow_board.specs.Model.Conflict.{Pending}
use Rattle.snow_board.specs.Model.Conflict.{decides}
use Rattle.snow_board.specs.Model.Board.{Board}
use Rattle.snow_board.specs.Model.Poll.{winner, promoted, decisions_for, stays_with, settled, and_then, accepted_then}
use Rattle.snow_board.specs.Model.Acceptance.{Accepts}
use Rattle.snow_board.proofs.Cases.{split_on, id_itself}

-- ---- the winner's place

-- the test of a winner
abbrev pub wins : Board → Pending → Bool
wins board q = bytes_eq q.block.parent board.last && decides board.counters q.block.id

-- where the first place that wins is, there the winner is
pub winner_at : (board : Board) (at : ℕ) → position (wins board) board.pending ≡ Some at → (at < length board.pending) × (winner board ≡ slice_get board.pending at)
unfolding winner
winner_at board at h =
    let place = position_or_len (wins board) board.pending in
    split_on (ltb place (length board.pending))
    (λ t. let k = rw t at h in
    let same : place ≡ at = same_Some place at k in
    (subst (λ n. n < length board.pending) same (ltb-true place (length board.pending) t), find_at (wins board) board.pending ∙ ap (slice_get board.pending) same))
    (λ t. let k = rw t at h in absurd (none-some at k))

-- where no place wins, there is no winner
pub no_winner_at : (board : Board) → position (wins board) board.pending ≡ None → winner board ≡ None
unfolding winner
no_winner_at board h =
    let place = position_or_len (wins board) board.pending in
    split_on (ltb place (length board.pending))
    (λ t. let k = rw t at h in absurd (none-some place (sym k)))
    (λ t. find_at (wins board) board.pending ∙ slice_get_past board.pending place (ltb-false place (length board.pending) t))

-- ---- fuel

-- a filter keeps no more than there is
filter_le : {X : Type 0} (p : X → Bool) (xs : List X) → length (filter p xs) ≤ length xs
filter_le p [] = omega arith
filter_le p (x ∷ xs) =
    let rest = filter_le p xs in
    split_on (p x) (λ t. rw t (omega arith)) (λ t. rw t (omega arith))

-- and fewer where one that can be found fails
filter_less : {X : Type 0} (p q : X → Bool) (xs : List X) (x : X) → find p xs ≡ Some x → q x ≡ false → length (filter q xs) < length xs
filter_less p q [] x h fails = absurd (none-some x h)
filter_less p q (y ∷ xs) x h fails =
    split_on (p y)
    (λ t. let k = rw t at h in
    let fails_here : q y ≡ false = ap q (same_Some y x k) ∙ fails in
    let rest = filter_le q xs in
    rw fails_here (omega arith))
    (λ t. let k = rw t at h in
    let rest = filter_less p q xs x k fails in
    split_on (q y) (λ s. rw s (omega arith)) (λ s. rw s (omega arith)))

-- a promotion leaves fewer pending blocks
pub promoted_shorter : (board : Board) (child : Pending) → winner board ≡ Some child → length (promoted board child).pending < length board.pending
unfolding winner promoted
promoted_shorter board child h =
    filter_less (wins board) (λ q. stays_with board child q && not (bytes_eq q.block.id child.block.id)) board.pending child h
    (rw (id_itself child.block.id) (and_right (stays_with board child child) false refl))

-- nothing is accepted without a winner
pub settled_done : (n : ℕ) (board : Board) → winner board ≡ None → settled n board ≡ (board, [])
unfolding settled
settled_done zero board h = refl
settled_done (suc n) board h = ap (λ o. accepted_then board o (settled n)) h

-- nor without fuel
settled_zero : (board : Board) → settled zero board ≡ (board, [])
unfolding settled
settled_zero board = refl

-- a winner is accepted first
pub settled_won : (n : ℕ) (board : Board) (child : Pending) → winner board ≡ Some child
    → settled (suc n) board ≡ and_then (decisions_for board child) (settled n (promoted board child))
unfolding settled
settled_won n board child h = ap (λ o. accepted_then board o (settled n)) h

-- more fuel than pending blocks changes nothing
pub enough : (n m : ℕ) (board : Board) → length board.pending ≤ n → length board.pending ≤ m → settled n board ≡ settled m board
enough n m board h k = by_winner n m board h k (winner board) refl
  where
    by_winner : (n m : ℕ) (board : Board) → length board.pending ≤ n → length board.pending ≤ m → (o : Option Pending) → winner board ≡ o → settled n board ≡ settled m board
    by_winner n m board h k None e = settled_done n board e ∙ sym (settled_done m board e)
    by_winner zero m board h k (Some child) e = absurd (omega (arith, promoted_shorter board child e))
    by_winner (suc n) zero board h k (Some child) e = absurd (omega (arith, promoted_shorter board child e))
    by_winner (suc n) (suc m) board h k (Some child) e =
        let less = promoted_shorter board child e in
        settled_won n board child e
        ∙ ap (and_then (decisions_for board child)) (by_winner n m (promoted board child) (omega arith) (omega arith) (winner (promoted board child)) refl)
        ∙ sym (settled_won m board child e)

-- ---- the loop

-- what is still to come from a board, where another acceptance is tried and where none is
abbrev pub to_come : Bool → Board → Board × List Decision
to_come true board = settled (length board.pending) board
to_come false board = (board, [])

-- after some acceptances: what is still to come leads to what was to come at first
pub record IsSettling (first : Board) (before : List Decision) (more : Bool) (now : Board) (told : List Decision) : Type 0 where
  pub same : (to_come more now).0 ≡ (settled (length first.pending) first).0
  pub whole : told ++ (to_come more now).1 ≡ before ++ (settled (length first.pending) first).1

-- how much there is still to do
abbrev pub to_do : Bool → Board → ℕ
to_do more board = length board.pending + cond more 1 0

-- a winner is accepted, and then what is to come from the board after it
settled_first : (old : Board) (child : Pending) → winner old ≡ Some child
    → settled (length old.pending) old ≡ and_then (decisions_for old child) (settled (length (promoted old child).pending) (promoted old child))
settled_first old child e =
    let n = length old.pending in
    let new = promoted old child in
    let less = promoted_shorter old child e in
    enough n (suc n) old (omega arith) (omega arith)
    ∙ settled_won n old child e
    ∙ ap (and_then (decisions_for old child)) (enough n (length new.pending) new (omega arith) (omega arith))

-- one step changes nothing of what is to come
step : (o : Option Pending) (old new : Board) (before after : List Decision) (more : Bool) → winner old ≡ o → Accepts o old new before after more
    → IsSettling old before more new after × (to_do more new < to_do true old)
step None old new before after more e (stops, same, kept) =
    let none = settled_done (length old.pending) old e in
    rw (stops, same, kept) (record { same = ap (λ r. r.0) (sym none); whole = ap (λ r. before ++ r.1) (sym none) }, omega arith)
step (Some child) old new before after more e (goes, is, told) =
    let less = promoted_shorter old child e in
    let first = settled_first old child e in
    let then = settled (length (promoted old child).pending) (promoted old child) in
    rw (goes, is, told) (
      record {
        same = ap (λ r. r.0) (sym first);
        whole = append_assoc before (decisions_for old child) then.1 ∙ ap (λ r. before ++ r.1) (sym first);
      },
      omega arith,
    )

-- a step of the loop
pub settling_more : (first old new : Board) (start before after : List Decision) (more : Bool) → IsSettling first start true old before
    → Accepts (winner old) old new before after more → IsSettling first start more new after
settling_more first old new start before after more h a =
    let next = (step (winner old) old new before after more refl a).0 in
    record { same = next.same ∙ h.same; whole = next.whole ∙ h.whole }

-- each step leaves less to do
pub settling_less : (old new : Board) (before after : List Decision) (more : Bool) → Accepts (winner old) old new before after more → to_do more new < to_do true old
settling_less old new before after more a = (step (winner old) old new before after more refl a).1

-- nothing has been accepted yet
pub settling_none : (first : Board) (before : List Decision) → IsSettling first before true first before
settling_none first before = record { same = refl; whole = refl }

-- a promotion leaves the parameters as they are
promoted_parameters : (board : Board) (child : Pending) → (promoted board child).parameters ≡ board.parameters
unfolding promoted
promoted_parameters board child = refl

-- acceptance leaves the parameters as they are
pub settled_parameters : (n : ℕ) (board : Board) → (settled n board).0.parameters ≡ board.parameters
settled_parameters n board = by_winner n board (winner board) refl
  where
    by_winner : (n : ℕ) (board : Board) (o : Option Pending) → winner board ≡ o → (settled n board).0.parameters ≡ board.parameters
    by_winner n board None e = ap (λ r. r.0.parameters) (settled_done n board e)
    by_winner zero board (Some child) e = ap (λ r. r.0.parameters) (settled_zero board)
    by_winner (suc n) board (Some child) e =
        ap (λ r. r.0.parameters) (settled_won n board child e)
        ∙ by_winner n (promoted board child) (winner (promoted board child)) refl
        ∙ promoted_parameters board child
