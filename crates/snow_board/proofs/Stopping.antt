-- Lemmas on the end of a poll's acceptances: no winner is left, and no greater number of steps would leave another board.
use Rattle.std.proofs.Common.{◌≡◌, ℕ, zero, suc, ◌≤◌, List, length, Option, Some, None, refl, ap, ◌∙◌, arith}
use Rattle.snow_base.specs.declared.block.Vote.{Vote}
use Rattle.snow_board.specs.Model.Conflict.{Pending}
use Rattle.snow_board.specs.Model.Board.{Board}
use Rattle.snow_board.specs.Model.Poll.{counted, winner, promoted, settled, poll}
use Rattle.snow_board.proofs.Settled.{promoted_shorter, settled_done, settled_won, enough}
use Rattle.snow_board.proofs.Room.{counted_length}

-- as many steps as blocks are pending leave no winner
none_left : (n : ℕ) (board : Board) → length board.pending ≤ n → winner (settled n board).0 ≡ None
none_left n board h = by_winner n board h (winner board) refl
  where
    by_winner : (n : ℕ) (board : Board) → length board.pending ≤ n → (o : Option Pending) → winner board ≡ o → winner (settled n board).0 ≡ None
    by_winner n board h None e = ap (λ r. winner r.0) (settled_done n board e) ∙ e
    by_winner zero board h (Some child) e = absurd (omega (arith, promoted_shorter board child e))
    by_winner (suc n) board h (Some child) e =
        let less = promoted_shorter board child e in
        ap (λ r. winner r.0) (settled_won n board child e) ∙ by_winner n (promoted board child) (omega arith) (winner (promoted board child)) refl

-- no poll leaves one
pub no_winner : (board : Board) (votes : List Vote) → winner (poll board votes).0 ≡ None
unfolding poll
no_winner board votes = none_left (length board.pending) (counted board votes) (omega (arith, counted_length board votes))

-- more steps leave the same
pub enough_steps : (board : Board) (votes : List Vote) (n : ℕ) → length board.pending ≤ n → settled n (counted board votes) ≡ poll board votes
unfolding poll
enough_steps board votes n h =
    let same = counted_length board votes in
    enough n (length board.pending) (counted board votes) (omega arith) (omega arith)
