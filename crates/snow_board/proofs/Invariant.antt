-- What the steps of a board keep holds of every board that can be reached.
use Rattle.std.proofs.Common.{◌≡◌, ◌∙◌, true, false, ℕ, zero, suc, ◌≤◌, ◌||◌, List, [], ◌∷◌, ◌++◌, length, map, bytes_eq, reverse, Option, Some, None, refl, sym, ap, subst}
use Rattle.snow_base.specs.declared.block.Header.{Header}
use Rattle.snow_base.specs.declared.block.Vote.{Vote}
use Rattle.snow_base.specs.Model.Votes.{total_count}
use Rattle.snow_flake.specs.Model.Parameters.{Parameters, AreGood}
use Rattle.snow_board.specs.Model.Conflict.{Pending}
use Rattle.snow_board.specs.Model.Conflict.{Counters}
use Rattle.snow_board.specs.Model.Board.{Board, begin, blocks_of, with_counters, with_issued, new_pending, issued}
use Rattle.snow_board.specs.Model.Poll.{with_votes, counted, winner, promoted, settled, poll}
use Rattle.snow_board.specs.Laws.Reached.{MayIssue, Reached, Begun, Issued, Polled}
use Rattle.snow_board.specs.Kept.Grown.{IsGrown, Bare}
use Rattle.std.proofs.lemmas.List.{map-append, reverse-append}
use Rattle.snow_board.specs.Kept.Grown.{is_on}
use Rattle.snow_board.proofs.Grown.{grown_new, grown_parent, has_block-reverse}
use Rattle.snow_board.proofs.Settled.{settled_done, settled_won}
use Rattle.snow_board.proofs.Issued.{grown_issued}
use Rattle.snow_board.proofs.Kept.{descendants_grown}

-- a good beginning has it, and an issue, a poll's bit steps and an acceptance keep it
pub record IsKept (Holds : Board → Type 0) : Type 0 where
  pub at_begin : (p : Parameters) (last : List ℕ) (height : ℕ) → AreGood p → Holds (begin p last height)
  pub at_issue : (board : Board) (child : Header) → Holds board → MayIssue board child → Holds (issued board child)
  pub at_count : (board : Board) (votes : List Vote) → Holds board → total_count votes ≤ board.parameters.k → Holds (counted board votes)
  pub at_promotion : (board : Board) (child : Pending) → Holds board → winner board ≡ Some child → Holds (promoted board child)

-- what one acceptance keeps, all of a poll keep
pub settled_keeps : (Holds : Board → Type 0) → ((board : Board) (child : Pending) → Holds board → winner board ≡ Some child → Holds (promoted board child))
    → (n : ℕ) (board : Board) → Holds board → Holds (settled n board).0
unfolding settled
settled_keeps Holds step n board h = by_winner n board (winner board) refl h
  where
    by_winner : (n : ℕ) (board : Board) (o : Option Pending) → winner board ≡ o → Holds board → Holds (settled n board).0
    by_winner n board None e h = rw (settled_done n board e) h
    by_winner zero board (Some child) e h = h
    by_winner (suc n) board (Some child) e h =
        rw (settled_won n board child e) (by_winner n (promoted board child) (winner (promoted board child)) refl (step board child h e))

-- every board that can be reached has it
pub reached_keeps : (Holds : Board → Type 0) → IsKept Holds → (board : Board) → Reached board → Holds board
unfolding poll
reached_keeps Holds steps board (Begun p last height good) = steps.at_begin p last height good
reached_keeps Holds steps board (Issued before child reached may) = steps.at_issue before child (reached_keeps Holds steps before reached) may
reached_keeps Holds steps board (Polled before votes reached few) =
    settled_keeps Holds steps.at_promotion (length before.pending) (counted before votes) (steps.at_count before votes (reached_keeps Holds steps before reached) few)

-- what is kept together with what is kept already
pub record IsKeptOver (Base Holds : Board → Type 0) : Type 0 where
  pub at_begin : (p : Parameters) (last : List ℕ) (height : ℕ) → AreGood p → Holds (begin p last height)
  pub at_issue : (board : Board) (child : Header) → Base board → Holds board → MayIssue board child → Holds (issued board child)
  pub at_count : (board : Board) (votes : List Vote) → Base board → Holds board → total_count votes ≤ board.parameters.k → Holds (counted board votes)
  pub at_promotion : (board : Board) (child : Pending) → Base board → Holds board → winner board ≡ Some child → Holds (promoted board child)

-- both are kept
pub both_kept : (Base Holds : Board → Type 0) → IsKept Base → IsKeptOver Base Holds → IsKept (λ board. Base board × Holds board)
both_kept Base Holds base steps = record {
  at_begin = λ p last height good. (base.at_begin p last height good, steps.at_begin p last height good);
  at_issue = λ board child h may. (base.at_issue board child h.0 may, steps.at_issue board child h.0 h.1 may);
  at_count = λ board votes h few. (base.at_count board votes h.0 few, steps.at_count board votes h.0 h.1 few);
  at_promotion = λ board child h won. (base.at_promotion board child h.0 won, steps.at_promotion board child h.0 h.1 won);
}

-- ---- the blocks after each step

-- a change of counters leaves the blocks
pub blocks_changed : (change : List ℕ → Counters → Counters) (pending : List Pending) → blocks_of (map (with_counters change) pending) ≡ blocks_of pending
blocks_changed change [] = refl
blocks_changed change (q ∷ pending) = ap (λ l. q.block ∷ l) (blocks_changed change pending)

-- so do the bit steps of a poll
pub blocks_counted : (board : Board) (votes : List Vote) → blocks_of (counted board votes).pending ≡ blocks_of board.pending
unfolding counted
blocks_counted board votes = blocks_changed (with_votes board.parameters (blocks_of board.pending) votes) board.pending

-- an issue puts the child behind them
pub blocks_issued : (board : Board) (child : Header) → blocks_of (issued board child).pending ≡ blocks_of board.pending ++ child ∷ []
blocks_issued board child =
    map-append (λ q. q.block) (map (with_counters (with_issued child)) board.pending) (new_pending child ∷ [])
    ∙ ap (λ l. l ++ child ∷ []) (blocks_changed (with_issued child) board.pending)

-- with the latest block first, in front of them
pub reversed_issued : (board : Board) (child : Header) → reverse (blocks_of (issued board child).pending) ≡ child ∷ reverse (blocks_of board.pending)
reversed_issued board child = ap reverse (blocks_issued board child) ∙ reverse-append (blocks_of board.pending) (child ∷ [])

-- the order makes no difference to what is on the board
pub on-reverse : (last : List ℕ) (blocks : List Header) (id : List ℕ) → is_on last (reverse blocks) id ≡ is_on last blocks id
on-reverse last blocks id = ap (λ t. bytes_eq last id || t) (has_block-reverse blocks id)

-- ---- the first such thing: good parameters, and blocks that each came after their parents

pub record IsSound (board : Board) : Type 0 where
  pub good : AreGood board.parameters
  pub grown : IsGrown board.last (reverse (blocks_of board.pending))

-- the bit steps leave the blocks in order
sound_counted : (board : Board) (votes : List Vote) → IsSound board → IsSound (counted board votes)
unfolding counted
sound_counted board votes h = record {
  good = h.good;
  grown = subst (λ l. IsGrown board.last (reverse l)) (sym (blocks_counted board votes)) h.grown;
}

-- an acceptance keeps them in order
sound_promoted : (board : Board) (child : Pending) → IsSound board → IsSound (promoted board child)
unfolding promoted
sound_promoted board child h = record { good = h.good; grown = descendants_grown board.last child.block.id board.pending h.grown }

-- every step keeps this
pub sound_kept : IsKept IsSound
sound_kept = record {
  at_begin = λ p last height good. record { good = good; grown = Bare };
  at_issue = λ board child h may. record { good = h.good; grown = grown_issued board child may h.grown };
  at_count = λ board votes h few. sound_counted board votes h;
  at_promotion = λ board child h won. sound_promoted board child h;
}

-- every board that can be reached has it
pub reached_sound : (board : Board) → Reached board → IsSound board
reached_sound = reached_keeps IsSound sound_kept

-- the parent of a block that may be issued is on the board
pub issued_parent : (board : Board) (child : Header) → IsSound board → MayIssue board child → is_on board.last (blocks_of board.pending) child.parent ≡ true
issued_parent board child sound may =
    sym (on-reverse board.last (blocks_of board.pending) child.parent)
    ∙ grown_parent (subst (IsGrown board.last) (reversed_issued board child) (grown_issued board child may sound.grown))

-- and it isn't itself
pub issued_new : (board : Board) (child : Header) → IsSound board → MayIssue board child → is_on board.last (blocks_of board.pending) child.id ≡ false
issued_new board child sound may =
    sym (on-reverse board.last (blocks_of board.pending) child.id)
    ∙ grown_new (subst (IsGrown board.last) (reversed_issued board child) (grown_issued board child may sound.grown))
