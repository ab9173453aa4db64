-- Lemmas on how many blocks are pending on a board that can be reached.
use Rattle.std.proofs.Common.{◌≡◌, ◌+◌, ◌≤◌, List, [], ◌∷◌, length, map, arith}
use Rattle.std.proofs.lemmas.List.{length-append, length-map}
use Rattle.snow_base.specs.declared.block.Header.{Header}
use Rattle.snow_base.specs.declared.block.Vote.{Vote}
use Rattle.snow_board.specs.Model.Board.{Board, blocks_of, with_counters, with_issued, new_pending, issued}
use Rattle.snow_board.specs.Model.Poll.{with_votes, counted}
use Rattle.snow_board.specs.Laws.Reached.{Reached}
use Rattle.snow_board.proofs.Invariant.{IsKept, reached_keeps}
use Rattle.snow_board.proofs.Settled.{promoted_shorter}

-- no more than may be
abbrev HasRoom : Board → Type 0
HasRoom board = length board.pending ≤ 4096

-- an issue adds one block
issued_longer : (board : Board) (child : Header) → length (issued board child).pending ≡ length board.pending + 1
issued_longer board child =
    let before = map (with_counters (with_issued child)) board.pending in
    omega (arith, length-append before (new_pending child ∷ []), length-map board.pending (with_counters (with_issued child)))

-- the bit steps of a poll leave as many
pub counted_length : (board : Board) (votes : List Vote) → length (counted board votes).pending ≡ length board.pending
unfolding counted
counted_length board votes = length-map board.pending (with_counters (with_votes board.parameters (blocks_of board.pending) votes))

-- every step keeps to the limit
room_kept : IsKept HasRoom
room_kept = record {
  at_begin = λ p last height good. omega arith;
  at_issue = λ board child h may. omega (arith, may.room, issued_longer board child);
  at_count = λ board votes h few. omega (arith, counted_length board votes);
  at_promotion = λ board child h won. omega (arith, promoted_shorter board child won);
}

-- at most so many blocks are pending
pub room : (board : Board) → Reached board → length board.pending ≤ 4096
room = reached_keeps HasRoom room_kept
