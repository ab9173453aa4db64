-- What a poll makes of a board: the counters, and then acceptance.
use Rattle.std.specs.Prelude.{ℕ, zero, suc, Bool, not, ◌&&◌, List, [], ◌∷◌, ◌++◌, map, length, Option, Some, None, filter, find, bytes_eq, true, false}
use Rattle.snow_base.specs.declared.block.Header.{Header}
use Rattle.snow_base.specs.declared.block.Vote.{Vote}
use Rattle.snow_flake.specs.Model.Parameters.{Parameters}
use Rattle.snow_base.specs.Model.Ancestry.{descends, votes_below}
use Rattle.snow_board.specs.declared.board.Decision.{Decision}
use Rattle.snow_board.specs.Model.Conflict.{Counters, all_polled, decides}
use Rattle.snow_board.specs.Model.Conflict.{Pending}
use Rattle.snow_board.specs.Model.Board.{Board, blocks_of, with_counters}

-- the counters of a block after a poll with these votes over these blocks
abbrev pub with_votes : Parameters → List Header → List Vote → List ℕ → Counters → Counters
with_votes p blocks votes id counters = all_polled p (votes_below blocks votes id) counters

-- every counter of the board takes the bit step with the votes below its own block
unfoldable pub counted : Board → List Vote → Board
counted board votes =
    let blocks = blocks_of board.pending in
    record board {
      counters = with_votes board.parameters blocks votes board.last board.counters;
      pending = map (with_counters (with_votes board.parameters blocks votes)) board.pending;
    }

-- the child of the last accepted block to which decided counters alone lead
unfoldable pub winner : Board → Option Pending
winner board = find (λ q. bytes_eq q.block.parent board.last && decides board.counters q.block.id) board.pending

-- whether a pending block is the child or descends from it
abbrev pub stays_with : Board → Pending → Pending → Bool
stays_with board child q = descends (blocks_of board.pending) child.block.id q.block.id

abbrev pub accepts : Pending → Decision
accepts q = record { accepted = true; id = q.block.id }

abbrev pub rejects : Pending → Decision
rejects q = record { accepted = false; id = q.block.id }

-- the child is accepted, and every block that neither is it nor descends from it is rejected
unfoldable pub decisions_for : Board → Pending → List Decision
decisions_for board child = accepts child ∷ map rejects (filter (λ q. not (stays_with board child q)) board.pending)

-- the child is the last accepted block, and its descendants alone stay
unfoldable pub promoted : Board → Pending → Board
promoted board child = record board {
  last = child.block.id;
  height = child.block.height;
  counters = child.counters;
  pending = filter (λ q. stays_with board child q && not (bytes_eq q.block.id child.block.id)) board.pending;
}

-- these decisions, and then those that follow
abbrev pub and_then : List Decision → Board × List Decision → Board × List Decision
and_then first after = (after.0, first ++ after.1)

-- nothing more where there is no winner, else its acceptance and what follows
abbrev pub accepted_then : Board → Option Pending → (Board → Board × List Decision) → Board × List Decision
accepted_then board None next = (board, [])
accepted_then board (Some child) next = and_then (decisions_for board child) (next (promoted board child))

-- children are accepted, at most n, while there is a winner
unfoldable pub settled : ℕ → Board → Board × List Decision
settled zero board = (board, [])
settled (suc n) board = accepted_then board (winner board) (settled n)

unfoldable pub poll : Board → List Vote → Board × List Decision
poll board votes = settled (length board.pending) (counted board votes)
