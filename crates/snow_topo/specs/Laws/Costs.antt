-- How many steps polls take at most, and what they leave.
use Rattle.std.specs.Prelude.{ℕ, ◌+◌, ◌*◌, nat_lt, List, [], ◌∷◌, sum_by, if◌then◌else◌}
use Rattle.snow_base.specs.Model.Votes.{Votes}
use Rattle.snow_base.specs.declared.block.Vote.{Vote}
use Rattle.snow_board.specs.Model.Board.{Board, blocks_of, is_pending}
use Rattle.snow_board.specs.Model.Poll.{poll}
use Rattle.snow_board.specs.Clauses.Shown.{Shown}
use Rattle.snow_topo.specs.Kept.Recording.{recording}

-- how many votes are for pending blocks
abbrev pub pending_votes : Board → List Vote → ℕ
pending_votes board votes = sum_by (λ v. if is_pending board v.id then v.count else 0) votes

-- where fewer than AlphaPreference are, one step; else five for each child of a parent that records the poll, and one
abbrev pub most_steps : Board → List Vote → ℕ
most_steps board votes =
    if nat_lt (pending_votes board votes) board.parameters.alpha_preference then 1
    else 1 + 5 * recording board.parameters board.last (blocks_of board.pending) votes

-- what polls leave, one after the other, and the decisions of the last
abbrev pub replayed : Shown → List Votes → Shown
replayed s [] = s
replayed s (votes ∷ later) = replayed (record { board = (poll s.board votes.list).0; decided = (poll s.board votes.list).1 }) later

-- their bounds, each at the board before its poll
abbrev pub replay_steps : Board → List Votes → ℕ
replay_steps board [] = 0
replay_steps board (votes ∷ later) = most_steps board votes.list + replay_steps (poll board votes.list).0 later
