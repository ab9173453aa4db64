-- The boards that a good beginning, issues and polls make.
use Rattle.std.specs.Prelude.{◌≡◌, ℕ, ◌+◌, ◌<◌, ◌≤◌, List, length, Some, None}
use Rattle.snow_base.specs.declared.limits.TheConstants.{MOST_PENDING}
use Rattle.snow_base.specs.declared.block.Header.{Header}
use Rattle.snow_base.specs.declared.block.Vote.{Vote}
use Rattle.snow_base.specs.Model.Votes.{total_count}
use Rattle.snow_flake.specs.Model.Parameters.{Parameters, AreGood}
use Rattle.snow_board.specs.Model.Board.{Board, begin, height_of, issued}
use Rattle.snow_board.specs.Model.Poll.{poll}

-- a block may be issued: it isn't on the board, its parent is, right below it, and there is room
pub record MayIssue (board : Board) (child : Header) : Type 0 where
  pub unknown : height_of board child.id ≡ None
  pub follows : (below : ℕ) × (height_of board child.parent ≡ Some below) × (child.height ≡ below + 1)
  pub room : length board.pending < MOST_PENDING

-- a board that can be reached
pub data Reached : Board → Type 0 where
  Begun : (p : Parameters) (last : List ℕ) (height : ℕ) → AreGood p → Reached (begin p last height)
  Issued : (board : Board) (child : Header) → Reached board → MayIssue board child → Reached (issued board child)
  Polled : (board : Board) (votes : List Vote) → Reached board → total_count votes ≤ board.parameters.k → Reached (poll board votes).0
