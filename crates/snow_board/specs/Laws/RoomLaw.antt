-- How many blocks are pending: no more than may be.
use Rattle.std.specs.Prelude.{◌≤◌, length}
use Rattle.snow_base.specs.declared.limits.TheConstants.{MOST_PENDING}
use Rattle.snow_board.specs.Model.Board.{Board}
use Rattle.snow_board.specs.Laws.Reached.{Reached}

-- a board that can be reached has at most 4,096 pending blocks
abbrev pub RoomLaw : Type 0
RoomLaw = (board : Board) → Reached board → length board.pending ≤ MOST_PENDING
