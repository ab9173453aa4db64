-- What peers are served follows the board: the blocks that are issued, and those that are decided.
use Rattle.std.specs.Prelude.{◌≡◌, ℕ, Bool, List, map, fold, if◌then◌else◌}
use Rattle.snow_base.specs.declared.block.Header.{Header}
use Rattle.snow_board.specs.declared.board.Decision.{Decision}
use Rattle.snow_board.specs.Model.Board.{Board, blocks_of}
use Rattle.snow_getter.specs.declared.served.Served.{Served}
use Rattle.snow_getter.specs.Model.Serving.{Serving, after_issued, after_accepted, after_rejected}

-- a block that was issued is served, with these bytes
abbrev pub with_issued : Serving → Header → List ℕ → Serving
with_issued served block bytes = after_issued served (record { id = block.id; parent = block.parent; bytes = bytes })

-- a block is served where it was issued
abbrev pub if_issued : Serving → Bool → Header → List ℕ → Serving
if_issued served is_issued block bytes = if is_issued then with_issued served block bytes else served

-- a block that was decided
abbrev pub with_decision : Serving → Decision → Serving
with_decision served d = if d.accepted then after_accepted served d.id else after_rejected served d.id

-- blocks that were decided, one after another
abbrev pub with_decisions : Serving → List Decision → Serving
with_decisions served decisions = fold with_decision served decisions

-- a block's identifier and its parent
abbrev pub Link : Type 0
Link = List ℕ × List ℕ

abbrev pub link : Header → Link
link b = (b.id, b.parent)

abbrev pub served_link : Served → Link
served_link b = (b.id, b.parent)

-- the pending blocks that peers are served are those of the board, in order of issue, each with its parent
abbrev pub Serves : Board → Serving → Type 0
Serves board served = map served_link served.pending ≡ map link (blocks_of board.pending)
