-- The board: the last accepted block, the pending blocks in order of issue, and their counters.
use Rattle.std.specs.Prelude.{ℕ, Bool, List, [], ◌∷◌, ◌++◌, map, Option, Some, find, bytes_eq, if◌then◌else◌, is_some}
use Rattle.std.specs.Option.{option_map, option_map_or}
use Rattle.snow_base.specs.declared.block.Header.{Header}
use Rattle.snow_base.specs.Model.Identifier.{bits}
use Rattle.snow_flake.specs.Model.Parameters.{Parameters}
use Rattle.snow_flake.specs.Model.Counter.{Counter}
use Rattle.snow_board.specs.Model.Conflict.{Pending}
use Rattle.snow_board.specs.Model.Conflict.{Counters, Blank, counter_at, with_child}

-- the last accepted block with its height and the counters of its children, and the pending blocks
pub record Board : Type 0 where
  pub parameters : Parameters
  pub last : List ℕ
  pub height : ℕ
  pub counters : Counters
  pub pending : List Pending

abbrev pub begin : Parameters → List ℕ → ℕ → Board
begin p last height = record { parameters = p; last = last; height = height; counters = Blank; pending = [] }

abbrev pub blocks_of : List Pending → List Header
blocks_of pending = map (λ q. q.block) pending

-- the pending block of an identifier
abbrev pub block_of : Board → List ℕ → Option Pending
block_of board id = find (λ q. bytes_eq q.block.id id) board.pending

abbrev pub is_pending : Board → List ℕ → Bool
is_pending board id = is_some (block_of board id)

-- the parent of a pending block
abbrev pub parent_of : Board → List ℕ → Option (List ℕ)
parent_of board id = option_map (λ q. q.block.parent) (block_of board id)

-- the height of a block that is on the board: pending or the last accepted one
abbrev pub height_of : Board → List ℕ → Option ℕ
height_of board id = if bytes_eq board.last id then Some board.height else option_map (λ q. q.block.height) (block_of board id)

-- the counters of a block on the board
abbrev pub counters_on : Board → List ℕ → Counters
counters_on board id = if bytes_eq board.last id then board.counters else option_map_or (λ q. q.counters) (block_of board id) Blank

-- the counter of a block at a bit list
abbrev pub counter_on : Board → List ℕ → List Bool → Option Counter
counter_on board id front = counter_at (counters_on board id) front

-- the counters of a block after a child was issued, where the block is the child's parent
abbrev pub with_issued : Header → List ℕ → Counters → Counters
with_issued child id counters = if bytes_eq id child.parent then with_child (bits child.id) counters else counters

-- a pending block whose counters are changed by a function of the block's identifier
abbrev pub with_counters : (List ℕ → Counters → Counters) → Pending → Pending
with_counters change q = record q { counters = change q.block.id q.counters }

abbrev pub new_pending : Header → Pending
new_pending block = record { block = block; counters = Blank }

-- a block is issued: it is the last pending one, and its parent gets its counters
abbrev pub issued : Board → Header → Board
issued board child = record board {
  counters = with_issued child board.last board.counters;
  pending = map (with_counters (with_issued child)) board.pending ++ new_pending child ∷ [];
}
