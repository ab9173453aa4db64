-- The board that a tree of pending blocks stands for, with what is kept of each block's children, after so many polls.
use Rattle.std.specs.Prelude.{ℕ, List, map, All}
use Rattle.snow_flake.specs.Model.Parameters.{Parameters}
use Rattle.snow_board.specs.Model.Conflict.{Pending}
use Rattle.snow_board.specs.Model.Board.{Board}
use Rattle.snow_tree.specs.Kept.Held.{Entry, Held, blocks_in, children_of}
use Rattle.snow_topo.specs.Kept.Children.{Kept, shown, IsFit}

-- a pending block with its counters
abbrev pub pending_of : Parameters → ℕ → Entry Kept → Pending
pending_of p polls e = record { block = e.block; counters = shown p polls e.load }

abbrev pub all_pending : Parameters → ℕ → List (Entry Kept) → List Pending
all_pending p polls pending = map (pending_of p polls) pending

-- the board; the last accepted block has no place in the tree, so what is kept of its children stands beside it
abbrev pub view : Parameters → ℕ → Kept → Held Kept → Board
view p polls root held = record {
  parameters = p;
  last = held.last;
  height = held.height;
  counters = shown p polls root;
  pending = all_pending p polls held.pending;
}

-- what is kept of each pending block fits its children
abbrev pub AllFit : Parameters → ℕ → List (Entry Kept) → Type 0
AllFit p polls pending = All (λ e. IsFit p polls (children_of (blocks_in pending) e.block.id) e.load) pending

-- so it does of all blocks
pub record AreFit (p : Parameters) (polls : ℕ) (first : Kept) (held : Held Kept) : Type 0 where
  pub root : IsFit p polls (children_of (blocks_in held.pending) held.last) first
  pub pending : AllFit p polls held.pending
