-- The confidence law: what an undecided counter says of the counters to which it leads.
use Rattle.std.specs.Prelude.{◌≡◌, ℕ, ◌≤◌, Bool, true, List, [], ◌∷◌, ◌++◌, Some, if◌then◌else◌}
use Rattle.std.specs.Bool.{beq}
use Rattle.snow_base.specs.Model.Ancestry.{is_below}
use Rattle.snow_flake.specs.Model.Counter.{Counter, Decided, Undecided}
use Rattle.snow_board.specs.Model.Board.{Board, blocks_of, counter_on}
use Rattle.snow_board.specs.Laws.Reached.{Reached}

-- where a counter is undecided, so is one on this side of it, with at most its confidence, and 0 where the side isn't its flake
abbrev pub Bounds : Counter → Bool → Counter → Type 0
Bounds (Decided bit) side lower = Unit {0}
Bounds (Undecided s) side (Decided bit) = ⊥
Bounds (Undecided s) side (Undecided t) = t.confidence ≤ (if beq s.flake side then s.confidence else 0)

-- each counter bounds those to which it leads
pub record HasConfidence (board : Board) : Type 0 where
  -- in one conflict, by a proper front
  pub within : (block : List ℕ) (front rest : List Bool) (side : Bool) (upper lower : Counter)
      → counter_on board block front ≡ Some upper → counter_on board block (front ++ side ∷ rest) ≡ Some lower → Bounds upper side lower
  -- from a block to a child whose bits begin so, and to the descendants of that child
  pub across : (block descendant : List ℕ) (front place : List Bool) (side : Bool) (upper lower : Counter)
      → is_below (blocks_of board.pending) block (front ++ side ∷ []) descendant ≡ true
      → counter_on board block front ≡ Some upper → counter_on board descendant place ≡ Some lower → Bounds upper side lower

-- every board that can be reached has it
abbrev pub ConfidenceLaw : Type 0
ConfidenceLaw = (board : Board) → Reached board → HasConfidence board
