-- By whose line a vote counts: by some ancestor, or by the one child on its line, is the same.
use Rattle.std.specs.Prelude.{◌≡◌, ℕ, Bool, ◌&&◌, List, bytes_eq}
use Rattle.std.specs.Bool.{beq}
use Rattle.std.specs.List.{list_any, starts_with}
use Rattle.snow_base.specs.declared.block.Header.{Header}
use Rattle.snow_base.specs.Model.Identifier.{bits}
use Rattle.snow_base.specs.Model.Ancestry.{line, is_below}
use Rattle.snow_board.specs.Model.Board.{Board, blocks_of}
use Rattle.snow_board.specs.Laws.Reached.{Reached}

-- whether a block, or some ancestor of it, is a child of the parent whose bits begin so
abbrev pub has_child_on : List Header → List ℕ → List Bool → List ℕ → Bool
has_child_on blocks parent front id = list_any (λ b. bytes_eq b.parent parent && starts_with beq (bits b.id) front) (line blocks id)

-- on a board that can be reached this is the same as: the one child of the parent on the block's line has bits that begin so
abbrev pub LineLaw : Type 0
LineLaw = (board : Board) (parent : List ℕ) (front : List Bool) (id : List ℕ) → Reached board
    → has_child_on (blocks_of board.pending) parent front id ≡ is_below (blocks_of board.pending) parent front id
