-- Where the counters of a board stand: where children were issued, and only there.
use Rattle.std.specs.Prelude.{◌≡◌, ℕ, ◌≤◌, Bool, true, not, ◌&&◌, List, length, Some, None, is_some, nat_lt, bytes_eq}
use Rattle.std.specs.Bool.{beq}
use Rattle.std.specs.List.{list_any, starts_with}
use Rattle.snow_base.specs.declared.block.Header.{Header}
use Rattle.snow_base.specs.declared.block.Vote.{Vote}
use Rattle.snow_base.specs.Model.Identifier.{bits}
use Rattle.snow_base.specs.Model.Votes.{total_count}
use Rattle.snow_board.specs.Model.Board.{Board, blocks_of, counter_on, parent_of, height_of}
use Rattle.snow_board.specs.Model.Poll.{poll}
use Rattle.snow_board.specs.Laws.Reached.{Reached}
use Rattle.snow_board.specs.Laws.Excluded.{is_excluded}

-- whether the block has a child whose bits begin so
abbrev pub has_child_from : List Header → List ℕ → List Bool → Bool
has_child_from blocks parent front = list_any (λ b. bytes_eq b.parent parent && starts_with beq (bits b.id) front) blocks

-- a block has counters at just those lists of fewer than 256 bits with which a pending child's bits begin and that no decided counter excludes
abbrev pub StandingLaw : Type 0
StandingLaw = (board : Board) (block : List ℕ) (place : List Bool) → Reached board
    → is_some (counter_on board block place)
    ≡ (nat_lt (length place) 256 && has_child_from (blocks_of board.pending) block place && not (is_excluded (counter_on board block) place))

-- and each child that was issued is pending as long as its parent is on the board: no poll takes it out before
abbrev pub ChildrenStayLaw : Type 0
ChildrenStayLaw = (board : Board) (votes : List Vote) (parent child : List ℕ) → Reached board → total_count votes ≤ board.parameters.k
    → parent_of board child ≡ Some parent → is_some (height_of (poll board votes).0 parent) ≡ true
    → parent_of (poll board votes).0 child ≡ Some parent

-- so no counter is kept that a decided one excludes
abbrev pub NoneExcludedLaw : Type 0
NoneExcludedLaw = (board : Board) (block : List ℕ) (place : List Bool) → Reached board
    → is_excluded (counter_on board block) place ≡ true → counter_on board block place ≡ None
