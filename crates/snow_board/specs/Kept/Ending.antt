-- The preference that is kept beside a board, and when an issue moves it without a walk.
use Rattle.std.specs.Prelude.{◌≡◌, ℕ, Bool, true, false, ◌&&◌, List, [], ◌∷◌, bytes_eq, if◌then◌else◌}
use Rattle.std.specs.List.{list_any}
use Rattle.snow_base.specs.declared.block.Header.{Header}
use Rattle.snow_flake.specs.Model.Rule.{Answer}
use Rattle.snow_board.specs.Model.Conflict.{Counters, Blank, leads_to}
use Rattle.snow_board.specs.Model.Conflict.{Pending}
use Rattle.snow_board.specs.declared.board.Leading.{Leading}
use Rattle.snow_board.specs.Model.Board.{Board}
use Rattle.snow_board.specs.Model.Preference.{preferred}

-- the counters of the block at which the path from a block ends
unfoldable pub end_counters : Answer → List ℕ → Counters → List Pending → Counters
end_counters answer id counters [] = counters
end_counters answer id counters (q ∷ later) =
    if bytes_eq q.block.parent id && leads_to answer counters q.block.id then end_counters answer q.block.id q.counters later
    else end_counters answer id counters later

-- whether some pending block is a child of this one
abbrev pub has_pending_child : List Pending → List ℕ → Bool
has_pending_child pending id = list_any (λ q. bytes_eq q.block.parent id) pending

-- no pending block stands above the preference, nor counters
pub record IsTop (answer : Answer) (board : Board) : Type 0 where
  pub counters : end_counters answer board.last board.counters board.pending ≡ Blank
  pub children : has_pending_child board.pending (preferred answer board) ≡ false

-- what is kept is the preference, and it is the top where that is said
pub record IsLeading (answer : Answer) (board : Board) (leading : Leading) : Type 0 where
  pub block : leading.block ≡ preferred answer board
  pub top : leading.is_top ≡ true → IsTop answer board

-- what is kept after the issue of a child, with the board then
abbrev pub leading_after : Answer → Leading → Board → Header → Leading
leading_after answer leading board child =
    if bytes_eq child.parent leading.block then
    if leading.is_top then record { block = child.id; is_top = true }
    else record { block = preferred answer board; is_top = bytes_eq (preferred answer board) child.id }
    else leading
