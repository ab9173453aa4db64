-- What is so of the votes of a poll while they climb.
use Rattle.std.specs.Prelude.{◌≡◌, ℕ, ◌<◌, ◌≤◌, Bool, List, All}
use Rattle.snow_base.specs.declared.block.Header.{Header}
use Rattle.snow_base.specs.declared.block.Vote.{Vote}
use Rattle.snow_base.specs.Model.Ancestry.{votes_below}
use Rattle.snow_flake.specs.Model.Parameters.{Parameters}
use Rattle.snow_board.specs.declared.cursor.Cursor.{Cursor}
use Rattle.snow_board.specs.Kept.Cursors.{cursor_total}
use Rattle.snow_climb.specs.Kept.Climbing.{reach, AreBelow, CameBy, votes_for}

-- what is so of the votes that climb
pub record AreClimbing (p : Parameters) (votes : List Vote) (blocks : List Header) (top : ℕ) (cursors : List Cursor) : Type 0 where
  -- they look for blocks below a place
  pub below : AreBelow blocks top cursors
  -- for each block down there they are the votes of the poll
  pub counted : (q : List ℕ) (front : List Bool) → reach blocks q ≤ top → votes_for blocks cursors q front ≡ votes_below blocks votes q front
  pub came : All (CameBy blocks) cursors
  pub counts : All (λ c. 0 < c.count) cursors
  pub total : cursor_total cursors ≤ p.k
