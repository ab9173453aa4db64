-- What a climb over the pending blocks leaves.
use Rattle.std.specs.Prelude.{◌≡◌, ℕ, ◌+◌, ◌<◌, ◌≤◌, List, length, map}
use Rattle.snow_base.specs.declared.block.Vote.{Vote}
use Rattle.snow_flake.specs.Model.Parameters.{Parameters}
use Rattle.snow_tree.specs.Kept.Held.{Held, blocks_in}
use Rattle.snow_climb.specs.Kept.Climbing.{cursors_of, ArePlaced}
use Rattle.snow_climb.specs.Kept.Ladder.{Rungs, KeepsRoom}
use Rattle.snow_climb.specs.Kept.Rising.{AreClimbing}
use Rattle.snow_climb.specs.Kept.Starting.{HaveBegun}
use Rattle.snow_topo.specs.Kept.Half.{stepped_by}
use Rattle.snow_topo.specs.Kept.Children.{Kept}
use Rattle.snow_topo.specs.Kept.View.{all_pending, AllFit}

-- the votes of a poll that stood on a ladder past their own blocks have passed all pending ones, whose trees took the poll
pub record HasClimbed (p : Parameters) (polls : ℕ) (first now : Held Kept) (old new : Rungs) : Type 0 where
  -- each pending block shows the bit step with the votes below it
  pub pending : (votes : List Vote) → HaveBegun p votes first.pending old → all_pending p (polls + 1) now.pending ≡ map (stepped_by p (blocks_in first.pending) votes) (all_pending p polls first.pending)
  -- no vote looks for a pending block any more
  pub climbing : (votes : List Vote) → HaveBegun p votes first.pending old → AreClimbing p votes (blocks_in first.pending) 0 (cursors_of (blocks_in first.pending) new.climbers)
  pub placed : ArePlaced (blocks_in first.pending) new.climbers
  pub short : length new.climbers ≤ length old.climbers
  -- nothing but the trees of pending blocks changed, and they fit
  pub rest : now ≡ record first { pending = now.pending }
  pub blocks : blocks_in now.pending ≡ blocks_in first.pending
  pub fit : AllFit p (polls + 1) now.pending
  -- the lowest rung wasn't taken off, and the ladder has room as before
  pub low : 0 < new.low
  pub room : KeepsRoom old new
