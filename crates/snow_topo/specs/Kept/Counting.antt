-- What counting the votes of a poll leaves of the board, before it accepts anything.
use Rattle.std.specs.Prelude.{◌≡◌, ℕ, ◌+◌, ◌≤◌, Bool, false, List, [], ◌∷◌, map}
use Rattle.snow_base.specs.declared.block.Vote.{Vote}
use Rattle.snow_flake.specs.Model.Parameters.{Parameters}
use Rattle.snow_flake.specs.Model.Rule.{Answer}
use Rattle.snow_board.specs.Model.Poll.{counted}
use Rattle.snow_tree.specs.Kept.Held.{Held, blocks_in}
use Rattle.snow_climb.specs.Kept.Majority.{StandFor}
use Rattle.snow_topo.specs.Kept.Children.{Kept}
use Rattle.snow_topo.specs.Kept.Half.{stepped_by}
use Rattle.snow_topo.specs.Kept.Leading.{leads_in, all_leads}
use Rattle.snow_topo.specs.Kept.View.{view, all_pending, AllFit, AreFit}

-- one vote is a quorum, and does what others do
pub record StandsAlone (p : Parameters) (one : Vote) (others : List Vote) : Type 0 where
  pub quorum : p.alpha_preference ≤ one.count
  pub most : one.count ≤ p.k
  pub same : StandFor p (one ∷ []) others

-- the trees of the pending blocks took the poll, and nothing else changed
pub record HasStepped (p : Parameters) (polls : ℕ) (votes : List Vote) (first now : Held Kept) : Type 0 where
  -- each shows the bit step with the votes below it
  pub pending : all_pending p (polls + 1) now.pending ≡ map (stepped_by p (blocks_in first.pending) votes) (all_pending p polls first.pending)
  pub rest : now ≡ record first { pending = now.pending }
  pub blocks : blocks_in now.pending ≡ blocks_in first.pending
  pub fit : AllFit p (polls + 1) now.pending

-- every counter of the board took the poll, and nothing else changed
pub record HasCounted (answer : Answer) (p : Parameters) (polls : ℕ) (votes : List Vote) (old new : Kept) (first now : Held Kept) (moved : Bool) : Type 0 where
  pub board : view p (polls + 1) new now ≡ counted (view p polls old first) votes
  pub fit : AreFit p (polls + 1) new now
  pub rest : now ≡ record first { pending = now.pending }
  pub blocks : blocks_in now.pending ≡ blocks_in first.pending
  -- where nothing is told to have moved, each leads where it led
  pub root : moved ≡ false → leads_in answer new ≡ leads_in answer old
  pub leads : moved ≡ false → all_leads answer now.pending ≡ all_leads answer first.pending
