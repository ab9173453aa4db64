-- A poll on its way over the pending blocks, the latest first.
use Rattle.std.specs.Prelude.{◌≡◌, ℕ, ◌+◌, ◌<◌, ◌≤◌, Bool, List, Some, slice_get}
use Rattle.std.specs.Option.{option_map}
use Rattle.snow_base.specs.declared.block.Header.{Header}
use Rattle.snow_base.specs.declared.block.Vote.{Vote}
use Rattle.snow_flake.specs.Model.Parameters.{Parameters}
use Rattle.snow_board.specs.Model.Conflict.{Pending}
use Rattle.snow_board.specs.Model.Board.{with_counters}
use Rattle.snow_board.specs.Model.Conflict.{all_polled}
use Rattle.snow_board.specs.Model.Poll.{with_votes}
use Rattle.snow_tree.specs.Kept.Held.{Entry, blocks_in, children_of}
use Rattle.snow_topo.specs.Kept.Children.{Kept, shown, IsFit}
use Rattle.snow_topo.specs.Kept.View.{all_pending}

-- a block's counters take the bit step with all votes below it
abbrev pub stepped_by : Parameters → List Header → List Vote → Pending → Pending
stepped_by p blocks votes q = with_counters (with_votes p blocks votes) q

-- from a place on the blocks show what they are to show after the poll; below it they are as they were
pub record IsHalf (p : Parameters) (polls : ℕ) (votes : List Vote) (first now : List (Entry Kept)) (top : ℕ) : Type 0 where
  pub low : (j : ℕ) → j < top → slice_get now j ≡ slice_get first j
  pub high : (j : ℕ) → top ≤ j → slice_get (all_pending p (polls + 1) now) j ≡ option_map (stepped_by p (blocks_in first) votes) (slice_get (all_pending p polls first) j)
  pub fit : (j : ℕ) (e : Entry Kept) → top ≤ j → slice_get now j ≡ Some e → IsFit p (polls + 1) (children_of (blocks_in first) e.block.id) e.load

-- what is kept took the next poll with these parameters and counts
abbrev pub HasTaken : Parameters → ℕ → (List Bool → ℕ) → Kept → Kept → Type 0
HasTaken p polls votes old new =
    (children : List (List ℕ)) → IsFit p polls children old
    → (shown p (polls + 1) new ≡ all_polled p votes (shown p polls old)) × IsFit p (polls + 1) children new
