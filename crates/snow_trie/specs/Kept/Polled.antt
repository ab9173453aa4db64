-- What a poll, a restamping and a narrowing of votes make, as facts on what was and what is.
use Rattle.std.specs.Prelude.{◌≡◌, ℕ, ◌+◌, Bool, List, ◌++◌, All, Contains}
use Rattle.snow_base.specs.declared.block.Vote.{Vote}
use Rattle.snow_base.specs.Model.Identifier.{AgreeFrom}
use Rattle.snow_base.specs.Kept.Split.{AgreeBelow}
use Rattle.snow_base.specs.Model.Votes.{IsInBitOrder}
use Rattle.snow_flake.specs.Model.Parameters.{Parameters}
use Rattle.snow_board.specs.Model.Conflict.{all_polled}
use Rattle.snow_board.specs.Kept.Walk.{votes_from}
use Rattle.snow_trie.specs.Kept.Tree.{Tree}
use Rattle.snow_trie.specs.Kept.Stamped.{between, counters}
use Rattle.snow_trie.specs.Kept.Outline.{outline}
use Rattle.snow_trie.specs.Kept.Shape.{IsPlaced, IsStamped, IsOpen}

-- every counter of a tree took the bit step with its own votes
pub record IsPolled (p : Parameters) (votes : List Vote) (before from : ℕ) (old new : Tree) : Type 0 where
  pub counters : counters (before + 1) from new ≡ all_polled p (votes_from from votes) (counters before from old)
  pub placed : IsPlaced from new
  pub stamped : IsStamped (before + 1) new
  pub outline : outline from new ≡ outline from old

-- the stamps say after another number of polls what they said after this one
pub record IsRestamped (now then : ℕ) (old new : Tree) : Type 0 where
  pub counters : (from : ℕ) → counters then from new ≡ counters now from old
  pub outline : (from : ℕ) → outline from new ≡ outline from old
  pub placed : (from : ℕ) → IsPlaced from old → IsPlaced from new
  pub stamped : IsStamped now old → IsStamped then new
  pub undecided : IsOpen old → IsOpen new

-- those votes that have the first bits of an identifier
pub record IsNarrowed (leader : List ℕ) (bit : ℕ) (votes rest : List Vote) : Type 0 where
  pub order : IsInBitOrder rest
  pub agree : AgreeBelow bit rest
  pub counts : (front : List Bool) → votes_from bit rest front ≡ votes_from 0 votes (between leader 0 bit ++ front)
  pub among : All (Contains votes) rest
  pub have : All (λ v. AgreeFrom 0 bit leader v.id) rest
