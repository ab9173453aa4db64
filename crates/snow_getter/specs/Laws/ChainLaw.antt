-- A chain is the longest walk by parents among what is held that keeps to the limits.
use Rattle.std.specs.Prelude.{◌≡◌, ℕ, ◌≤◌, List, [], ◌∷◌, length, sum_by, Some}
use Rattle.snow_base.specs.declared.limits.TheConstants.{ANSWER_BLOCKS, ANSWER_BYTES}
use Rattle.snow_getter.specs.declared.served.Served.{Served}
use Rattle.snow_getter.specs.Model.Serving.{Serving, held}
use Rattle.snow_getter.specs.Model.Chain.{chain}

-- each block is the held one of its identifier, and the next one is that of its parent
abbrev pub IsWalk : Serving → List ℕ → List Served → Type 0
IsWalk s id [] = Unit {0}
IsWalk s id (b ∷ blocks) = (Some b ≡ held s id) × IsWalk s b.parent blocks

abbrev pub bytes_in : List Served → ℕ
bytes_in blocks = sum_by (λ b. length b.bytes) blocks

-- at most so many blocks, with at most so many bytes in total
pub record IsWithin (count room : ℕ) (blocks : List Served) : Type 0 where
  pub blocks_fit : length blocks ≤ count
  pub bytes_fit : bytes_in blocks ≤ room

-- a walk within the limits, of which none is longer
pub record IsLongest (s : Serving) (id : List ℕ) (count room : ℕ) (blocks : List Served) : Type 0 where
  pub walk : IsWalk s id blocks
  pub within : IsWithin count room blocks
  pub longest : (others : List Served) → IsWalk s id others → IsWithin count room others → length others ≤ length blocks

-- 64 blocks, and 524,288 bytes
abbrev pub ChainIsLongest : Type 0
ChainIsLongest = (s : Serving) (id : List ℕ) → IsLongest s id ANSWER_BLOCKS ANSWER_BYTES (chain s id)
