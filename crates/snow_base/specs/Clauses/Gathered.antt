-- Votes that are gathered from a list of identifiers.
use Rattle.std.specs.Prelude.{◌≡◌, ℕ, ◌^◌, ◌<◌, List, [], length, fold, slice_index}
use Rattle.snow_base.specs.declared.block.Vote.{Vote}
use Rattle.snow_base.specs.Model.Votes.{added}

-- an identifier is 32 bytes
pub record IsNamed (id : List ℕ) : Type 0 where
  pub long : length id ≡ 32
  pub bytes : (i : ℕ) → slice_index id i < 2 ^ 8

-- one vote for each of these identifiers
abbrev pub one_each : List (List ℕ) → List Vote
one_each ids = fold (λ votes id. added votes id 1) [] ids
