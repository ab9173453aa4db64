-- Votes in bit order, and what adding to them does.
use Rattle.std.specs.Prelude.{◌≡◌, ℕ, ◌+◌, ◌^◌, ◌<◌, ◌≤◌, max, List, [], ◌∷◌, length, All, HoldsAt, Result, Ok, Err, sum_by}
use Rattle.std.specs.List.{Any, AllPairs}
use Rattle.std.specs.List.Sorted.{IsPartitionPoint}
use Rattle.std.specs.Ordering.{match_ordering}
use Rattle.std.specs.declared.cmp.Ordering.TheVariants.{Less, Equal, Greater}
use Rattle.snow_base.specs.Model.Identifier.{bit_cmp}
use Rattle.snow_base.specs.declared.block.Vote.{Vote}

-- votes, and how many more identifiers fit without new memory
pub record Votes : Type 0 where
  pub list : List Vote
  pub room : ℕ

-- how many votes there are in all
abbrev pub total_count : List Vote → ℕ
total_count votes = sum_by (λ v. v.count) votes

-- the greatest count, or 0 where there is no vote
abbrev pub most_count : List Vote → ℕ
most_count [] = 0
most_count (v ∷ votes) = max v.count (most_count votes)

-- each identifier stands before all later ones, so no two are the same
abbrev pub IsInBitOrder : List Vote → Type 0
IsInBitOrder votes = AllPairs (λ v w. bit_cmp v.id w.id ≡ Less) votes

-- some votes are for this identifier
abbrev pub HasVotesFor : List Vote → List ℕ → Type 0
HasVotesFor votes id = Any (λ v. v.id ≡ id) votes

-- n more votes for id: counted with those that it has, else in its place in bit order
unfoldable pub added : List Vote → List ℕ → ℕ → List Vote
added [] id n = record { id = id; count = n } ∷ []
added (v ∷ votes) id n =
    match_ordering (bit_cmp v.id id)
    (v ∷ added votes id n)
    (record { id = v.id; count = v.count + n } ∷ votes)
    (record { id = id; count = n } ∷ v ∷ votes)

-- where the votes for id stand, or else where new ones belong
abbrev pub IsPlaceOf : List Vote → List ℕ → Result ℕ ℕ → Type 0
IsPlaceOf votes id (Ok at) = (at < length votes) × HoldsAt (λ v. bit_cmp v.id id ≡ Equal) votes at
IsPlaceOf votes id (Err at) =
    (at ≤ length votes) × IsPartitionPoint (λ v. bit_cmp v.id id ≡ Less) (λ v. bit_cmp v.id id ≡ Greater) votes at

-- votes in bit order, with counts above 0 and this total, which fits 32 bits
pub record IsTally (votes : List Vote) (total : ℕ) : Type 0 where
  pub order : IsInBitOrder votes
  pub counts : All (λ v. 0 < v.count) votes
  pub sum : total ≡ total_count votes
  pub small : total < 2 ^ 32
