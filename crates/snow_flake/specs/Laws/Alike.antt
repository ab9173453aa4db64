-- Votes that are alike: on every list of identifiers their numbers are of one class.
use Rattle.std.specs.Prelude.{◌≡◌, ℕ, List, sum_by, bytes_eq, if◌then◌else◌}
use Rattle.std.specs.List.{list_any}
use Rattle.snow_base.specs.declared.block.Vote.{Vote}
use Rattle.snow_flake.specs.Model.Parameters.{Parameters}
use Rattle.snow_flake.specs.Model.Counter.{class}

-- how many of these votes are for identifiers on this list
abbrev pub votes_for : List (List ℕ) → List Vote → ℕ
votes_for ids votes = sum_by (λ v. if list_any (λ id. bytes_eq id v.id) ids then v.count else 0) votes

-- on every list of identifiers both have few votes, or both a quorum for preference alone, or both one for confidence
abbrev pub AreAlike : Parameters → List Vote → List Vote → Type 0
AreAlike p votes others = (ids : List (List ℕ)) → class p (votes_for ids votes) ≡ class p (votes_for ids others)
