-- Votes of a poll, so many of them for one identifier that they stand for all.
use Rattle.std.specs.Prelude.{◌≡◌, ℕ, ◌+◌, ◌<◌, ◌≤◌, Bool, List, length, bytes_eq}
use Rattle.snow_base.specs.declared.block.Vote.{Vote}
use Rattle.snow_flake.specs.Model.Parameters.{Parameters}
use Rattle.snow_flake.specs.Laws.Alike.{AreAlike}
use Rattle.snow_climb.specs.Kept.Starting.{votes_by, ids_by}

-- those for one identifier are AlphaConfidence, so that all others are fewer than AlphaPreference
pub record StandsForPoll (p : Parameters) (ids : List (List ℕ)) (one : Vote) : Type 0 where
  pub count : one.count ≡ ids_by (λ id. bytes_eq id one.id) ids
  pub high : p.alpha_confidence ≤ one.count
  pub low : length ids < one.count + p.alpha_preference
  pub order : p.alpha_preference ≤ p.alpha_confidence

-- votes that do what others do, and are no more by any test of identifiers
pub record StandFor (p : Parameters) (votes others : List Vote) : Type 0 where
  pub alike : AreAlike p votes others
  pub fewer : (test : List ℕ → Bool) → votes_by test votes ≤ votes_by test others
