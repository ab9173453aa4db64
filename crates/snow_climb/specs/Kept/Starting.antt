-- The votes of a poll before they climb: some stand past their own blocks already, others wait.
use Rattle.std.specs.Prelude.{◌≡◌, ℕ, ◌+◌, ◌^◌, ◌<◌, ◌≤◌, Bool, List, length, sum_by, filter_map, All, IsPermutation, if◌then◌else◌}
use Rattle.snow_base.specs.declared.block.Vote.{Vote}
use Rattle.snow_flake.specs.Model.Parameters.{Parameters}
use Rattle.snow_tree.specs.Kept.Held.{Entry, blocks_in}
use Rattle.snow_climb.specs.declared.climber.Climber.{Climber}
use Rattle.snow_climb.specs.Kept.Climbing.{begun, cursors_of, ArePlaced}
use Rattle.snow_climb.specs.Kept.Rising.{AreClimbing}
use Rattle.snow_climb.specs.Kept.Ladder.{Rungs, KeepsRoom}

-- votes for an identifier that passes a test
abbrev pub share : (List ℕ → Bool) → Vote → ℕ
share test v = if test v.id then v.count else 0

-- how many of these votes are for such identifiers
abbrev pub votes_by : (List ℕ → Bool) → List Vote → ℕ
votes_by test votes = sum_by (share test) votes

-- how many of these identifiers pass
abbrev pub ids_by : (List ℕ → Bool) → List (List ℕ) → ℕ
ids_by test ids = sum_by (λ id. if test id then 1 else 0) ids

-- votes stand past their own blocks; by each test of identifiers they are, with those that wait, as many as were counted
pub record HaveStarted {T : Type 0} (pending : List (Entry T)) (waiting counted : (List ℕ → Bool) → ℕ) (climbers : List Climber) : Type 0 where
  pub votes : List Vote
  pub placed : IsPermutation (filter_map (begun pending) votes) climbers
  pub some : All (λ v. 0 < v.count) votes
  pub same : (test : List ℕ → Bool) → votes_by test votes + waiting test ≡ counted test

-- a ladder over so many pending blocks takes so many votes more
pub record TakesMore (pending votes : ℕ) (ladder : Rungs) : Type 0 where
  pub put : ladder.put + votes ≤ ladder.most
  pub small : votes < 2 ^ 32
  pub low : pending < ladder.low

-- a vote for each of these identifiers stands past its own block too, and nobody waits
pub record HaveAllStarted {T : Type 0} (pending : List (Entry T)) (ids : List (List ℕ)) (old new : Rungs) : Type 0 where
  pub started : (counted : (List ℕ → Bool) → ℕ) → HaveStarted pending (λ test. 0) counted old.climbers
      → HaveStarted pending (λ test. 0) (λ test. ids_by test ids + counted test) new.climbers
  pub put : new.put ≤ old.put + length ids
  pub low : new.low ≡ old.low
  pub room : KeepsRoom old new

-- the votes of a poll stand on a ladder past their own blocks
abbrev pub HaveBegun : {T : Type 0} → Parameters → List Vote → List (Entry T) → Rungs → Type 0
HaveBegun p votes pending ladder = AreClimbing p votes (blocks_in pending) (length pending) (cursors_of (blocks_in pending) ladder.climbers)

-- and it has room for their climb
pub record IsLoaded {T : Type 0} (pending : List (Entry T)) (ladder : Rungs) : Type 0 where
  pub placed : ArePlaced (blocks_in pending) ladder.climbers
  pub put : ladder.put + length pending ≤ ladder.most
  pub low : length pending < ladder.low
