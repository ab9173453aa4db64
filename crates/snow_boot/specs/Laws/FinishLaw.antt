-- What was accepted where bootstrapping is done: the block at each height, once and upwards.
use Rattle.std.specs.Prelude.{◌≡◌, ℕ, ◌+◌, ◌-◌, ◌<◌, ◌≤◌, true, List, Some, Result, Ok, Err, ⊤}
use Rattle.std.specs.List.{filter}
use Rattle.snow_chain.specs.Model.Chain.{Rules}
use Rattle.snow_lines.specs.declared.line.Line.{Line}
use Rattle.snow_store.specs.declared.store.KeptBlock.{KeptBlock}
use Rattle.snow_store.specs.declared.stop.BootStop.{BootStop}
use Rattle.snow_store.specs.Model.Keeping.{Store, held, highest}
use Rattle.snow_store.specs.Laws.Linking.{held_heights, upward}
use Rattle.snow_store.specs.Model.Paths.{Fetch, has_id, is_whole, highest_target}
use Rattle.snow_boot.specs.Model.Booting.{Boot, Going, Done, Outcome, height_or}
use Rattle.snow_boot.specs.Laws.OutcomeLaw.{accepts, accept_lines, last_above}
use Rattle.snow_boot.specs.Laws.Reached.{Event, outcome_of, Reached, fetched_by}

-- no target misses a block; from right above the last accepted block up to the height of the highest kept target there is a block at
-- each height, and just these were accepted, upwards, the last of them last; and each other kept target is one of them
pub record AcceptsAll (s : Store) (lines : List Line) (last : List ℕ) (height : ℕ) : Type 0 where
  pub fetch : Fetch
  pub kept : fetch.store ≡ s
  pub whole : is_whole fetch ≡ true
  pub top : height ≡ height_or s.height (highest_target s.kept fetch.targets)
  pub unbroken : (h : ℕ) → s.height < h → h ≤ height → held_heights s.kept h ≡ true
  pub accepted : filter accepts lines ≡ accept_lines (upward s.kept (s.height + 1) (height - s.height))
  pub reaches : last ≡ last_above s.last (upward s.kept (s.height + 1) (height - s.height))
  pub others : (t : List ℕ) (b : KeptBlock) → has_id fetch.targets t ≡ true → highest s.kept t ≡ Some b
      → (s.height < b.header.height) × (b.header.height ≤ height) × (held s.kept b.header.height ≡ Some b)

abbrev pub FinishesAt : Result Fetch BootStop → List Line → List ℕ → ℕ → Type 0
FinishesAt (Ok f) lines last height = AcceptsAll f.store lines last height
FinishesAt (Err why) lines last height = ⊥

abbrev pub Finishes : Result Fetch BootStop → Outcome → Type 0
Finishes fetched (lines, Ok (Going boot drawn)) = ⊤
Finishes fetched (lines, Ok (Done last height state)) = FinishesAt fetched lines last height
Finishes fetched (lines, Err why) = ⊤

-- so each event ends by which a node that can be reached is done
abbrev pub FinishLaw : Type 0
FinishLaw = (rules : Rules) (state : List ℕ) (boot : Boot) (drawn : ℕ) (event : Event) → Reached rules state boot drawn
    → Finishes (fetched_by rules boot event) (outcome_of rules state boot drawn event)
