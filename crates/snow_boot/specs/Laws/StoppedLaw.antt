-- What was accepted where an event stops bootstrapping.
use Rattle.std.specs.Prelude.{◌≡◌, ℕ, true, false, List, [], Result, Ok, Err, ⊤}
use Rattle.std.specs.List.{list_any, filter}
use Rattle.snow_chain.specs.Model.Chain.{Rules}
use Rattle.snow_lines.specs.declared.line.Line.{Line}
use Rattle.snow_store.specs.declared.store.KeptBlock.{KeptBlock}
use Rattle.snow_store.specs.declared.stop.BootStop.{BootStop}
use Rattle.snow_store.specs.declared.stop.BootStop.TheVariants as stop
use Rattle.snow_store.specs.Model.Keeping.{Store}
use Rattle.snow_store.specs.Model.Paths.{Fetch, is_whole, highest_target, path_up}
use Rattle.snow_boot.specs.Model.Booting.{Boot, Outcome}
use Rattle.snow_boot.specs.Laws.OutcomeLaw.{accepts, accept_lines}
use Rattle.snow_boot.specs.Clauses.Promising.{AreBelow}
use Rattle.snow_boot.specs.Laws.Reached.{Event, outcome_of, fetched_by}

-- the lines accept no block, but where a block is refused
abbrev pub IsEarly : BootStop → List Line → Type 0
IsEarly (stop.Refused id) lines = ⊤
IsEarly why lines = list_any accepts lines ≡ false

abbrev pub StopsEarly : Outcome → Type 0
StopsEarly (lines, Ok next) = ⊤
StopsEarly (lines, Err why) = IsEarly why lines

-- an event that stops bootstrapping accepts no block, but where a block is refused
abbrev pub StoppedLaw : Type 0
StoppedLaw = (rules : Rules) (state : List ℕ) (boot : Boot) (drawn : ℕ) (event : Event) → StopsEarly (outcome_of rules state boot drawn event)

-- no target misses a block, and of the path of the highest kept target just the blocks below a refused one were accepted, upwards
pub record AcceptsToRefused (s : Store) (lines : List Line) (id : List ℕ) : Type 0 where
  pub fetch : Fetch
  pub kept : fetch.store ≡ s
  pub whole : is_whole fetch ≡ true
  pub front : List KeptBlock
  pub below : AreBelow (path_up fetch.store.kept (highest_target fetch.store.kept fetch.targets)) front id
  pub accepted : filter accepts lines ≡ accept_lines front

-- where a block that comes is refused there is no line; else a block of the path is, and just those below it were accepted
abbrev pub RefusedBy : Result Fetch BootStop → List Line → List ℕ → Type 0
RefusedBy (Err why) lines id = (why ≡ stop.Refused id) × (lines ≡ [])
RefusedBy (Ok f) lines id = AcceptsToRefused f.store lines id

abbrev pub IsRefusal : Result Fetch BootStop → List Line → BootStop → Type 0
IsRefusal fetched lines (stop.Refused id) = RefusedBy fetched lines id
IsRefusal fetched lines why = ⊤

abbrev pub Refuses : Result Fetch BootStop → Outcome → Type 0
Refuses fetched (lines, Ok next) = ⊤
Refuses fetched (lines, Err why) = IsRefusal fetched lines why

-- so each event ends at which a block is refused
abbrev pub RefusedLaw : Type 0
RefusedLaw = (rules : Rules) (state : List ℕ) (boot : Boot) (drawn : ℕ) (event : Event) → Refuses (fetched_by rules boot event) (outcome_of rules state boot drawn event)
