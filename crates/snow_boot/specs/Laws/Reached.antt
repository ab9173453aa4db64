-- The events of a node that bootstraps, and the nodes that a beginning and events make.
use Rattle.std.specs.Prelude.{◌≡◌, ℕ, List, Option, Some, None, Result, Ok}
use Rattle.snow_base.specs.declared.block.Header.{Header}
use Rattle.snow_chain.specs.Model.Chain.{Rules}
use Rattle.snow_sample.specs.declared.roster.Node.{Node}
use Rattle.snow_store.specs.declared.stop.BootStop.{BootStop}
use Rattle.snow_store.specs.Clauses.Coming.{came}
use Rattle.snow_store.specs.Laws.Linking.{IsLinked}
use Rattle.snow_store.specs.Model.Paths.{Fetch}
use Rattle.snow_boot.specs.Model.Booting.{Boot, Going, Outcome, started, fetch_of, request_of, frontier_came, accepted_came, ancestors_came, timeout_came, stored_came}
use Rattle.snow_boot.specs.Model.Replying.{replied}

-- a node names its frontier, or what it holds accepted, or sends a block and its ancestors, or doesn't answer; or a block comes that was
-- kept earlier
pub data Event : Type 0 where
  Frontier : (node : List ℕ) (number : ℕ) (id : List ℕ) → Event
  Accepted : (node : List ℕ) (number : ℕ) (ids : List (List ℕ)) → Event
  Ancestors : (node : List ℕ) (number : ℕ) (blocks : List (List ℕ)) → Event
  Timeout : (node : List ℕ) (number : ℕ) → Event
  Stored : (frame : ℕ) (bytes : List ℕ) → Event

-- what comes of an event
abbrev pub outcome_of : Rules → List ℕ → Boot → ℕ → Event → Outcome
outcome_of rules state boot drawn (Frontier node number id) = frontier_came rules state boot drawn node number id
outcome_of rules state boot drawn (Accepted node number ids) = accepted_came rules state boot drawn node number ids
outcome_of rules state boot drawn (Ancestors node number blocks) = ancestors_came rules state boot drawn node number blocks
outcome_of rules state boot drawn (Timeout node number) = timeout_came rules state boot drawn node number
outcome_of rules state boot drawn (Stored frame bytes) = stored_came rules state boot drawn frame bytes

-- a node that bootstraps and can be reached, with the last number drawn
pub data Reached (rules : Rules) (state : List ℕ) : Boot → ℕ → Type 0 where
  Began : (last : List ℕ) (height : ℕ) (nodes : List Node) (before : ℕ) (boot : Boot) (drawn : ℕ) → (started last height nodes before).1 ≡ Ok (Going boot drawn) → Reached rules state boot drawn
  Went : (before : Boot) (number : ℕ) (event : Event) (boot : Boot) (drawn : ℕ) → Reached rules state before number
      → (outcome_of rules state before number event).1 ≡ Ok (Going boot drawn) → Reached rules state boot drawn

-- the kept blocks of each node that can be reached are linked
abbrev pub ReachedLinkedLaw : Type 0
ReachedLinkedLaw = (rules : Rules) (state : List ℕ) (boot : Boot) (drawn : ℕ) → Reached rules state boot drawn → IsLinked boot.store

-- ---- what an event brings

-- what a reply brings, where its request is open
abbrev pub fetched_for : (List ℕ → Option Header) → Fetch → List (List ℕ) → Option (List ℕ) → Result Fetch BootStop
fetched_for header_of f blocks None = Ok f
fetched_for header_of f blocks (Some id) = replied header_of f id blocks

-- what bytes bring, where they are those of a block
abbrev pub fetched_one : Fetch → List ℕ → Option Header → Result Fetch BootStop
fetched_one f bytes None = Ok f
fetched_one f bytes (Some header) = came f record { header = header; bytes = bytes }

-- what is kept and found once the blocks of an event were taken, or the stop that one of them brings
abbrev pub fetched_by : Rules → Boot → Event → Result Fetch BootStop
fetched_by rules boot (Ancestors node number blocks) = fetched_for rules.header_of (fetch_of boot) blocks (request_of boot.requests node number)
fetched_by rules boot (Stored frame bytes) = fetched_one (fetch_of boot) bytes (rules.header_of bytes)
fetched_by rules boot other = Ok (fetch_of boot)
