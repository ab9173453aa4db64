-- How a node that runs stands between two events: nothing is to be done.
use Rattle.std.specs.Prelude.{◌≡◌, ℕ, List, None, Ok}
use Rattle.snow_flake.specs.Model.Parameters.{Parameters, AreGood}
use Rattle.snow_flake.specs.Model.Rule.{Answer}
use Rattle.snow_sample.specs.declared.roster.Node.{Node as Member}
use Rattle.snow_chain.specs.Model.Chain.{Rules}
use Rattle.snow_wire.specs.declared.event.Event.{Event}
use Rattle.snow_poll.specs.Model.Table.{finished}
use Rattle.snow_issue.specs.Model.Settling.{IsIdle}
use Rattle.snow_node.specs.Model.Running.{Running, begun_above}
use Rattle.snow_node.specs.Model.Turning.{runs_on}

-- a node that can be reached: it begins to run with good parameters, or an event leaves it
pub data Runs (rules : Rules) (answer : Answer) : Running → Type 0 where
  Began : (p : Parameters) (roster : List Member) (words : List ℕ) (drawn : ℕ) (last : List ℕ) (height : ℕ) (state : List ℕ) → AreGood p
      → Runs rules answer (begun_above p roster words drawn last height state)
  Went : (node : Running) (frame : ℕ) (e : Event) (after : Running) → Runs rules answer node → (runs_on rules answer node frame e).1 ≡ Ok after → Runs rules answer after

-- no waiting block is hopeless or ready and no held reply is free, and no closed poll stands in front
pub record IsAtRest (node : Running) : Type 0 where
  pub idle : IsIdle node.queue node.board
  pub front : finished node.polls.parameters node.polls.polls ≡ None

-- every node that can be reached is at rest
abbrev pub RestLaw : Type 0
RestLaw = (rules : Rules) (answer : Answer) (node : Running) → Runs rules answer node → IsAtRest node
