-- A node of either task: how it begins with a Start, and its step at an event.
use Rattle.std.specs.Prelude.{ℕ, Bool, true, false, [], Option, Some, None, Result, Ok, Err, if◌then◌else◌}
use Rattle.snow_flake.specs.Model.Parameters.{Parameters, checked}
use Rattle.snow_flake.specs.declared.params.ParamFault.{ParamFault}
use Rattle.snow_flake.specs.Model.Rule.{Answer}
use Rattle.snow_sample.specs.declared.roster.RosterFault.{RosterFault}
use Rattle.snow_sample.specs.Model.Roster.{first_fault}
use Rattle.snow_board.specs.Model.Board.{begin}
use Rattle.snow_chain.specs.Model.Chain.{Rules, begun}
use Rattle.snow_wire.specs.declared.event.Event.{Event}
use Rattle.snow_wire.specs.declared.event.Start.{Start}
use Rattle.snow_engine.specs.declared.stage.Stage.TheVariants as stage
use Rattle.snow_engine.specs.declared.engine.Task.{Task}
use Rattle.snow_engine.specs.declared.engine.Task.TheVariants as task
use Rattle.snow_engine.specs.declared.stop.EngineStop.{EngineStop}
use Rattle.snow_engine.specs.declared.stop.EngineStop.TheVariants as stop
use Rattle.snow_node.specs.Model.Outcome.{quietly, stops}
use Rattle.snow_engine.specs.Model.Catching.{boots_first, boots_on}
use Rattle.snow_engine.specs.Model.Deciding.{Deciding, decides_on}
use Rattle.snow_node.specs.Model.Running.{Running, begun_above}
use Rattle.snow_engine.specs.Kept.Staging.{Node, Comes, begun_as, goes_as}
use Rattle.snow_node.specs.Model.Turning.{members, runs_on}

-- ---- the start

-- the parameters that a Start states
abbrev pub stated : Start → Parameters
stated s = record {
  k = s.k;
  alpha_preference = s.alpha_preference;
  alpha_confidence = s.alpha_confidence;
  beta = s.beta;
  repolls = s.repolls;
}

-- a node that decides, where the chain takes the state
abbrev pub decides_with : Rules → Start → Parameters → Result Deciding EngineStop
decides_with rules s p =
    if rules.takes s.state then Ok (record { board = begin p s.last s.height; chain = begun s.last s.state }) else Err stop.State

-- a node that runs
abbrev pub new_running : Start → Parameters → Running
new_running s p = begun_above p (members s.nodes) [] 0 s.last s.height s.state

-- a node that runs at once, or bootstraps first
abbrev pub begun_by : Start → Parameters → Comes Node
begun_by s p = if s.boot then boots_first s p else quietly (stage.Running (new_running s p))

-- the same, where its nodes are a roster and the chain takes the state
abbrev pub runs_with : Rules → Start → Parameters → Option RosterFault → Comes Node
runs_with rules s p (Some fault) = stops (stop.Roster fault)
runs_with rules s p None = if rules.takes s.state then begun_by s p else stops stop.State

-- the node of a task, where the parameters pass their check
abbrev pub begins_with : Rules → Task → Start → Result Parameters ParamFault → Comes Node
begins_with rules task s (Err fault) = stops (stop.Params fault)
begins_with rules task.Decide s (Ok p) = ([], begun_as stage.Deciding (decides_with rules s p))
begins_with rules task.Run s (Ok p) = runs_with rules s p (first_fault (members s.nodes))

-- what a Start makes: a node that bootstraps asks for frontiers at once, and no other writes a line
unfoldable pub started : Rules → Task → Start → Comes Node
started rules task s = begins_with rules task s (checked (stated s))

-- ---- the step

-- whether a node bootstraps
abbrev pub is_booting : Node → Bool
is_booting (stage.Booting node) = true
is_booting other = false

-- the step of a node at the event of this frame; behind a stop of bootstrapping there is none
abbrev pub step : Rules → Answer → Node → ℕ → Event → Comes Node
step rules answer (stage.Deciding node) frame e = goes_as stage.Deciding (decides_on rules answer node frame e)
step rules answer (stage.Booting node) frame e = boots_on rules node frame e
step rules answer (stage.Running node) frame e = goes_as stage.Running (runs_on rules answer node frame e)
step rules answer stage.Ended frame e = quietly stage.Ended
