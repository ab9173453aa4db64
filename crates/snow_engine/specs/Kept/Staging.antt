-- A node, by its task and by how far it is, and what a step of it comes to.
use Rattle.std.specs.Prelude.{Result, Ok, Err}
use Rattle.snow_store.specs.declared.stop.BootStop.{BootStop}
use Rattle.snow_store.specs.declared.stop.BootStop.TheVariants as why
use Rattle.snow_node.specs.declared.stop.Halt.{Halt}
use Rattle.snow_node.specs.declared.stop.Halt.TheVariants as halt
use Rattle.snow_node.specs.Model.Outcome.{Outcome}
use Rattle.snow_node.specs.Model.Outcome as node
use Rattle.snow_node.specs.Model.Running.{Running}
use Rattle.snow_engine.specs.declared.stage.Stage.{Stage}
use Rattle.snow_engine.specs.declared.stop.EngineStop.{EngineStop}
use Rattle.snow_engine.specs.declared.stop.EngineStop.TheVariants as stop
use Rattle.snow_engine.specs.Model.Booting.{Booting}
use Rattle.snow_engine.specs.Model.Deciding.{Deciding}

-- a node that decides, one that bootstraps, or one that runs
abbrev pub Node : Type 0
Node = Stage Deciding Booting Running

-- what comes of an engine
abbrev pub Comes : Type 0 → Type 0
Comes T = Outcome EngineStop T

-- the stop that one of a node that decides or runs is
abbrev pub stop_for : Halt → EngineStop
stop_for halt.SecondStart = stop.SecondStart
stop_for halt.Requests = stop.Requests
stop_for halt.Memory = stop.Memory

-- the stop that one of bootstrapping is
abbrev pub stop_of_boot : BootStop → EngineStop
stop_of_boot why.Requests = stop.Requests
stop_of_boot why.Memory = stop.Memory
stop_of_boot other = stop.Boot other

-- a node of one stage that begins, as a node
abbrev pub begun_as : {S : Type 0} → (S → Node) → Result S EngineStop → Result Node EngineStop
begun_as as_node (Ok x) = Ok (as_node x)
begun_as as_node (Err stop) = Err stop

-- what comes of a node of one stage, as a node
abbrev pub staged : {S : Type 0} → (S → Node) → Result S Halt → Result Node EngineStop
staged as_node (Ok x) = Ok (as_node x)
staged as_node (Err h) = Err (stop_for h)

abbrev pub goes_as : {S : Type 0} → (S → Node) → node.Comes S → Comes Node
goes_as as_node after = (after.0, staged as_node after.1)
