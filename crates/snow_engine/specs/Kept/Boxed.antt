-- Stops and ends as they are kept: each large one in a box.
use Rattle.std.specs.Prelude.{Result, Ok, Err}
use Rattle.snow_node.specs.declared.stop.Halt.{Halt}
use Rattle.snow_engine.specs.declared.boxed.KeptStop.{KeptStop}
use Rattle.snow_engine.specs.declared.boxed.KeptStop.TheVariants as kept_stop
use Rattle.snow_engine.specs.declared.boxed.KeptEnd.{KeptEnd}
use Rattle.snow_engine.specs.declared.boxed.KeptEnd.TheVariants as kept_end
use Rattle.snow_engine.specs.declared.stop.EngineStop.{EngineStop}
use Rattle.snow_engine.specs.declared.end.End.{End}
use Rattle.snow_engine.specs.declared.end.End.TheVariants as end
use Rattle.snow_engine.specs.Kept.Staging.{stop_for}

-- the stop that is kept
abbrev pub stop_in : KeptStop → EngineStop
stop_in (kept_stop.Halted halt) = stop_for halt
stop_in (kept_stop.Boxed stop) = stop.value

-- the end that is kept
abbrev pub end_in : KeptEnd → End
end_in kept_end.Memory = end.Memory
end_in kept_end.SinkFault = end.SinkFault
end_in (kept_end.Boxed e) = e.value

-- what a step of a node gave, with its stop as one of the engine
abbrev pub as_step : Result (Unit {0}) Halt → Result (Unit {0}) EngineStop
as_step (Ok u) = Ok u
as_step (Err halt) = Err (stop_for halt)
