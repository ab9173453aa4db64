-- What the calls of an engine owe, where memory may run out.
use Rattle.std.specs.Prelude.{◌≡◌, List, ◌++◌, Result, Ok, Err, ⊤}
use Rattle.snow_lines.specs.declared.line.Line.{Line}
use Rattle.snow_chain.specs.declared.fault.ChainFault.{ChainFault}
use Rattle.snow_chain.specs.declared.fault.ChainFault.TheVariants as fault
use Rattle.snow_sample.specs.declared.roster.RosterFault.{RosterFault}
use Rattle.snow_sample.specs.declared.roster.RosterFault.TheVariants as roster
use Rattle.snow_node.specs.Clauses.Stepping.{LogsFront}
use Rattle.snow_engine.specs.declared.stop.EngineStop.{EngineStop}
use Rattle.snow_engine.specs.declared.stop.EngineStop.TheVariants as stop

-- these lines were appended, or a front of them where memory ran out
abbrev pub Logs : {T : Type 0} → Result T EngineStop → List Line → List Line → List Line → Type 0
Logs (Err stop.Memory) before after lines = LogsFront before after lines
Logs result before after lines = after ≡ before ++ lines

-- a start gave this node, or this stop, unless memory ran out
abbrev pub Starts : {S : Type 0} → Result S EngineStop → Result S EngineStop → Type 0
Starts (Err stop.Memory) expected = ⊤
Starts given expected = expected ≡ given

-- this stop is expected, unless memory ran out
abbrev pub StopsAs : {S : Type 0} → EngineStop → Result S EngineStop → Type 0
StopsAs stop.Memory expected = ⊤
StopsAs s expected = expected ≡ Err s

-- a step left this node, or stopped so, unless memory ran out
abbrev pub Steps : {S : Type 0} → Result (Unit {0}) EngineStop → S → Result S EngineStop → Type 0
Steps (Ok u) after expected = expected ≡ Ok after
Steps (Err s) after expected = StopsAs s expected

-- the stop that a chain's fault is
abbrev pub stop_of : ChainFault → EngineStop
stop_of fault.State = stop.State
stop_of fault.Memory = stop.Memory

-- the stop that a roster's fault is
abbrev pub stop_of_roster : RosterFault → EngineStop
stop_of_roster roster.Memory = stop.Memory
stop_of_roster other = stop.Roster other
