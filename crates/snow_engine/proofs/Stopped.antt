-- A step that stopped ends the run at its frame.
use Rattle.std.proofs.Common.{ℕ, List, Option, Result, Err, refl, ap}
use Rattle.snow_lines.specs.declared.line.Line.{Line}
use Rattle.snow_lines.specs.declared.why.SkipKind.{SkipKind}
use Rattle.snow_engine.specs.declared.stop.EngineStop.{EngineStop}
use Rattle.snow_engine.specs.declared.stop.EngineStop.TheVariants as stop
use Rattle.snow_engine.specs.Kept.Staging.{Node}
use Rattle.snow_engine.specs.Model.Run.{standing, end_at}
use Rattle.snow_engine.specs.Clauses.Serving.{Stands, LogsFrame}
use Rattle.snow_engine.specs.Clauses.Stopping.{Logs, StopsAs}

-- the run stands at the end that the stop is
pub stands_in : (frame : ℕ) (s : EngineStop) (now : Option Node) (expected : Result Node EngineStop)
    → StopsAs s expected → Stands {T = Option SkipKind} (Err (end_at frame s)) now (standing frame expected)
stands_in frame stop.Memory now expected e = tt
stands_in frame (stop.Params fault) now expected e = (refl, ap (standing frame) e)
stands_in frame (stop.Roster fault) now expected e = (refl, ap (standing frame) e)
stands_in frame stop.State now expected e = (refl, ap (standing frame) e)
stands_in frame stop.SecondStart now expected e = (refl, ap (standing frame) e)
stands_in frame (stop.Boot why) now expected e = (refl, ap (standing frame) e)
stands_in frame stop.Requests now expected e = (refl, ap (standing frame) e)

-- its lines are those of the frame
pub logs_in : (frame : ℕ) (s : EngineStop) (before after lines : List Line)
    → Logs {T = Unit {0}} (Err s) before after lines → LogsFrame {T = Option SkipKind} (Err (end_at frame s)) before after lines
logs_in frame stop.Memory before after lines l = l
logs_in frame (stop.Params fault) before after lines l = l
logs_in frame (stop.Roster fault) before after lines l = l
logs_in frame stop.State before after lines l = l
logs_in frame stop.SecondStart before after lines l = l
logs_in frame (stop.Boot why) before after lines l = l
logs_in frame stop.Requests before after lines l = l
