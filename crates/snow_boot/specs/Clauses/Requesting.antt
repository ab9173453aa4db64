-- What the asking for missed blocks owes, where memory may run out.
use Rattle.std.specs.Prelude.{◌≡◌, ℕ, List, ◌++◌, Result, Ok, Err}
use Rattle.snow_gets.specs.declared.gets.Get.{Get}
use Rattle.snow_lines.specs.declared.line.Line.{Line}
use Rattle.snow_store.specs.declared.stop.BootStop.{BootStop}
use Rattle.snow_store.specs.declared.stop.BootStop.TheVariants as stop
use Rattle.snow_boot.specs.Model.Asking.{Asked}
use Rattle.snow_boot.specs.Clauses.Calling.{AreDrawn, LogsFront}

-- what was asked for is what is expected: its lines came, and then the open requests and the last number drawn, or a stop; where
-- memory ran out a front of the lines came
abbrev pub Asks : Result (Unit {0}) BootStop → List Line → List Line → List Get → ℕ → Asked → Type 0
Asks (Ok u) before after requests drawn expected = (after ≡ before ++ expected.0) × (expected.1 ≡ Ok (requests, drawn)) × AreDrawn requests drawn
Asks (Err stop.Memory) before after requests drawn expected = LogsFront before after expected.0
Asks (Err why) before after requests drawn expected = (after ≡ before ++ expected.0) × (expected.1 ≡ Err why)
