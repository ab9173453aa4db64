-- The node goes on.
use Rattle.snow_boot.specs.Clauses.Calling.{MayGoOn}
use Rattle.boot_tests.proofs.boot.fill.Given as goal

abbrev pub invariant-loop-came : goal.invariant-loop-came
invariant-loop-came l = MayGoOn l.run.boot l.run.chain l.run.numbers
