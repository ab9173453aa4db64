-- The node goes on.
use Rattle.snow_boot.specs.Clauses.Calling.{MayGoOn}
use Rattle.boot_tests.proofs.boot.walk.Given as goal

abbrev pub invariant-loop-one : goal.invariant-loop-one
invariant-loop-one l = MayGoOn l.run.boot l.run.chain l.run.numbers
