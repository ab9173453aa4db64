-- The node goes on.
use Rattle.snow_boot.specs.Clauses.Calling.{MayGoOn}
use Rattle.boot_tests.proofs.boot.many.name_all.Given as goal

abbrev pub invariant-loop-number : goal.invariant-loop-number
invariant-loop-number l = MayGoOn l.run.boot l.run.chain l.run.numbers
