-- The nodes so far.
use Rattle.std.proofs.Common.{◌≡◌}
use Rattle.snow_drill.specs.Model.First.{nodes}
use Rattle.snow_drill.proofs.drilling.nodes.Given as goal

abbrev pub invariant-loop-i : goal.invariant-loop-i
invariant-loop-i l = l.list ≡ nodes l.i
