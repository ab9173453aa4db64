use Rattle.std.proofs.Common.{◌<◌, length}
use Rattle.snow_climb.proofs.majority.likely_main.Given as goal

abbrev pub invariant-loop-at : goal.invariant-loop-at
invariant-loop-at l = l.main < length l.ids
