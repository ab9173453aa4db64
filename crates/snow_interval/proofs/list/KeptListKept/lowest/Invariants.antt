-- The run is the same from here on.
use Rattle.std.proofs.Common.{◌≡◌}
use Rattle.snow_interval.specs.Model.Heights.{lowest}
use Rattle.snow_interval.specs.Clauses.Listed.{listed}
use Rattle.snow_interval.proofs.list.KeptListKept.lowest.Given as goal

abbrev pub invariant-loop-low : goal.invariant-loop-low
invariant-loop-low l = lowest (listed l.self.heights) l.low ≡ lowest (listed l.self.heights) l.initial.low

abbrev pub decreases-loop-low : goal.decreases-loop-low
decreases-loop-low l = l.low
