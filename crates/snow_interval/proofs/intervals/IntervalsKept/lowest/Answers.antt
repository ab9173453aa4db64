-- Spans above the floor are above 0.
use Rattle.std.proofs.Common.{◌+◌, arith}
use Rattle.snow_interval.proofs.Apart.{weaker}
use Rattle.snow_interval.proofs.intervals.IntervalsKept.lowest.Goals as goal

pub lowest-requires-clause-apart : goal.lowest-requires-clause-apart
lowest-requires-clause-apart c = rw c.as_slice.ensures.value (weaker (c.self.inside.last + 1) 1 c.self.inside.spans.items (omega arith) c.self.invariant)
