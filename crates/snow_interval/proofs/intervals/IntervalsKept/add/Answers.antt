-- Spans above the floor are above 0.
use Rattle.std.proofs.Common.{◌+◌, arith}
use Rattle.snow_interval.proofs.Apart.{weaker}
use Rattle.snow_interval.proofs.intervals.IntervalsKept.add.Goals as goal

pub put-requires-clause-apart : goal.put-requires-clause-apart
put-requires-clause-apart c = weaker (c.self.inside.last + 1) 1 c.self.inside.spans.items (omega arith) c.self.invariant
