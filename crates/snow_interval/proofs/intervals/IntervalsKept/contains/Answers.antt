-- Spans above the floor are above 0.
use Rattle.std.proofs.Common.{◌+◌, arith}
use Rattle.snow_interval.proofs.Apart.{weaker}
use Rattle.snow_interval.proofs.intervals.IntervalsKept.contains.Goals as goal

pub contains-requires : goal.contains-requires
contains-requires c = rw c.as_slice.ensures.value (weaker (c.self.inside.last + 1) 1 c.self.inside.spans.items (omega arith) c.self.invariant)
