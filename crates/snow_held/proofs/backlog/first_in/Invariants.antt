use Rattle.std.specs.BinaryHeap.{heap_items, heap_len, heap_capacity}
use Rattle.snow_held.specs.Kept.Arrivals.{IsBacklog}
use Rattle.snow_held.proofs.backlog.first_in.Given as goal

abbrev pub invariant-loop-top : goal.invariant-loop-top
invariant-loop-top l = IsBacklog l.items (heap_items l.fresh) (heap_len l.fresh) (heap_capacity l.fresh)

abbrev pub decreases-loop-top : goal.decreases-loop-top
decreases-loop-top l = heap_len l.fresh
