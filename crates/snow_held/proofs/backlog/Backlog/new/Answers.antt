use Rattle.std.specs.BinaryHeap.{heap_items, heap_len, heap_capacity}
use Rattle.snow_held.proofs.Stocked.{stocked_nothing}
use Rattle.snow_held.proofs.backlog.Backlog.new.Goals as goal

pub invariant_of-result : goal.invariant_of-result
invariant_of-result c =
    let heap = c.new-2.result in
    stocked_nothing c.new.result (heap_items heap) (heap_len heap) (heap_capacity heap) c.new.ensures c.new-2.ensures.heap_order c.new-2.ensures.len
