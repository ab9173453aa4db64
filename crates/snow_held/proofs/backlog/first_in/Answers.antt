-- The top of the heap is the number of a reply that is to be looked at, or it goes.
use Rattle.std.proofs.Common.{◌≡◌, ◌-◌, refl, arith}
use Rattle.std.specs.BinaryHeap.{heap_items, heap_len, heap_capacity}
use Rattle.snow_held.proofs.Stocked.{is_first, stocked_popped, some_is, same_top}
use Rattle.snow_held.proofs.backlog.first_in.Goals as goal

pub returns-in-Some-new_at-clause-first : goal.returns-in-Some-new_at-clause-first
returns-in-Some-new_at-clause-first c =
    let heap = c.loop-top.fresh in
    is_first c.args.items.now (heap_items heap) (heap_len heap) (heap_capacity heap) c.in-Some.top.now (18446744073709551615 - c.in-Some.top.now) c.in-Some-new_at.reply
    c.loop-top.invariant (c.in-Some.ensures.greatest c.loop-top.invariant.order) (omega arith) c.in-Some-new_at.ensures.there

pub loop-top-preserved : goal.loop-top-preserved
loop-top-preserved c =
    let heap = c.loop-top.fresh in
    let after = c.pop.new.self in
    let top = c.in-Some.top.now in
    let x = some_is c.pop.result (c.pop.ensures.variant.1 (c.peek.ensures.variant.0 (rw c.in-Some.is refl))) in
    let moved = rw x.1 at c.pop.ensures.permutation in
    let is_top = rw x.1 at c.pop.ensures.top in
    let order = rw x.1 at c.pop.ensures.heap_order in
    let less = rw x.1 at c.pop.ensures.len in
    let same : x.0 ≡ top = same_top (heap_items heap) (heap_items after) x.0 top is_top c.in-Some.ensures.lookup moved in
    stocked_popped c.args.items.now (heap_items heap) (heap_items after) (heap_len heap) (heap_len after) (heap_capacity heap) (heap_capacity after) x.0 (18446744073709551615 - top)
    c.loop-top.invariant (order c.loop-top.invariant.order).0 moved less c.pop.ensures.capacity (omega (arith, same)) c.in_default-new_at.ensures.none
