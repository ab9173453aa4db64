-- The reply at the top of the heap leaves, and then its number.
use Rattle.std.proofs.Common.{◌≡◌, ℕ, ◌+◌, None, cond, ap, ◌∙◌}
use Rattle.std.specs.BinaryHeap.{heap_items, heap_len, heap_capacity}
use Rattle.std.specs.BTreeMap.{is_at}
use Rattle.std.specs.Ordering.{nat_cmp}
use Rattle.snow_held.specs.Kept.Arrivals.{Entries, IsBacklog, at_arrival}
use Rattle.snow_held.proofs.Stocked.{stocked_taken, stocked_popped, left_there, some_is, number_itself}
use Rattle.snow_held.proofs.backlog.Backlog.take_first.Goals as goal
use Rattle.snow_held.proofs.backlog.Backlog.take_first.Goals.{After-pop}

left : (c : After-pop) (a : ℕ) → at_arrival c.take.new.self a ≡ cond (is_at (nat_cmp c.in-Some.arrival) a) None (at_arrival c.self.inside.items a)
left c a = ap (λ (l : Entries). at_arrival l a) c.take.ensures.rest ∙ left_there c.self.inside.items c.in-Some.arrival c.self.invariant.sorted a

pub invariant_of-self-2 : goal.invariant_of-self-2
invariant_of-self-2 c =
    let before = (goal.at.invariant_of-self-2 c).After-pop in
    let es = c.self.inside.items in
    let now = c.take.new.self in
    let arrival = c.in-Some.arrival in
    let heap = c.first_in-first.new.fresh in
    let after = c.pop.new.self in
    let taken : IsBacklog now (heap_items heap) (heap_len heap) (heap_capacity heap) =
    stocked_taken es now (heap_items heap) (heap_len heap) (heap_capacity heap) arrival c.in-Some.ensures.kept c.take.ensures.rest c.take.ensures.sorted (left before) in
    let none : at_arrival now arrival ≡ None = left before arrival ∙ ap (λ b. cond b None (at_arrival es arrival)) (number_itself arrival) in
    let x = some_is c.pop.result (c.pop.ensures.variant.1 c.in-Some.ensures.some) in
    let moved = rw x.1 at c.pop.ensures.permutation in
    let is_top = rw x.1 at c.pop.ensures.top in
    let order = rw x.1 at c.pop.ensures.heap_order in
    let less = rw x.1 at c.pop.ensures.len in
    stocked_popped now (heap_items heap) (heap_items after) (heap_len heap) (heap_len after) (heap_capacity heap) (heap_capacity after) x.0 arrival
    taken (order taken.order).0 moved less c.pop.ensures.capacity (ap (λ n. n + arrival) is_top ∙ c.in-Some.ensures.top x.0) (λ k found. absurd cc)

pub returns-clause-left : goal.returns-clause-left
returns-clause-left c a =
    left (goal.at.returns-clause-left c).After-pop a ∙ ap (λ (l : Entries). cond (is_at (nat_cmp c.in-Some.arrival) a) None (at_arrival l a)) c.self.view_is
