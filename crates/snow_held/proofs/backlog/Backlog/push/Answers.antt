-- The new reply stands behind all others, and its number in the heap, unless it is quiet.
use Rattle.std.proofs.Common.{◌≡◌, ℕ, ◌<◌, cond, Some, sym, ap, ◌∙◌, subst, arith}
use Rattle.std.proofs.lemmas.Bool.{both_ways}
use Rattle.std.specs.BinaryHeap.{heap_items, heap_len, heap_capacity}
use Rattle.std.specs.BTreeMap.{is_at}
use Rattle.std.specs.Ordering.{nat_cmp}
use Rattle.snow_held.specs.declared.backlog.Kept.{Kept}
use Rattle.snow_held.specs.Kept.Arrivals.{Entries, IsBacklog, at_arrival, weight}
use Rattle.snow_held.proofs.Stocked.{stocked_wider, stocked_pushed, appended_there}
use Rattle.snow_held.proofs.backlog.Backlog.push.Goals as goal
use Rattle.snow_held.proofs.backlog.Backlog.push.Goals.{In_ok-push}

below : (c : In_ok-push) (a : ℕ) (k : Kept) → at_arrival c.self.inside.items a ≡ Some k → a < c.args.arrival
below c = subst (λ (es : Entries). (a : ℕ) (k : Kept) → at_arrival es a ≡ Some k → a < c.args.arrival) (sym c.self.view_is) c.requires

there : (c : In_ok-push) (a : ℕ) → at_arrival c.push.new.self a ≡ cond (is_at (nat_cmp c.args.arrival) a) (Some c.args.kept) (at_arrival c.self.inside.items a)
there c a = ap (λ (l : Entries). at_arrival l a) c.in_ok-push.ensures.ok ∙ appended_there c.self.inside.items c.args.arrival c.args.kept (below c) a

wide : (c : In_ok-push) → IsBacklog c.self.inside.items (heap_items c.reserve.new.self) (heap_len c.reserve.new.self) (heap_capacity c.reserve.new.self)
wide c =
    let inside = c.self.inside in
    let wide = c.reserve.new.self in
    let e = c.in_ok-reserve.ensures in
    stocked_wider inside.items (heap_items inside.fresh) (heap_items wide) (heap_len inside.fresh) (heap_len wide) (heap_capacity inside.fresh) (heap_capacity wide)
    c.self.invariant e.items e.len e.capacity

pub invariant_of-self-then-not-quiet : goal.invariant_of-self-then-not-quiet
invariant_of-self-then-not-quiet c =
    let before = (goal.at.invariant_of-self-then-not-quiet c).In_ok-push in
    let heap = c.reserve.new.self in
    let after = c.note.new.fresh in
    let e = c.in_ok-reserve.ensures in
    let loud = c.if-not-quiet.true in
    let none : weight c.args.kept ≡ 0 = ap (λ b. cond b 1 0) loud in
    stocked_pushed c.self.inside.items c.push.new.self (heap_items heap) (heap_items after) (heap_len heap) (heap_len after) (heap_capacity heap) (heap_capacity heap) (heap_capacity after)
    c.args.arrival c.args.kept (wide before) c.in_ok-push.ensures.ok c.in_ok-push.ensures.sorted (there before)
    c.note.ensures.order (λ _. c.note.ensures.noted) c.note.ensures.others
    (let more = c.note.ensures.len in omega (arith, more, none)) (let ok = e.ok in let n = c.len.ensures.len in omega (arith, ok, n)) c.note.ensures.room

pub invariant_of-self-else-not-quiet : goal.invariant_of-self-else-not-quiet
invariant_of-self-else-not-quiet c =
    let before = (goal.at.invariant_of-self-else-not-quiet c).In_ok-push in
    let heap = c.reserve.new.self in
    let e = c.in_ok-reserve.ensures in
    let quiet = c.if-not-quiet.false in
    let one : weight c.args.kept ≡ 1 = ap (λ b. cond b 1 0) quiet in
    stocked_pushed c.self.inside.items c.push.new.self (heap_items heap) (heap_items heap) (heap_len heap) (heap_len heap) (heap_capacity heap) (heap_capacity heap) (heap_capacity heap)
    c.args.arrival c.args.kept (wide before) c.in_ok-push.ensures.ok c.in_ok-push.ensures.sorted (there before)
    (λ h. h) (λ loud. absurd (both_ways c.args.kept.quiet loud quiet)) (λ a h. h)
    (omega (arith, one)) (let ok = e.ok in let n = c.len.ensures.len in omega (arith, ok, n)) (omega arith)

pub returns-then-not-quiet-clause-there : goal.returns-then-not-quiet-clause-there
returns-then-not-quiet-clause-there c a =
    there (goal.at.returns-then-not-quiet-clause-there c).In_ok-push a ∙ ap (λ (l : Entries). cond (is_at (nat_cmp c.args.arrival) a) (Some c.args.kept) (at_arrival l a)) c.self.view_is

pub returns-else-not-quiet-clause-there : goal.returns-else-not-quiet-clause-there
returns-else-not-quiet-clause-there c a =
    there (goal.at.returns-else-not-quiet-clause-there c).In_ok-push a ∙ ap (λ (l : Entries). cond (is_at (nat_cmp c.args.arrival) a) (Some c.args.kept) (at_arrival l a)) c.self.view_is
