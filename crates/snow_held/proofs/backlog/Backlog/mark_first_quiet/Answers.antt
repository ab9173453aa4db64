-- The number at the top of the heap goes, and its reply becomes quiet.
use Rattle.std.proofs.Common.{◌+◌, true, false, map, refl, sym, ap, ◌∙◌, subst}
use Rattle.std.specs.BinaryHeap.{heap_items, heap_len, heap_capacity}
use Rattle.std.specs.BTreeMap.{is_at}
use Rattle.std.specs.List.Sorted.{IsStrictlySortedBy}
use Rattle.std.specs.Map.{keys_of}
use Rattle.std.specs.Option.{option_map, is_some}
use Rattle.std.specs.Ordering.{nat_cmp}
use Rattle.std.proofs.lemmas.Map.{keys-set_value}
use Rattle.snow_held.specs.declared.backlog.Kept.{Kept}
use Rattle.snow_held.specs.Kept.Arrivals.{Entries, at_arrival, seat_of}
use Rattle.snow_held.specs.Model.Replies.{quieted}
use Rattle.snow_held.proofs.Stocked.{stocked_quieted, some_is, changed_there}
use Rattle.snow_held.proofs.Seated.{seats_quieted, replies_quieted, none_found, none_quieted}
use Rattle.snow_held.proofs.backlog.Backlog.mark_first_quiet.Goals as goal

pub returns-in_default-clause-seats : goal.returns-in_default-clause-seats
returns-in_default-clause-seats c =
    let es = c.self.inside.items in
    sym (none_quieted (map seat_of es) (none_found es c.self.invariant.sorted c.in_default.ensures.none)) ∙ ap (λ (l : Entries). quieted (map seat_of l)) c.self.view_is

pub invariant_of-self-2 : goal.invariant_of-self-2
invariant_of-self-2 c =
    let es = c.self.inside.items in
    let heap = c.first_in-first.new.fresh in
    let after = c.pop.new.self in
    let old : Kept = record { reply = c.in-Some.reply; quiet = false } in
    let quiet : Kept = record { reply = c.in-Some.reply; quiet = true } in
    let there = c.in-Some.ensures.first.there in
    let x = some_is c.pop.result (c.pop.ensures.variant.1 c.in-Some.ensures.some) in
    let moved = rw x.1 at c.pop.ensures.permutation in
    let is_top = rw x.1 at c.pop.ensures.top in
    let order = rw x.1 at c.pop.ensures.heap_order in
    let less = rw x.1 at c.pop.ensures.len in
    stocked_quieted es c.set.new.self (heap_items heap) (heap_items after) (heap_len heap) (heap_len after) (heap_capacity heap) (heap_capacity after) x.0 c.in-Some.arrival old quiet
    c.in-Some.ensures.kept (order c.in-Some.ensures.kept.order).0 moved less c.pop.ensures.capacity
    (ap (λ n. n + c.in-Some.arrival) is_top ∙ c.in-Some.ensures.top x.0)
    there refl refl c.set.ensures (λ q. ap (λ (l : Entries). at_arrival l q) c.set.ensures ∙ changed_there es c.in-Some.arrival quiet (ap is_some there) q)

pub returns-clause-seats : goal.returns-clause-seats
returns-clause-seats c =
    let es = c.self.inside.items in
    ap (map seat_of) c.set.ensures ∙ seats_quieted es c.in-Some.arrival c.in-Some.reply c.self.invariant.sorted c.in-Some.ensures.first
    ∙ ap (λ (l : Entries). quieted (map seat_of l)) c.self.view_is

pub returns-clause-replies : goal.returns-clause-replies
returns-clause-replies c a =
    let es = c.self.inside.items in
    ap (λ (l : Entries). option_map (λ (k : Kept). k.reply) (at_arrival l a)) c.set.ensures ∙ replies_quieted es c.in-Some.arrival c.in-Some.reply a c.in-Some.ensures.first
    ∙ ap (λ (l : Entries). option_map (λ (k : Kept). k.reply) (at_arrival l a)) c.self.view_is

pub returns-clause-sorted : goal.returns-clause-sorted
returns-clause-sorted c =
    let quiet : Kept = record { reply = c.in-Some.reply; quiet = true } in
    subst (IsStrictlySortedBy nat_cmp) (sym (ap keys_of c.set.ensures ∙ keys-set_value (is_at (nat_cmp c.in-Some.arrival)) c.self.inside.items quiet)) c.self.invariant.sorted
