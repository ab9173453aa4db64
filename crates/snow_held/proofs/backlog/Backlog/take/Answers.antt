-- The look-ups after a reply left.
use Rattle.std.proofs.Common.{◌≡◌, ℕ, None, cond, ap, ◌∙◌}
use Rattle.std.specs.BinaryHeap.{heap_items, heap_len, heap_capacity}
use Rattle.std.specs.BTreeMap.{is_at}
use Rattle.std.specs.Ordering.{nat_cmp}
use Rattle.snow_held.specs.Kept.Arrivals.{Entries, IsBacklog, at_arrival}
use Rattle.snow_held.proofs.Stocked.{stocked_taken, left_there}
use Rattle.snow_held.proofs.backlog.Backlog.take.Goals as goal
use Rattle.snow_held.proofs.backlog.Backlog.take.Goals.{After-take}

left : (c : After-take) (a : ℕ) → at_arrival c.take.new.self a ≡ cond (is_at (nat_cmp c.args.arrival) a) None (at_arrival c.self.inside.items a)
left c a = ap (λ (l : Entries). at_arrival l a) c.take.ensures.rest ∙ left_there c.self.inside.items c.args.arrival c.self.invariant.sorted a

stocked : (c : After-take) → IsBacklog c.take.new.self (heap_items c.self.inside.fresh) (heap_len c.self.inside.fresh) (heap_capacity c.self.inside.fresh)
stocked c =
    let inside = c.self.inside in
    stocked_taken inside.items c.take.new.self (heap_items inside.fresh) (heap_len inside.fresh) (heap_capacity inside.fresh) c.args.arrival
    c.self.invariant c.take.ensures.rest c.take.ensures.sorted (left c)

pub invariant_of-self : goal.invariant_of-self
invariant_of-self c = stocked (goal.at.invariant_of-self c).After-take

pub invariant_of-self-2 : goal.invariant_of-self-2
invariant_of-self-2 c = stocked (goal.at.invariant_of-self-2 c).After-take

pub returns-in_err-kept-clause-others : goal.returns-in_err-kept-clause-others
returns-in_err-kept-clause-others c a =
    left (goal.at.returns-in_err-kept-clause-others c).After-take a ∙ ap (λ (l : Entries). cond (is_at (nat_cmp c.args.arrival) a) None (at_arrival l a)) c.self.view_is

pub returns-clause-others : goal.returns-clause-others
returns-clause-others c a =
    left (goal.at.returns-clause-others c).After-take a ∙ ap (λ (l : Entries). cond (is_at (nat_cmp c.args.arrival) a) None (at_arrival l a)) c.self.view_is
