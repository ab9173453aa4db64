-- A node that was drawn is counted at its place, and another at the end.
use Rattle.std.proofs.Common.{List, length, arith, ◌∙◌, ap, sym}
use Rattle.snow_sample.specs.declared.draws.Draw.{Draw}
use Rattle.snow_sample.specs.Kept.Drawn.{is_at}
use Rattle.snow_sample.specs.Model.Sampling.{counted}
use Rattle.snow_sample.proofs.Slots.{drawn_again, drawn_first, few_drawn}
use Rattle.snow_sample.proofs.places.Places.count.Goals as goal

pub add_one-requires-clause-place : goal.add_one-requires-clause-place
add_one-requires-clause-place c =
    (drawn_again c.args.roster.now c.args.self.now.slots.items c.args.draws.now c.place-at.result c.min-slot.result _ c.requires.slots
    c.place-at.ensures.within c.place-at.ensures.owner c.index.result.now (omega (arith, c.min-slot.ensures)) c.index.ensures (ap (is_at c.args.draws.now c.min-slot.result) (sym (c.place-at.ensures.owner c.index-nodes-at.result)) ∙ rw c.nodes.ensures.nodes at (sym c.is_at.ensures ∙ c.if-is_at.true))).0

pub returns-then-is_at-clause-counted : goal.returns-then-is_at-clause-counted
returns-then-is_at-clause-counted c =
    c.add_one.ensures
    ∙ (drawn_again c.args.roster.now c.args.self.now.slots.items c.args.draws.now c.place-at.result c.min-slot.result _ c.requires.slots
    c.place-at.ensures.within c.place-at.ensures.owner c.index.result.now (omega (arith, c.min-slot.ensures)) c.index.ensures (ap (is_at c.args.draws.now c.min-slot.result) (sym (c.place-at.ensures.owner c.index-nodes-at.result)) ∙ rw c.nodes.ensures.nodes at (sym c.is_at.ensures ∙ c.if-is_at.true))).1

pub returns-then-is_at-clause-slots : goal.returns-then-is_at-clause-slots
returns-then-is_at-clause-slots c =
    rw c.add_one.ensures
    (drawn_again c.args.roster.now c.args.self.now.slots.items c.args.draws.now c.place-at.result c.min-slot.result _ c.requires.slots
    c.place-at.ensures.within c.place-at.ensures.owner c.index.result.now (omega (arith, c.min-slot.ensures)) c.index.ensures (ap (is_at c.args.draws.now c.min-slot.result) (sym (c.place-at.ensures.owner c.index-nodes-at.result)) ∙ rw c.nodes.ensures.nodes at (sym c.is_at.ensures ∙ c.if-is_at.true))).2

pub overflow_cast-list : goal.overflow_cast-list
overflow_cast-list c =
    let first = drawn_first c.args.roster.now c.args.self.now.slots.items c.args.draws.now c.list-2.result.now c.place-at.result c.min-slot.result c.index.result.now
    c.index-nodes-at.result c.requires.slots (rw c.nodes.ensures.nodes at c.nodes.ensures.good) c.place-at.ensures.within c.index.ensures (λ low. omega (arith, low, c.min-slot.ensures, c.saturating_sub-last.ensures, ap (λ (l : List Draw). length l) c.list.ensures.list)) (rw c.nodes.ensures.nodes at (sym c.is_at.ensures ∙ c.if-is_at.false))
    (c.list-2.ensures.list ∙ rw c.nodes.ensures.nodes at c.in_ok-push_first.ensures.ok) in
    omega (arith, few_drawn c.args.draws.now c.list-2.result.now _ first.0 c.requires.few c.list-2.ensures.counts)

pub returns-clause-counted : goal.returns-clause-counted
returns-clause-counted c =
    (drawn_first c.args.roster.now c.args.self.now.slots.items c.args.draws.now c.push_first.new.self c.place-at.result c.min-slot.result c.index.result.now
    c.index-nodes-at.result c.requires.slots (rw c.nodes.ensures.nodes at c.nodes.ensures.good) c.place-at.ensures.within c.index.ensures (λ low. omega (arith, low, c.min-slot.ensures, c.saturating_sub-last.ensures, ap (λ (l : List Draw). length l) c.list.ensures.list)) (rw c.nodes.ensures.nodes at (sym c.is_at.ensures ∙ c.if-is_at.false))
    (rw c.nodes.ensures.nodes at c.in_ok-push_first.ensures.ok)).0
    ∙ ap (counted c.args.draws.now) (c.place-at.ensures.owner c.index-nodes-at.result)

pub returns-clause-slots : goal.returns-clause-slots
returns-clause-slots c =
    rw c.list-2.ensures.list
    (drawn_first c.args.roster.now c.args.self.now.slots.items c.args.draws.now c.push_first.new.self c.place-at.result c.min-slot.result c.index.result.now
    c.index-nodes-at.result c.requires.slots (rw c.nodes.ensures.nodes at c.nodes.ensures.good) c.place-at.ensures.within c.index.ensures (λ low. omega (arith, low, c.min-slot.ensures, c.saturating_sub-last.ensures, ap (λ (l : List Draw). length l) c.list.ensures.list)) (rw c.nodes.ensures.nodes at (sym c.is_at.ensures ∙ c.if-is_at.false))
    (rw c.nodes.ensures.nodes at c.in_ok-push_first.ensures.ok)).1
