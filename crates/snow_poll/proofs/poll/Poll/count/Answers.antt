-- Where the node is awaited its draws are outstanding, and there is room for its reply; else nothing changes.
use Rattle.std.proofs.Common.{◌≡◌, ℕ, ◌-◌, ◌<◌, List, [], ◌∷◌, ◌++◌, map, bytes_eq, if◌then◌else◌, None, ap, sym, subst, arith, vec_len, vec_capacity, ◌∙◌}
use Rattle.std.proofs.lemmas.Bool.{cond-true, cond-false}
use Rattle.snow_base.specs.Model.Votes.{Votes, total_count}
use Rattle.snow_sample.specs.declared.draws.Draw.{Draw}
use Rattle.snow_poll.specs.declared.awaited.Wait.{Wait}
use Rattle.snow_poll.specs.declared.poll.Reply.{Reply}
use Rattle.snow_poll.specs.declared.room.Nodes.{Nodes}
use Rattle.snow_poll.specs.Kept.Awaited.{counts_at, draw_of}
use Rattle.snow_poll.specs.Model.Poll.{Poll, awaits, replied, with_reply, given}
use Rattle.snow_poll.specs.Kept.Tallied.{IsKept}
use Rattle.snow_poll.proofs.Counting.{total_received}
use Rattle.snow_poll.proofs.Replying.{falls, taken_some, taken_none, kept_more}
use Rattle.snow_poll.proofs.poll.Poll.count.Goals as goal

-- a poll of these draws and replies
abbrev poll_of : ℕ → List Draw → List Reply → Poll
poll_of number draws replies = record { number = number; draws = draws; replies = replies }

-- a poll of these nodes
abbrev with_nodes : ℕ → Nodes → Poll
with_nodes number nodes = poll_of number (map draw_of nodes.awaited.waits.items) nodes.replies.items

-- what is kept of it
abbrev Kept : ℕ → List Draw → List Reply → List Wait → Votes → ℕ → ℕ → ℕ → Type 0
Kept number draws replies waits votes most left room = IsKept (poll_of number draws replies) (counts_at waits) votes most left room

pub returns-in_default-clause-awaited : goal.returns-in_default-clause-awaited
returns-in_default-clause-awaited c =
    let q = with_nodes c.self.inside.number c.self.inside.nodes.value in
    let none = taken_none q c.args.node.now (counts_at c.self.inside.nodes.value.awaited.waits.items) c.remove.result c.self.invariant.awaited (rw c.deref_mut.ensures.value at c.remove.ensures.value) c.in_default.is in
    sym none ∙ ap (λ p. awaits p c.args.node.now) c.self.view_is

pub returns-in_default-clause-poll : goal.returns-in_default-clause-poll
returns-in_default-clause-poll c =
    let q = with_nodes c.self.inside.number c.self.inside.nodes.value in
    let none = taken_none q c.args.node.now (counts_at c.self.inside.nodes.value.awaited.waits.items) c.remove.result c.self.invariant.awaited (rw c.deref_mut.ensures.value at c.remove.ensures.value) c.in_default.is in
    ap (λ (d : List Draw). poll_of c.self.inside.number d c.deref_mut.result.now.replies.items) c.remove.ensures.drawn
    ∙ ap (with_nodes c.self.inside.number) c.deref_mut.ensures.value
    ∙ sym (cond-false _ (with_reply q c.args.node.now c.args.id.now) q none) ∙ ap (λ p. replied p c.args.node.now c.args.id.now) c.self.view_is

pub invariant_of-self : goal.invariant_of-self
invariant_of-self c =
    let votes = c.self.inside.votes in
    subst (λ (w : List Wait). Kept c.self.inside.number (map draw_of w) c.deref_mut.result.now.replies.items w votes c.self.inside.most c.self.inside.outstanding
    (vec_capacity c.deref_mut.result.now.replies)) (sym (c.remove.ensures.same c.in_default.is))
    (subst (λ (m : Nodes). Kept c.self.inside.number (map draw_of m.awaited.waits.items) m.replies.items m.awaited.waits.items votes c.self.inside.most c.self.inside.outstanding
    (vec_capacity m.replies)) (sym c.deref_mut.ensures.value) c.self.invariant)

pub overflow_sub-self : goal.overflow_sub-self
overflow_sub-self c =
    let q = with_nodes c.self.inside.number c.self.inside.nodes.value in
    let taken = taken_some q c.args.node.now (counts_at c.self.inside.nodes.value.awaited.waits.items) c.remove.result c.in-Some.times c.self.invariant.awaited (rw c.deref_mut.ensures.value at c.remove.ensures.value) c.in-Some.is in
    let numbers = falls q c.args.node.now c.args.id.now c.self.invariant.counts taken.0 in
    omega (arith, taken.1, numbers.left, c.self.invariant.left)

pub give-self-inside-requires-clause-some : goal.give-self-inside-requires-clause-some
give-self-inside-requires-clause-some c =
    let q = with_nodes c.self.inside.number c.self.inside.nodes.value in
    let taken = taken_some q c.args.node.now (counts_at c.self.inside.nodes.value.awaited.waits.items) c.remove.result c.in-Some.times c.self.invariant.awaited (rw c.deref_mut.ensures.value at c.remove.ensures.value) c.in-Some.is in
    let numbers = falls q c.args.node.now c.args.id.now c.self.invariant.counts taken.0 in
    omega (arith, taken.1, numbers.some)

pub give-self-inside-requires-clause-total : goal.give-self-inside-requires-clause-total
give-self-inside-requires-clause-total c =
    let q = with_nodes c.self.inside.number c.self.inside.nodes.value in
    let taken = taken_some q c.args.node.now (counts_at c.self.inside.nodes.value.awaited.waits.items) c.remove.result c.in-Some.times c.self.invariant.awaited (rw c.deref_mut.ensures.value at c.remove.ensures.value) c.in-Some.is in
    let numbers = falls q c.args.node.now c.args.id.now c.self.invariant.counts taken.0 in
    let total = ap total_count c.self.invariant.votes ∙ total_received q in
    omega (arith, taken.1, numbers.left, total, c.self.invariant.within, c.self.invariant.small)

pub give-self-inside-requires-clause-room : goal.give-self-inside-requires-clause-room
give-self-inside-requires-clause-room c =
    let q = with_nodes c.self.inside.number c.self.inside.nodes.value in
    let taken = taken_some q c.args.node.now (counts_at c.self.inside.nodes.value.awaited.waits.items) c.remove.result c.in-Some.times c.self.invariant.awaited (rw c.deref_mut.ensures.value at c.remove.ensures.value) c.in-Some.is in
    let numbers = falls q c.args.node.now c.args.id.now c.self.invariant.counts taken.0 in
    omega (arith, numbers.shorter, c.self.invariant.places)

pub push_reserved-requires : goal.push_reserved-requires
push_reserved-requires c =
    let q = with_nodes c.self.inside.number c.self.inside.nodes.value in
    let taken = taken_some q c.args.node.now (counts_at c.self.inside.nodes.value.awaited.waits.items) c.remove.result c.in-Some.times c.self.invariant.awaited (rw c.deref_mut.ensures.value at c.remove.ensures.value) c.in-Some.is in
    let numbers = falls q c.args.node.now c.args.id.now c.self.invariant.counts taken.0 in
    let room : vec_len c.self.inside.nodes.value.replies < vec_capacity c.self.inside.nodes.value.replies =
    omega (arith, numbers.shorter, c.self.invariant.replies_fit, c.self.inside.nodes.value.replies.ok.0) in
    subst (λ (m : Nodes). vec_len m.replies < vec_capacity m.replies) (sym c.deref_mut-2.ensures.value)
    (subst (λ (m : Nodes). vec_len m.replies < vec_capacity m.replies) (sym c.deref_mut.ensures.value) room)

pub invariant_of-self-2 : goal.invariant_of-self-2
invariant_of-self-2 c =
    let q = with_nodes c.self.inside.number c.self.inside.nodes.value in
    let taken = taken_some q c.args.node.now (counts_at c.self.inside.nodes.value.awaited.waits.items) c.remove.result c.in-Some.times c.self.invariant.awaited (rw c.deref_mut.ensures.value at c.remove.ensures.value) c.in-Some.is in
    let numbers = falls q c.args.node.now c.args.id.now c.self.invariant.counts taken.0 in
    let n = c.self.inside.nodes.value in
    let r : Reply = record { node = c.args.node.now; id = c.args.id.now } in
    let drawn : map draw_of c.deref_mut-2.result.now.awaited.waits.items ≡ map draw_of n.awaited.waits.items =
    ap (λ (m : Nodes). map draw_of m.awaited.waits.items) c.deref_mut-2.ensures.value ∙ c.remove.ensures.drawn ∙ ap (λ (m : Nodes). map draw_of m.awaited.waits.items) c.deref_mut.ensures.value in
    let told : c.push_reserved.new.self.items ≡ n.replies.items ++ r ∷ [] =
    c.push_reserved.ensures.items ∙ ap (λ (m : Nodes). m.replies.items ++ r ∷ []) c.deref_mut-2.ensures.value ∙ ap (λ (m : Nodes). m.replies.items ++ r ∷ []) c.deref_mut.ensures.value in
    let waits : c.deref_mut-2.result.now.awaited.waits.items ≡ c.remove.new.self.waits.items = ap (λ (m : Nodes). m.awaited.waits.items) c.deref_mut-2.ensures.value in
    let room : vec_capacity c.push_reserved.new.self ≡ vec_capacity n.replies =
    c.push_reserved.ensures.capacity ∙ ap (λ (m : Nodes). vec_capacity m.replies) c.deref_mut-2.ensures.value ∙ ap (λ (m : Nodes). vec_capacity m.replies) c.deref_mut.ensures.value in
    let left = c.self.inside.outstanding - c.in-Some.times in
    let votes = c.give-self-inside.new.votes in
    let kept = kept_more q c.args.node.now c.args.id.now (counts_at n.awaited.waits.items) (counts_at c.remove.new.self.waits.items) c.self.inside.votes votes
    c.self.inside.most c.give-self-inside.result c.self.inside.outstanding left (vec_capacity n.replies)
    c.self.invariant taken.0
    (λ other. c.remove.ensures.updates other ∙ ap (λ (m : Nodes). if bytes_eq c.args.node.now other then None else counts_at m.awaited.waits.items other) c.deref_mut.ensures.value)
    (c.give-self-inside.ensures.list ∙ ap (given c.self.inside.votes.list c.args.id.now) taken.1)
    c.give-self-inside.ensures.most c.give-self-inside.ensures.places
    (omega (arith, taken.1, numbers.left, c.self.invariant.left)) in
    subst (λ (d : List Draw). Kept c.self.inside.number d c.push_reserved.new.self.items c.deref_mut-2.result.now.awaited.waits.items votes c.give-self-inside.result left
    (vec_capacity c.push_reserved.new.self)) (sym drawn)
    (subst (λ (l : List Reply). Kept c.self.inside.number q.draws l c.deref_mut-2.result.now.awaited.waits.items votes c.give-self-inside.result left
    (vec_capacity c.push_reserved.new.self)) (sym told)
    (subst (λ (w : List Wait). Kept c.self.inside.number q.draws (q.replies ++ r ∷ []) w votes c.give-self-inside.result left
    (vec_capacity c.push_reserved.new.self)) (sym waits)
    (subst (λ (k : ℕ). Kept c.self.inside.number q.draws (q.replies ++ r ∷ []) c.remove.new.self.waits.items votes c.give-self-inside.result left k) (sym room) kept)))

pub returns-clause-awaited : goal.returns-clause-awaited
returns-clause-awaited c =
    let q = with_nodes c.self.inside.number c.self.inside.nodes.value in
    let taken = taken_some q c.args.node.now (counts_at c.self.inside.nodes.value.awaited.waits.items) c.remove.result c.in-Some.times c.self.invariant.awaited (rw c.deref_mut.ensures.value at c.remove.ensures.value) c.in-Some.is in
    sym taken.0 ∙ ap (λ p. awaits p c.args.node.now) c.self.view_is

pub returns-clause-poll : goal.returns-clause-poll
returns-clause-poll c =
    let q = with_nodes c.self.inside.number c.self.inside.nodes.value in
    let taken = taken_some q c.args.node.now (counts_at c.self.inside.nodes.value.awaited.waits.items) c.remove.result c.in-Some.times c.self.invariant.awaited (rw c.deref_mut.ensures.value at c.remove.ensures.value) c.in-Some.is in
    let n = c.self.inside.nodes.value in
    let r : Reply = record { node = c.args.node.now; id = c.args.id.now } in
    let drawn : map draw_of c.deref_mut-2.result.now.awaited.waits.items ≡ map draw_of n.awaited.waits.items =
    ap (λ (m : Nodes). map draw_of m.awaited.waits.items) c.deref_mut-2.ensures.value ∙ c.remove.ensures.drawn ∙ ap (λ (m : Nodes). map draw_of m.awaited.waits.items) c.deref_mut.ensures.value in
    let told : c.push_reserved.new.self.items ≡ n.replies.items ++ r ∷ [] =
    c.push_reserved.ensures.items ∙ ap (λ (m : Nodes). m.replies.items ++ r ∷ []) c.deref_mut-2.ensures.value ∙ ap (λ (m : Nodes). m.replies.items ++ r ∷ []) c.deref_mut.ensures.value in
    ap (λ (d : List Draw). poll_of c.self.inside.number d c.push_reserved.new.self.items) drawn
    ∙ ap (poll_of c.self.inside.number q.draws) told
    ∙ sym (cond-true _ (with_reply q c.args.node.now c.args.id.now) q taken.0) ∙ ap (λ p. replied p c.args.node.now c.args.id.now) c.self.view_is
