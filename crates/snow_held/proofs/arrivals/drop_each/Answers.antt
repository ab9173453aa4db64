-- The replies go one by one, and at the end no node is left.
use Rattle.std.proofs.Common.{sym, subst, ◌∙◌}
use Rattle.snow_held.specs.Kept.Arrivals.{IsLeaving, names}
use Rattle.snow_held.proofs.Departed.{leaving_begun, leaving_step, leaving_ended}
use Rattle.snow_held.proofs.arrivals.drop_each.Goals as goal

pub loop-arrival-init : goal.loop-arrival-init
loop-arrival-init c number number_at next filed of_poll =
    let es = c.args.backlog.now in
    let nodes = c.args.nodes.now in
    let named = names c.args.blocks.now in
    subst (λ rest. IsLeaving number es es nodes rest number_at named next) (sym (c.into_iter-arrival-iterator.ensures.into_iter_gives ∙ c.iter-arrival-items.ensures.rest)) (leaving_begun number es nodes number_at named next filed of_poll c.iter-arrival-items.ensures.found)

pub loop-arrival-preserved : goal.loop-arrival-preserved
loop-arrival-preserved c number number_at next filed of_poll =
    let es = c.loop-arrival.backlog in
    let nodes = c.args.nodes.now in
    let named = names c.loop-arrival.blocks in
    let is = subst (λ rest. IsLeaving number c.args.backlog.now es nodes rest number_at named next) c.in-Some.ensures.steps (c.loop-arrival.invariant number number_at next filed of_poll) in
    leaving_step number c.args.backlog.now es c.drop_one.new.backlog nodes (c.in-Some.field-0-0.now, c.in-Some.arrival.now) c.next.new.self number_at named (names c.drop_one.new.blocks) next is
    c.drop_one.ensures.rest c.drop_one.ensures.sorted c.drop_one.ensures.left c.drop_one.ensures.others

pub returns : goal.returns
returns c number number_at next filed of_poll =
    leaving_ended number c.args.backlog.now c.loop-arrival.backlog c.args.nodes.now c.loop-arrival.arrival-iterator number_at (names c.loop-arrival.blocks) next
    (c.loop-arrival.invariant number number_at next filed of_poll) c.in-None.ensures.steps.0
