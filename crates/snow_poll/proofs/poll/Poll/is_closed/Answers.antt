-- The votes received and outstanding fit 32 bits, and the numbers that are kept tell whether the poll is closed.
use Rattle.std.proofs.Common.{ap, arith, map, ◌∙◌, ◌+◌}
use Rattle.snow_base.specs.Model.Votes.{total_count}
use Rattle.snow_poll.specs.Kept.Awaited.{draw_of}
use Rattle.snow_poll.specs.Model.Closing.{is_closed}
use Rattle.snow_poll.specs.Kept.Tallied.{closes_by}
use Rattle.snow_poll.specs.Model.Poll.{Poll, received}
use Rattle.snow_poll.proofs.Counting.{total_received}
use Rattle.snow_poll.proofs.Replying.{closes}
use Rattle.snow_poll.proofs.poll.Poll.is_closed.Goals as goal

pub overflow_add-reach : goal.overflow_add-reach
overflow_add-reach c =
    let q : Poll = record { number = c.self.inside.number; draws = map draw_of c.self.inside.nodes.value.awaited.waits.items; replies = c.self.inside.nodes.value.replies.items } in
    let total = c.total.ensures ∙ ap total_count c.self.invariant.votes ∙ total_received q in
    omega (arith, total, c.self.invariant.left, c.self.invariant.within, c.self.invariant.small)

pub returns-clause-closed : goal.returns-clause-closed
returns-clause-closed c =
    let q : Poll = record { number = c.self.inside.number; draws = map draw_of c.self.inside.nodes.value.awaited.waits.items; replies = c.self.inside.nodes.value.replies.items } in
    let total = c.total.ensures ∙ ap total_count c.self.invariant.votes ∙ total_received q in
    c.closes.ensures.closed
    ∙ ap (λ got. closes_by c.args.params.now (got + c.self.inside.outstanding) c.self.inside.outstanding c.self.inside.most) total
    ∙ ap (λ left. closes_by c.args.params.now (received q + left) left c.self.inside.most) c.self.invariant.left
    ∙ closes c.args.params.now q c.self.inside.most c.closes.ensures.good c.self.invariant.most
    ∙ ap (is_closed c.args.params.now) c.self.view_is
