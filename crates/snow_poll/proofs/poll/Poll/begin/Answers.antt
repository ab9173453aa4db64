-- What is kept of a new poll.
use Rattle.std.proofs.Common.{ap, arith, length, List, ◌∙◌, vec_capacity}
use Rattle.snow_sample.specs.declared.draws.Draw.{Draw}
use Rattle.snow_sample.specs.Model.Sampling.{draw_count}
use Rattle.snow_sample.proofs.Slots.{few_places}
use Rattle.snow_poll.specs.Kept.Awaited.{counts_at}
use Rattle.snow_poll.proofs.Begun.{kept_new}
use Rattle.snow_poll.proofs.poll.Poll.begin.Goals as goal

pub of-requires-clause-few : goal.of-requires-clause-few
of-requires-clause-few c =
    omega (arith, few_places c.list-drawn.result.now c.list-drawn.ensures.counts, ap draw_count c.list-drawn.ensures.list, c.requires.count, c.ranges.outstanding.fits)

pub invariant_of-result : goal.invariant_of-result
invariant_of-result c =
    let drawn = c.list-drawn.ensures.list in
    let many = ap (λ (l : List Draw). length l) drawn in
    rw (c.in_ok-of.ensures.drawn, c.in_ok-of.ensures.replies, drawn)
    (kept_new c.args.number c.args.draws.now (counts_at c.in_ok-of.field-0.value.awaited.waits.items) c.reserve.new.self c.args.outstanding (vec_capacity c.in_ok-of.field-0.value.replies)
    (rw drawn at c.in_ok-of.ensures.times) (c.reserve.ensures.list ∙ c.clear.ensures.list) c.requires.count c.ranges.outstanding.fits (rw drawn at c.list-drawn.ensures.counts)
    (omega (arith, c.in_ok-reserve.ensures.ok, many))
    (omega (arith, c.in_ok-of.ensures.room, many)))
