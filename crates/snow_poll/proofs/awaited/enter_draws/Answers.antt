-- The next node has its draws.
use Rattle.std.proofs.Common.{List, length, map, ap, arith, ◌∙◌}
use Rattle.std.proofs.lemmas.List.{length-map, length-take-le}
use Rattle.snow_sample.specs.declared.draws.Draw.{Draw}
use Rattle.snow_poll.specs.Kept.Awaited.{counts_at, draw_of}
use Rattle.snow_poll.proofs.Begun.{times_more, drawn_more}
use Rattle.snow_poll.proofs.awaited.enter_draws.Goals as goal

pub loop-draw-preserved : goal.loop-draw-preserved
loop-draw-preserved c = (
  c.enter_draw.ensures.chained,
  times_more c.args.draws.now c.loop-draw.draw-index c.draw-item.result (counts_at c.loop-draw.waits.items) (counts_at c.enter_draw.new.waits.items)
      c.loop-draw-test.true c.draw-item.is c.requires.nodes c.loop-draw.invariant.1 c.enter_draw.ensures.counts,
  drawn_more c.args.draws.now c.loop-draw.draw-index c.draw-item.result (map draw_of c.loop-draw.waits.items) (map draw_of c.enter_draw.new.waits.items)
      c.loop-draw-test.true c.draw-item.is c.loop-draw.invariant.2 c.enter_draw.ensures.drawn,
  c.enter_draw.ensures.room ∙ c.loop-draw.invariant.3,
)

pub enter_draw-requires-clause-few : goal.enter_draw-requires-clause-few
enter_draw-requires-clause-few c =
    let waits = c.loop-draw.waits.items in
    omega (arith, length-map waits draw_of, ap (λ (l : List Draw). length l) c.loop-draw.invariant.2, length-take-le c.loop-draw.draw-index c.args.draws.now, c.requires.few)

pub enter_draw-requires-clause-room : goal.enter_draw-requires-clause-room
enter_draw-requires-clause-room c =
    let waits = c.loop-draw.waits.items in
    omega (arith, length-map waits draw_of, ap (λ (l : List Draw). length l) c.loop-draw.invariant.2, length-take-le c.loop-draw.draw-index c.args.draws.now, c.requires.room, c.loop-draw.invariant.3, c.loop-draw-test.true)
