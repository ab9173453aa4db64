use Rattle.std.proofs.Common.{◌∙◌, arith}
use Rattle.snow_board.proofs.Settled.{settling_more, settling_less}
use Rattle.snow_plain.proofs.state.State.settle.Goals as goal

pub loop-more-smaller : goal.loop-more-smaller
loop-more-smaller c =
    rw c.loop-more-test.true
    (settling_less c.loop-more.self c.accept_next-more.new.self c.loop-more.decisions.items c.accept_next-more.new.decisions.items c.accept_next-more.result c.accept_next-more.ensures.accepts)

pub loop-more-preserved : goal.loop-more-preserved
loop-more-preserved c = record {
  settling =
      let before = rw c.loop-more-test.true at c.loop-more.invariant.settling in
      settling_more c.args.self.now c.loop-more.self c.accept_next-more.new.self c.args.decisions.now.items c.loop-more.decisions.items c.accept_next-more.new.decisions.items
      c.accept_next-more.result before c.accept_next-more.ensures.accepts;
  room = c.accept_next-more.ensures.room ∙ c.loop-more.invariant.room;
  fewer = omega (arith, c.accept_next-more.ensures.fewer, c.loop-more.invariant.fewer);
}
