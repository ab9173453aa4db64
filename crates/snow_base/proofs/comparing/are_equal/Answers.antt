use Rattle.std.proofs.Common.{◌+◌, ◌*◌, arith}
use Rattle.snow_base.proofs.Equal.{equal_more, all_equal}
use Rattle.snow_base.proofs.comparing.are_equal.Goals as goal

pub loop-at-preserved : goal.loop-at-preserved
loop-at-preserved c =
    let from = c.min-from.ensures in
    equal_more c.args.a.now c.args.b.now (8 * c.loop-at.at) (8 * (c.loop-at.at + 1)) c.min-from.result _ _ c.loop-at.same
    (omega (arith, from, c.requires)) (omega (arith, from)) (omega arith) (omega (arith, from)) (λ k below inside. omega (arith, from))
    (λ k. (c.type_inv.a k).fits) (λ k. (c.type_inv.b k).fits) c.low_word.ensures c.low_word-in-loop-at.ensures c.loop-at.invariant

pub returns : goal.returns
returns c = all_equal c.args.a.now c.args.b.now (8 * c.loop-at.at) c.loop-at.same c.requires.same (omega (arith, c.loop-at-test.false, c.div_ceil-at-end.ensures)) c.loop-at.invariant
