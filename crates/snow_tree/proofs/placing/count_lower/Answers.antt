use Rattle.std.proofs.Common.{ℕ, ◌+◌, ◌-◌, ◌/◌, ◌<◌, arith}
use Rattle.snow_tree.proofs.Searched.{there, below_more, above_more}
use Rattle.snow_tree.proofs.placing.count_lower.Goals as goal

pub loop-low-preserved-then-number_of-number : goal.loop-low-preserved-then-number_of-number
loop-low-preserved-then-number_of-number g c =
    let entries = c.args.entries.now.items in
    let low = c.loop-low.low in
    let high = c.loop-low.high in
    let middle : ℕ = low + (high - low) / 2 in
    let within : middle < c.args.len = omega (arith, c.loop-low-test.true, c.loop-low.invariant.most) in
    let x = there entries middle (omega (arith, within, c.requires.most)) in
    record {
      within = omega (arith, c.loop-low-test.true);
      most = c.loop-low.invariant.most;
      below = below_more entries c.args.len c.args.number middle x.0 c.requires.order within x.1 (omega (arith, c.number_of.ensures.some x.0 x.1, c.if-number_of-number.true));
      above = c.loop-low.invariant.above;
    }

pub loop-low-preserved : goal.loop-low-preserved
loop-low-preserved g c =
    let entries = c.args.entries.now.items in
    let low = c.loop-low.low in
    let high = c.loop-low.high in
    let middle : ℕ = low + (high - low) / 2 in
    let within : middle < c.args.len = omega (arith, c.loop-low-test.true, c.loop-low.invariant.most) in
    let x = there entries middle (omega (arith, within, c.requires.most)) in
    record {
      within = omega (arith, c.loop-low-test.true);
      most = omega (arith, within);
      below = c.loop-low.invariant.below;
      above = above_more entries c.args.len c.args.number middle x.0 c.requires.order x.1 (omega (arith, c.number_of.ensures.some x.0 x.1, c.if-number_of-number.false));
    }

pub returns-clause-above : goal.returns-clause-above
returns-clause-above g c = λ i e more less at. c.loop-low.invariant.above i e (omega (arith, more, c.loop-low-test.false)) less at
