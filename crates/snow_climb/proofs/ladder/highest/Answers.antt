use Rattle.std.proofs.Common.{◌-◌, get_or, refl}
use Rattle.snow_climb.proofs.Hung.{mark_highest}
use Rattle.snow_climb.proofs.ladder.highest.Goals as goal

pub returns-then-word-gt0 : goal.returns-then-word-gt0
returns-then-word-gt0 c =
    mark_highest c.args.words.now c.args.count c.loop-at.at (get_or c.args.words.now (c.loop-at.at - 1) 0) c.ilog2.result c.loop-at-test.true c.loop-at.invariant.zeros refl c.ilog2.ensures.next_power_gt
