use Rattle.std.proofs.Common.{ap, arith}
use Rattle.snow_tree.specs.Kept.Held.{blocks_in}
use Rattle.snow_climb.specs.Kept.Ladder.{Rungs}
use Rattle.snow_climb.proofs.Climbers.{put_last, some_count}
use Rattle.snow_climb.proofs.climber.pass.Goals as goal

pub returns-then-count-gt0-clause-same : goal.returns-then-count-gt0-clause-same
returns-then-count-gt0-clause-same g c =
    rw (some_count c.args.count (omega (arith, c.if-count-gt0.true)))
    (put_last (blocks_in c.args.tree.now.pending) c.args.at c.args.count c.parent_reach-place.result c.args.ladder.now.climbers c.put.new.self.climbers c.parent_reach-place.ensures (ap (λ (s : Rungs). s.climbers) c.put.ensures))
