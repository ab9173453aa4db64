use Rattle.std.proofs.Common.{ap, arith}
use Rattle.snow_board.specs.Kept.Walk.{depth, votes_from}
use Rattle.snow_plain.specs.Kept.Trees.{counters_of}
use Rattle.snow_plain.proofs.Depths.{depth_polled}
use Rattle.snow_plain.proofs.conflict.Conflict.poll.Goals as goal

pub invariant_of-self-2 : goal.invariant_of-self-2
invariant_of-self-2 c =
    rw c.spread.ensures.none (record {
      shallow =
          omega (
            arith,
            c.spread.ensures.shallow,
            depth_polled c.args.params.now (votes_from 0 c.args.votes.now) (counters_of c.spread.new.tree),
            ap depth c.poll.ensures,
          );
      reserve = tt;
    })
