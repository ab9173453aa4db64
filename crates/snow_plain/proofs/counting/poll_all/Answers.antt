use Rattle.std.proofs.Common.{◌<◌, List, All, sym, ap, subst, arith}
use Rattle.snow_board.specs.declared.cursor.Cursor.{Cursor}
use Rattle.snow_board.specs.Model.Board.{blocks_of}
use Rattle.snow_board.specs.Kept.Cursors.{cursor_total}
use Rattle.snow_plain.proofs.Swept.{counts_kept, total_kept}
use Rattle.snow_plain.proofs.counting.poll_all.Goals as goal

pub poll_counters-requires-clause-counts : goal.poll_counters-requires-clause-counts
poll_counters-requires-clause-counts c =
    subst (λ (l : List Cursor). All (λ c. 0 < c.count) l) (sym c.poll_pending.ensures.cursors)
    (counts_kept (blocks_of c.args.pending.now) c.args.cursors.now c.requires.counts)

pub poll_counters-requires-clause-total : goal.poll_counters-requires-clause-total
poll_counters-requires-clause-total c =
    omega (arith, c.requires.total, ap cursor_total c.poll_pending.ensures.cursors, total_kept (blocks_of c.args.pending.now) c.args.cursors.now)
