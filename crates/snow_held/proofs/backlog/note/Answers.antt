use Rattle.std.proofs.Common.{◌-◌, arith}
use Rattle.std.specs.BinaryHeap.{heap_items}
use Rattle.snow_held.proofs.Stocked.{noted_itself, noted_more}
use Rattle.snow_held.proofs.backlog.note.Goals as goal

pub returns-clause-noted : goal.returns-clause-noted
returns-clause-noted c =
    noted_itself (18446744073709551615 - c.args.arrival) c.args.arrival (heap_items c.args.fresh.now) (heap_items c.push-pushed.new.self)
    (rw c.unwrap.ensures at c.push-pushed.ensures.permutation) (omega arith)

pub returns-clause-others : goal.returns-clause-others
returns-clause-others c a h =
    noted_more (18446744073709551615 - c.args.arrival) a (heap_items c.args.fresh.now) (heap_items c.push-pushed.new.self)
    (rw c.unwrap.ensures at c.push-pushed.ensures.permutation) h
