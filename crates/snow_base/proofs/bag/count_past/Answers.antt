use Rattle.std.proofs.Common.{sym}
use Rattle.snow_base.proofs.Adding.{added_counted, added_inserted, none_there}
use Rattle.snow_base.proofs.bag.count_past.Goals as goal

pub returns-in-Ok-clause-ok : goal.returns-in-Ok-clause-ok
returns-in-Ok-clause-ok c =
    added_counted c.args.votes.now.items c.args.id.now c.args.n c.in-Ok.at c.index_mut.result.now c.requires.order
    (rw c.as_slice.ensures.value at c.in-Ok.ensures) c.index_mut.ensures.value

pub returns-in-Err-clause-ok : goal.returns-in-Err-clause-ok
returns-in-Err-clause-ok c =
    rw (sym (added_inserted c.args.votes.now.items c.args.id.now c.args.n c.in-Err.at (rw c.as_slice.ensures.value at c.in-Err.ensures))) c.put_in.ensures.ok

pub returns-in-Err-clause-known : goal.returns-in-Err-clause-known
returns-in-Err-clause-known c = λ has. absurd (none_there _ _ _ (rw c.as_slice.ensures.value at c.in-Err.ensures) has)
