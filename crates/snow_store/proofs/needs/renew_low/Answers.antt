-- Nobody misses it.
use Rattle.snow_store.proofs.Counting.{removed}
use Rattle.snow_store.proofs.needs.renew_low.Goals as goal

pub returns-clause-counts : goal.returns-clause-counts
returns-clause-counts c count counts = removed c.args.needs.now c.remove.new.self c.args.id.now count c.remove.ensures.updates.0 counts
