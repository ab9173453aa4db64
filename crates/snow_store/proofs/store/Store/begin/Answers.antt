-- Nothing is kept.
use Rattle.snow_store.proofs.Indexed.{no_places, no_links}
use Rattle.snow_store.proofs.Storing.{none_stored}
use Rattle.snow_store.proofs.store.Store.begin.Goals as goal

pub invariant_of-result : goal.invariant_of-result
invariant_of-result g c whole =
    rw c.new.ensures.items
    (none_stored c.args.last c.args.height c.new-2.result c.new-3.result (g.H.Kept.floor c.begin.result) (g.H.Kept.held c.begin.result)
    (no_places c.new-2.result c.new-2.ensures.empty) (no_links c.new-3.result c.new-3.ensures)
    c.begin.ensures.floor c.begin.ensures.held)
