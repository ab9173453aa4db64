-- Nothing is missed yet.
use Rattle.std.proofs.Common.{ap}
use Rattle.snow_store.specs.Kept.Indexing.{Shelf}
use Rattle.snow_store.specs.Kept.Renewing.{fetch_by}
use Rattle.snow_store.proofs.Counting.{none_needed}
use Rattle.snow_boot.proofs.fetching.Fetching.begin.Goals as goal

pub invariant_of-result : goal.invariant_of-result
invariant_of-result g c whole =
    (ap (λ (v : Shelf). v.whole) c.begin.ensures, none_needed c.new-3.result (fetch_by c.begin.result.store c.new.result c.new-2.result) c.new-3.ensures.empty c.new.ensures)
