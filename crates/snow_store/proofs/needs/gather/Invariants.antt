-- What was gathered is what those that were looked at miss.
use Rattle.std.proofs.Common.{take}
use Rattle.snow_store.specs.Model.Needing.{missing, Counts}
use Rattle.snow_store.specs.Kept.Renewing.{fetch_by}
use Rattle.snow_store.proofs.needs.gather.Given as goal

abbrev pub invariant-loop-target : goal.invariant-loop-target
invariant-loop-target g l =
    let f = fetch_by l.store.store l.targets l.found in
    Counts l.needs (missing f (take l.target-index l.target-items))
