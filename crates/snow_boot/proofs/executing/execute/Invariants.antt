-- The blocks that are still to be executed make the whole of what was.
use Rattle.std.proofs.Common.{◌≡◌}
use Rattle.snow_chain.specs.Kept.Alone.{IsAlone}
use Rattle.snow_boot.proofs.Accepted.{left_of}
use Rattle.snow_boot.proofs.Underway.{IsUnderway}
use Rattle.snow_boot.proofs.executing.execute.Given as goal

abbrev pub invariant-loop-height : goal.invariant-loop-height
invariant-loop-height g l =
    IsUnderway l.initial.log l.log (left_of g.C.Chain.rules l.store.store.kept (g.C.Chain.held l.chain) l.below l.height l.top)
    (left_of g.C.Chain.rules l.store.store.kept (g.C.Chain.held l.initial.chain) l.initial.below l.initial.height l.top)
    × ((g.C.Chain.held l.chain).last ≡ l.below)
    × IsAlone (g.C.Chain.held l.chain)
