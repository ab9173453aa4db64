-- The highest so far and what is left make the highest of all.
use Rattle.std.proofs.Common.{◌≡◌, drop}
use Rattle.snow_boot.specs.Clauses.Accepting.{higher_one, top_height}
use Rattle.snow_boot.proofs.fetching.Fetching.highest.Given as goal

abbrev pub invariant-loop-target : goal.invariant-loop-target
invariant-loop-target g l =
    higher_one l.top (top_height l.self.fetch.store.kept (drop l.target-index l.target-items)) ≡ top_height l.self.fetch.store.kept l.target-items
