-- The identifiers so far and those that are left are all.
use Rattle.std.proofs.Common.{◌≡◌, ◌||◌, ℕ, List, drop}
use Rattle.snow_store.specs.Model.Paths.{has_id}
use Rattle.snow_boot.proofs.candidates.each_once.Given as goal

abbrev pub invariant-loop-id : goal.invariant-loop-id
invariant-loop-id l = (q : List ℕ) → (has_id l.once q || has_id (drop l.id-index l.ids) q) ≡ has_id l.ids q
