use Rattle.std.proofs.Common.{◌≡◌, ℕ, true, List, []}
use Rattle.snow_ledger.specs.declared.state.Transfer.{Transfer}
use Rattle.snow_ledger.specs.Model.Blocks.{first_transfers}
use Rattle.snow_ledger.specs.Model.Ledger.{after, are_good}
use Rattle.snow_ledger.proofs.state.move_all.Given as goal

-- these transfers are good, and the numbers are those after them
pub record SoFar (old now : List ℕ) (ts : List Transfer) : Type 0 where
  pub good : are_good old [] ts ≡ true
  pub is : now ≡ after old ts

abbrev pub invariant-loop-place : goal.invariant-loop-place
invariant-loop-place l = SoFar l.initial.state l.state (first_transfers l.bytes l.place)
