-- The ledger's law: along every path of valid blocks no transfer stands twice, nothing is made, nothing is lost, and nobody is ever below
-- zero.
use Rattle.std.specs.Prelude.{◌≡◌, ℕ, ◌+◌, ◌≤◌, true, List, [], ◌∷◌, ◌++◌, Option, Some, flat_map}
use Rattle.std.specs.Option.{option_and_then}
use Rattle.std.specs.List.{AllPairs}
use Rattle.snow_ledger.specs.declared.state.Transfer.{Transfer}
use Rattle.snow_ledger.specs.Model.Blocks.{transfers_of}
use Rattle.snow_ledger.specs.Model.Ledger.{held, total, sent, received, after, is_good, next, takes}

-- the state at the end of a path of blocks, each valid on the state before it
abbrev pub followed : List ℕ → List (List ℕ) → Option (List ℕ)
followed state [] = Some state
followed state (bytes ∷ blocks) = option_and_then (λ below. followed below blocks) (next state bytes)

-- the transfers of all blocks of a path, in order
abbrev pub transfers_along : List (List ℕ) → List Transfer
transfers_along blocks = flat_map transfers_of blocks

-- two transfers have the same sender and the same sequence
abbrev pub IsTwice : Transfer → Transfer → Type 0
IsTwice t u = (t.from ≡ u.from) × (t.sequence ≡ u.sequence)

-- what transfers made of a first state and of the last one
pub record IsLedger (first : List ℕ) (list : List Transfer) (last : List ℕ) : Type 0 where
  -- the last state is balance and sequence after all transfers
  pub state : last ≡ after first list
  -- a run may begin with it too
  pub takes_last : takes last ≡ true
  -- the accounts hold together what they held at first
  pub total_stays : total last ≡ total first
  -- each transfer was good after those before it
  pub good : (before behind : List Transfer) (t : Transfer) → list ≡ before ++ t ∷ behind → is_good first before t ≡ true
  -- no transfer stands twice
  pub once : AllPairs (λ t u. IsTwice t u → ⊥) list
  -- no account ever sent more than it had held and received by then
  pub covered : (before behind : List Transfer) (account : ℕ) → list ≡ before ++ behind → sent account before ≤ held first account + received account before

-- along every path of valid blocks from a state with which a run may begin
abbrev pub LedgerLaw : Type 0
LedgerLaw = (first last : List ℕ) (blocks : List (List ℕ)) → takes first ≡ true → followed first blocks ≡ Some last
    → IsLedger first (transfers_along blocks) last
