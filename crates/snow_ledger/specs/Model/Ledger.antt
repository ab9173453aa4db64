-- The ledger: a state is the balance and the next sequence of each account, and transfers change it. What an account has after a list of
-- transfers is said by sums of whole numbers over the list.
use Rattle.std.specs.Prelude.{◌≡◌, ℕ, ◌+◌, ◌-◌, ◌*◌, ◌/◌, Bool, true, not, ◌&&◌, List, [], ◌∷◌, ◌++◌, length, Option, Some, None, is_some, slice_index, nat_le, nat_lt, ◌==◌, if◌then◌else◌, flat_map}
use Rattle.std.specs.List.{range_with_len, sum_by}
use mathlib.Core.Path.{ap}
use Rattle.snow_base.specs.declared.block.Header.{Header}
use Rattle.snow_chain.specs.Model.Chain.{Rules, NeedsHeader, Held, state_of}
use Rattle.snow_ledger.specs.declared.state.Transfer.{Transfer}
use Rattle.snow_ledger.specs.Model.Blocks.{header_of, transfers_of}

-- ---- states

-- how many accounts a state has
abbrev pub accounts : List ℕ → ℕ
accounts state = length state / 2

-- all accounts, counted from 0
abbrev pub accounts_of : List ℕ → List ℕ
accounts_of state = range_with_len 0 (accounts state)

-- the balance of an account in a state
abbrev pub held : List ℕ → ℕ → ℕ
held state account = slice_index state (2 * account)

-- the next sequence of an account in a state
abbrev pub next_in : List ℕ → ℕ → ℕ
next_in state account = slice_index state (2 * account + 1)

-- what all accounts hold together
abbrev pub total : List ℕ → ℕ
total state = sum_by (held state) (accounts_of state)

-- whether a list is a state: two numbers for each of one or more accounts, whose balances add up to at most 2^64-1
unfoldable pub is_state : List ℕ → Bool
is_state state = nat_le 1 (accounts state) && length state == 2 * accounts state && nat_le (total state) 18446744073709551615

-- each list of numbers that is held is a state
pub record HoldsStates (held : Held) : Type 0 where
  pub each : (id state : List ℕ) → state_of held id ≡ Some state → is_state state ≡ true

-- ---- after a list of transfers

-- what an account sends in a list of transfers
abbrev pub sent : ℕ → List Transfer → ℕ
sent account list = sum_by (λ t. if t.from == account then t.amount else 0) list

-- what an account receives in a list of transfers
abbrev pub received : ℕ → List Transfer → ℕ
received account list = sum_by (λ t. if t.to == account then t.amount else 0) list

-- how many transfers of a list are from an account
abbrev pub sendings : ℕ → List Transfer → ℕ
sendings account list = sum_by (λ t. if t.from == account then 1 else 0) list

-- the balance of an account after transfers: what it held and received, less what it sent
unfoldable pub balance : List ℕ → List Transfer → ℕ → ℕ
balance state list account = held state account + received account list - sent account list

-- the next sequence of an account after transfers: one more for each that is from it
unfoldable pub sequence : List ℕ → List Transfer → ℕ → ℕ
sequence state list account = next_in state account + sendings account list

-- balance and next sequence of each account after transfers
unfoldable pub after : List ℕ → List Transfer → List ℕ
after state list = flat_map (λ account. balance state list account ∷ sequence state list account ∷ []) (accounts_of state)

-- ---- good transfers

-- whether a transfer is from one account of a state to another
abbrev pub is_between_accounts : List ℕ → Transfer → Bool
is_between_accounts state t = nat_lt t.from (accounts state) && nat_lt t.to (accounts state) && not (t.from == t.to)

-- whether a transfer moves something, and no more than its sender has after these transfers
abbrev pub is_covered : List ℕ → List Transfer → Transfer → Bool
is_covered state list t = nat_le 1 t.amount && nat_le t.amount (balance state list t.from)

-- whether a transfer has its sender's next sequence after these transfers, and one that isn't the last number
abbrev pub is_in_turn : List ℕ → List Transfer → Transfer → Bool
is_in_turn state list t = t.sequence == sequence state list t.from && nat_lt t.sequence 18446744073709551615

-- whether a transfer is good after a list of transfers
unfoldable pub is_good : List ℕ → List Transfer → Transfer → Bool
is_good state list t = is_between_accounts state t && is_covered state list t && is_in_turn state list t

-- whether each of some transfers is good after a list and those before it
abbrev pub are_good : List ℕ → List Transfer → List Transfer → Bool
are_good state list [] = true
are_good state list (t ∷ ts) = is_good state list t && are_good state (list ++ t ∷ []) ts

-- ---- the rules

-- the state after transfers, where each is good after those before it
abbrev pub moved : List ℕ → List Transfer → Option (List ℕ)
moved state list = if is_state state && are_good state [] list then Some (after state list) else None

-- the state of a valid block: that after its transfers
abbrev pub next : List ℕ → List ℕ → Option (List ℕ)
next state bytes = if is_some (header_of bytes) then moved state (transfers_of bytes) else None

-- a run begins with any state
abbrev pub takes : List ℕ → Bool
takes state = is_state state

-- the rules of the ledger chain
abbrev pub ledger_rules : Rules
ledger_rules = record { header_of = header_of; next = next; takes = takes }

-- bytes that are none of a block are valid on no state
pub ledger_needs_header : NeedsHeader ledger_rules
ledger_needs_header state bytes none = ap (λ (said : Option Header). if is_some said then moved state (transfers_of bytes) else None) none
