-- What contracts see of a chain: its rules, and the states of blocks that it holds.
use Rattle.std.specs.Prelude.{◌≡◌, ℕ, Bool, true, false, List, Option, Some, None, bytes_eq, IsSome, ⊤, Result, Ok, Err}
use Rattle.std.specs.Option.{option_and_then}
use Rattle.std.specs.FinMap.{FinMap, empty, get, insert, remove}
use Rattle.std.specs.Ordering.{nat_cmp}
use Rattle.std.specs.Cmp.Lexicographic.{slice_cmp}
use Rattle.snow_base.specs.declared.block.Header.{Header}
use Rattle.snow_chain.specs.declared.fault.ChainFault.{ChainFault}
use Rattle.snow_chain.specs.declared.fault.ChainFault.TheVariants as fault

-- a kind of blocks: what a block's bytes say of it; the state of a block, from its parent's state and its bytes, where the block is
-- valid; and with which states of the last accepted block a run may begin
pub record Rules : Type 0 where
  pub header_of : List ℕ → Option Header
  pub next : List ℕ → List ℕ → Option (List ℕ)
  pub takes : List ℕ → Bool

-- bytes that say nothing of a block are valid on no state
abbrev pub NeedsHeader : Rules → Type 0
NeedsHeader rules = (state bytes : List ℕ) → rules.header_of bytes ≡ None → rules.next state bytes ≡ None

-- states by identifier
abbrev pub States : Type 0
States = FinMap (slice_cmp nat_cmp) (List ℕ)

-- the last accepted block, and the states that are held
pub record Held : Type 0 where
  pub last : List ℕ
  pub states : States

-- the state that is held for a block
abbrev pub state_of : Held → List ℕ → Option (List ℕ)
state_of held id = get held.states id

-- the state of the last accepted block alone is held
abbrev pub begun : List ℕ → List ℕ → Held
begun last state = record { last = last; states = insert empty last state }

-- the state of a block with these bytes on a parent, where the parent's is held and the block is valid
abbrev pub next_on : Rules → Held → List ℕ → List ℕ → Option (List ℕ)
next_on rules held parent bytes = option_and_then (λ state. rules.next state bytes) (state_of held parent)

-- one state more is held
abbrev pub with_state : Held → List ℕ → List ℕ → Held
with_state held id state = record { last = held.last; states = insert held.states id state }

-- what is held once a block was verified: its state too, if it has one
abbrev pub verified : Held → List ℕ → Option (List ℕ) → Held
verified held id None = held
verified held id (Some state) = with_state held id state

-- a block is the last accepted one, and the state of the one before it goes
abbrev pub accepted : Held → List ℕ → Held
accepted held id = record { last = id; states = remove held.states held.last }

-- the state of a block goes
abbrev pub rejected : Held → List ℕ → Held
rejected held id = record { last = held.last; states = remove held.states id }

-- a block may be verified: its parent's state is held, and its own isn't
pub record MayVerify (held : Held) (parent id : List ℕ) : Type 0 where
  pub above : IsSome (state_of held parent)
  pub unknown : state_of held id ≡ None

-- a block may be rejected: its state is held, and it isn't the last accepted one
pub record MayReject (held : Held) (id : List ℕ) : Type 0 where
  pub known : IsSome (state_of held id)
  pub other : bytes_eq held.last id ≡ false

-- a block may be accepted: the same, and the state of the last accepted block is held
pub record MayAccept (held : Held) (id : List ℕ) : Type 0 where
  pub known : IsSome (state_of held id)
  pub other : bytes_eq held.last id ≡ false
  pub below : IsSome (state_of held held.last)

-- a chain began exactly where its rules take the state, unless memory ran out
abbrev pub Begins : {C : Type 0} → Result C ChainFault → Bool → Type 0
Begins (Ok chain) takes = takes ≡ true
Begins (Err fault.State) takes = takes ≡ false
Begins (Err fault.Memory) takes = ⊤
