-- The tally chain: a block is its parent, its height, an amount, and any bytes behind, and its identifier is the digest of all its bytes.
-- A state is a sum and a cap that it doesn't pass.
use Rattle.std.specs.Prelude.{ℕ, ◌+◌, Bool, false, List, [], ◌∷◌, length, Option, Some, None, is_some, nat_le, if◌then◌else◌}
use mathlib.Core.Path.{ap}
use Rattle.sha2.specs.Sha256.{sha256}
use Rattle.snow_base.specs.declared.block.Header.{Header}
use Rattle.snow_chain.specs.Model.Chain.{Rules, NeedsHeader}
use Rattle.snow_chain.specs.Model.Fields.{id_at, number_at}

-- what the bytes of a block say of it, where they are long enough
unfoldable pub header_of : List ℕ → Option Header
header_of bytes =
    if nat_le 48 (length bytes)
    then Some (record { id = sha256 bytes; parent = id_at bytes 0; height = number_at bytes 32 })
    else None

-- the sum and the cap once an amount is added to the sum, as far as the cap lets it; other lists are no state
abbrev pub raised : List ℕ → ℕ → Option (List ℕ)
raised [] amount = None
raised (sum ∷ []) amount = None
raised (sum ∷ cap ∷ []) amount = if nat_le (sum + amount) cap then Some ((sum + amount) ∷ cap ∷ []) else None
raised (sum ∷ cap ∷ n ∷ ns) amount = None

-- the state of a valid block: its amount is added to its parent's sum
abbrev pub next : List ℕ → List ℕ → Option (List ℕ)
next state bytes = if is_some (header_of bytes) then raised state (number_at bytes 40) else None

-- a run begins with a sum and a cap, the sum at most the cap
abbrev pub takes : List ℕ → Bool
takes [] = false
takes (sum ∷ []) = false
takes (sum ∷ cap ∷ []) = nat_le sum cap
takes (sum ∷ cap ∷ n ∷ ns) = false

-- the rules of the tally chain
abbrev pub tally_rules : Rules
tally_rules = record { header_of = header_of; next = next; takes = takes }

-- bytes that are none of a block are valid on no state
pub tally_needs_header : NeedsHeader tally_rules
tally_needs_header state bytes none = ap (λ (said : Option Header). if is_some said then raised state (number_at bytes 40) else None) none
