-- The plain chain: a block is its identifier, its parent, its height, a flag, and any bytes behind. Each state is the empty list.
use Rattle.std.specs.Prelude.{ℕ, Bool, true, false, ◌&&◌, List, [], ◌∷◌, length, Option, Some, None, is_some, slice_index, nat_le, ◌==◌, if◌then◌else◌}
use mathlib.Core.Path.{ap}
use Rattle.snow_base.specs.declared.block.Header.{Header}
use Rattle.snow_chain.specs.Model.Chain.{Rules, NeedsHeader}
use Rattle.snow_chain.specs.Model.Fields.{id_at, number_at}

-- what the bytes of a block say of it, where they are long enough and the flag is 0 or 1
unfoldable pub header_of : List ℕ → Option Header
header_of bytes =
    if nat_le 73 (length bytes) && nat_le (slice_index bytes 72) 1
    then Some (record { id = id_at bytes 0; parent = id_at bytes 32; height = number_at bytes 64 })
    else None

-- whether a block is valid, which is where its flag is 1
abbrev pub is_valid : List ℕ → Bool
is_valid bytes = is_some (header_of bytes) && slice_index bytes 72 == 1

-- the state of a valid block, which is the empty list whatever its parent's is
abbrev pub next : List ℕ → List ℕ → Option (List ℕ)
next state bytes = if is_valid bytes then Some [] else None

-- a run begins with the empty list
abbrev pub takes : List ℕ → Bool
takes [] = true
takes (n ∷ ns) = false

-- the rules of the plain chain
abbrev pub plain_rules : Rules
plain_rules = record { header_of = header_of; next = next; takes = takes }

-- bytes that are none of a block are valid on no state
pub plain_needs_header : NeedsHeader plain_rules
plain_needs_header state bytes none =
    ap (λ (said : Option Header). if is_some said && slice_index bytes 72 == 1 then Some [] else None) none
