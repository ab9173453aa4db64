-- The counting chain: a block is its identifier, its parent, its height and a number, and nothing behind. A state is a counter.
use Rattle.std.specs.Prelude.{ℕ, ◌+◌, Bool, true, false, List, [], ◌∷◌, length, Option, Some, None, is_some, ◌==◌, if◌then◌else◌}
use mathlib.Core.Path.{ap}
use Rattle.snow_base.specs.declared.block.Header.{Header}
use Rattle.snow_chain.specs.Model.Chain.{Rules, NeedsHeader}
use Rattle.snow_chain.specs.Model.Fields.{id_at, number_at}

-- what the bytes of a block say of it, where they are 80
unfoldable pub header_of : List ℕ → Option Header
header_of bytes =
    if length bytes == 80
    then Some (record { id = id_at bytes 0; parent = id_at bytes 32; height = number_at bytes 64 })
    else None

-- the counter that a number makes of a counter: the number, where it is the next one
abbrev pub counted : List ℕ → ℕ → Option (List ℕ)
counted [] number = None
counted (counter ∷ []) number = if number == counter + 1 then Some (number ∷ []) else None
counted (counter ∷ n ∷ ns) number = None

-- the state of a valid block: its number counts its parent's counter on
abbrev pub next : List ℕ → List ℕ → Option (List ℕ)
next state bytes = if is_some (header_of bytes) then counted state (number_at bytes 72) else None

-- a run begins with any counter
abbrev pub takes : List ℕ → Bool
takes [] = false
takes (counter ∷ []) = true
takes (counter ∷ n ∷ ns) = false

-- the rules of the counting chain
abbrev pub counting_rules : Rules
counting_rules = record { header_of = header_of; next = next; takes = takes }

-- bytes that are none of a block are valid on no state
pub counting_needs_header : NeedsHeader counting_rules
counting_needs_header state bytes none = ap (λ (said : Option Header). if is_some said then counted state (number_at bytes 72) else None) none
