-- What a map has: entries of an identifier and a value, in no order that is told.
use Rattle.std.specs.Prelude.{◌≡◌, ℕ, List, Option, bytes_eq, if◌then◌else◌}
use Rattle.std.specs.Map.{lookup}

-- the value at an identifier
abbrev pub value_of : {V : Type 0} → List (List ℕ × V) → List ℕ → Option V
value_of entries id = lookup (bytes_eq id) entries

-- the entries now have this at an identifier, and at each other one what they had before
abbrev pub HasAt : {V : Type 0} → List (List ℕ × V) → List (List ℕ × V) → List ℕ → Option V → Type 0
HasAt before now id value = (q : List ℕ) → value_of now q ≡ (if bytes_eq id q then value else value_of before q)
