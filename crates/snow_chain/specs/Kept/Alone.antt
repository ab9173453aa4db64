-- A chain that holds the state of its last accepted block alone.
use Rattle.std.specs.Prelude.{◌≡◌, ℕ, List, [], unwrap_or}
use Rattle.snow_chain.specs.Model.Chain.{Held, state_of, begun}

-- the state of the last accepted block
abbrev pub last_state : Held → List ℕ
last_state held = unwrap_or (state_of held held.last) []

-- a chain holds the state of its last accepted block and no other
abbrev pub IsAlone : Held → Type 0
IsAlone held = held ≡ begun held.last (last_state held)
