-- A slot tells the number of the entry that was put there last. Identifiers share a slot where their seats agree modulo the number of slots.
pub use Rattle.snow_map.specs.Kept.Seats.{seat_of}
use Rattle.std.specs.Prelude.{◌≡◌, ℕ, ◌%◌, ◌^◌, ◌<◌, List, get_or, length}

-- its slot among so many
abbrev pub slot_of : ℕ → List ℕ → ℕ
slot_of slots id = seat_of id % slots

-- what it is told, and 0 where there are no slots
abbrev pub hint_of : List ℕ → List ℕ → ℕ
hint_of slots id = get_or slots (slot_of (length slots) id) 0

-- a power of two
pub record IsPower (n : ℕ) : Type 0 where
  pub bits : ℕ
  pub is : n ≡ 2 ^ bits

-- there are as many slots as a power of two, if any
abbrev pub AreSlots : ℕ → Type 0
AreSlots slots = 0 < slots → IsPower slots
