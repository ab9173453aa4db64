-- The seat of an identifier: a number that its ends tell.
use Rattle.std.specs.Prelude.{ℕ, ◌+◌, ◌*◌, ◌%◌, List, get_or}

-- the number that the first four bytes spell, the lowest first
unfoldable pub first_of : List ℕ → ℕ
first_of id = get_or id 0 0 + get_or id 1 0 * 256 + get_or id 2 0 * 65536 + get_or id 3 0 * 16777216

-- the number that the last four bytes spell, the highest first
unfoldable pub last_of : List ℕ → ℕ
last_of id = get_or id 31 0 + get_or id 30 0 * 256 + get_or id 29 0 * 65536 + get_or id 28 0 * 16777216

-- the seat of an identifier: its first four bytes and its last four, as numbers that are added
abbrev pub seat_of : List ℕ → ℕ
seat_of id = (first_of id + last_of id) % 4294967296

-- its seat among so many
abbrev pub place_of : ℕ → List ℕ → ℕ
place_of count id = seat_of id % count
