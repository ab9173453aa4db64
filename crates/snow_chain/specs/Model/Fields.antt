-- Fields of a block: an identifier, and a number, at a place among its bytes.
use Rattle.std.specs.Prelude.{ℕ, List, take, drop}
use Rattle.byteorder.specs.Endian.{big_number}

-- the 32 bytes from a place on
abbrev pub id_at : List ℕ → ℕ → List ℕ
id_at bytes at = take 32 (drop at bytes)

-- the number in the 8 bytes from a place on, the highest first
abbrev pub number_at : List ℕ → ℕ → ℕ
number_at bytes at = big_number 8 (drop at bytes)
