-- The bits of an identifier, and the order that they give; eight bytes as a number.
use Rattle.std.specs.Prelude.{◌≡◌, ◌≢◌, ℕ, ◌+◌, ◌/◌, ◌%◌, ◌<◌, ◌≤◌, Bool, List, [], ◌∷◌, map, get_or, Option, Some, None, slice_index, ◌==◌}
use Rattle.std.specs.List.{range_with_len}
use Rattle.std.specs.Int.{bit_at, w64, from_le_bytes}
use Rattle.std.specs.Ordering.{bool_cmp}
use Rattle.std.specs.declared.cmp.Ordering.{Ordering}
use Rattle.std.specs.Cmp.Lexicographic.{slice_cmp}

-- bit i: bit i % 8, counted from the least significant, of byte i / 8
abbrev pub bit : List ℕ → ℕ → Bool
bit id i = bit_at (slice_index id (i / 8)) (i % 8) == 1

-- the 256 bits of an identifier, bit 0 first
unfoldable pub bits : List ℕ → List Bool
bits id = map (bit id) (range_with_len 0 256)

-- bit order: the first bit that differs decides, and a 0 stands before a 1
abbrev pub bit_cmp : List ℕ → List ℕ → Ordering
bit_cmp a b = slice_cmp bool_cmp (bits a) (bits b)

-- two identifiers have the same bits from one place up to, not including, another
abbrev pub AgreeFrom : ℕ → ℕ → List ℕ → List ℕ → Type 0
AgreeFrom from to a b = (k : ℕ) → from ≤ k → k < to → bit a k ≡ bit b k

-- the first bit between two places in which the two differ; none where they agree there
abbrev pub FirstDiffers : ℕ → ℕ → List ℕ → List ℕ → Option ℕ → Type 0
FirstDiffers from to a b None = AgreeFrom from to a b
FirstDiffers from to a b (Some i) = (from ≤ i) × (i < to) × AgreeFrom from i a b × (bit a i ≢ bit b i)

-- the eight bytes from a place on
abbrev pub eight_from : List ℕ → ℕ → List ℕ
eight_from bytes from =
    get_or bytes from 0 ∷ get_or bytes (from + 1) 0 ∷ get_or bytes (from + 2) 0 ∷ get_or bytes (from + 3) 0
    ∷ get_or bytes (from + 4) 0 ∷ get_or bytes (from + 5) 0 ∷ get_or bytes (from + 6) 0 ∷ get_or bytes (from + 7) 0 ∷ []

-- they as a number, the first one the lowest
abbrev pub word_at : ℕ → List ℕ → ℕ
word_at from bytes = from_le_bytes w64 (eight_from bytes from)
