-- How random words choose a number.
use Rattle.std.specs.Prelude.{◌≡◌, ℕ, ◌+◌, ◌-◌, ◌%◌, ◌^◌, List, [], ◌∷◌, ◌++◌, map, Bool, Option, Some, None, nat_le, ◌==◌, bit_and, if◌then◌else◌}
use Rattle.std.specs.List.{list_any, range_with_len}
use Rattle.byteorder.specs.Endian.{big_number}

-- the words that eight bytes each spell, the highest byte first
abbrev pub spelled : List (List ℕ) → List ℕ
spelled words = map (big_number 8) words

-- whether this is one of the powers of two from 2^0 to 2^63
unfoldable pub is_power : ℕ → Bool
is_power m = list_any (λ e. 2 ^ e == m) (range_with_len 0 64)

-- the bits of the next word that n has, and the words behind it
abbrev pub masked : ℕ → List ℕ → Option (ℕ × List ℕ)
masked n [] = None
masked n (word ∷ words) = Some (bit_and word n, words)

-- the low 63 bits of the first word that isn't passed over, modulo n + 1, and the words behind it;
-- passed over are the greatest 2^63 mod (n + 1) values, which would make some numbers likelier
abbrev pub reduced : ℕ → List ℕ → Option (ℕ × List ℕ)
reduced n [] = None
reduced n (word ∷ words) =
    let value = bit_and word (2 ^ 63 - 1) in
    if nat_le value (2 ^ 63 - 1 - 2 ^ 63 % (n + 1)) then Some (value % (n + 1), words) else reduced n words

-- a number from 0 to n, and the words that are left; none where a word past the last is asked for
abbrev pub choice : ℕ → List ℕ → Option (ℕ × List ℕ)
choice n words = if is_power (n + 1) then masked n words else reduced n words

-- some words were taken off the front, and these are left
pub record IsRest (words left : List ℕ) : Type 0 where
  pub taken : List ℕ
  pub is : taken ++ left ≡ words
