-- Numbers as bytes: what is read is spelled so, and bytes stay bytes.
use Rattle.std.proofs.Common.{◌≡◌, ℕ, ◌+◌, ◌<◌, ◌≤◌, ◌%◌, ◌*◌, List, [], ◌∷◌, ◌++◌, length, take, sym, ap, ◌∙◌, arith, inl, inr}
use Rattle.std.proofs.lemmas.Bool.{cases_lt}
use Rattle.std.proofs.lemmas.List.{get_or-take, get_or_past, get_or-append-add, length-take}
use Rattle.std.proofs.lemmas.Nat.{be_bytes_2, be_bytes_4, be_bytes_8}
use Rattle.byteorder.specs.Endian.{big_bytes, big_number}
use Rattle.byteorder.specs.Numbers.{big_from-take}
use Rattle.snow_wire.specs.Model.Reading.{IsBytes}

-- the bytes in front are bytes
pub IsBytes-take : (n : ℕ) (bytes : List ℕ) → IsBytes bytes → IsBytes (take n bytes)
IsBytes-take n bytes h i =
    elim (cases_lt i n) [
      | inl lt ↦ rw (get_or-take n bytes i 0 lt) (h i)
      | inr le ↦ rw (get_or_past (take n bytes) i 0 (omega (arith, length-take n bytes))) (omega arith)
    ]

-- the bytes behind a front are bytes
pub IsBytes-behind : (front rest : List ℕ) → IsBytes (front ++ rest) → IsBytes rest
IsBytes-behind front rest h i = rw (← get_or-append-add front rest i 0) (h (length front + i))

-- so many bytes spell a number in one way
pub record IsWidth (n : ℕ) : Type 0 where
  pub back : (bytes : List ℕ) → length bytes ≡ n → IsBytes bytes → big_bytes n (big_number n bytes) ≡ bytes

one_byte : (bytes : List ℕ) → length bytes ≡ 1 → IsBytes bytes → big_bytes 1 (big_number 1 bytes) ≡ bytes
one_byte [] len fits = absurd (omega arith)
one_byte (b ∷ []) len fits =
    let lt : b < 256 = fits 0 in
    let e : (b * 1 + 0) % 256 ≡ b = omega arith in
    ap (λ (x : ℕ). x ∷ []) e
one_byte (b ∷ c ∷ bytes) len fits = absurd (omega arith)

pub width1 : IsWidth 1
width1 = record { back = one_byte }

pub width2 : IsWidth 2
width2 = record { back = λ bytes len fits. be_bytes_2 bytes (big_number 2 bytes) len fits (omega arith) }

pub width4 : IsWidth 4
width4 = record { back = λ bytes len fits. be_bytes_4 bytes (big_number 4 bytes) len fits (omega arith) }

pub width8 : IsWidth 8
width8 = record { back = λ bytes len fits. be_bytes_8 bytes (big_number 8 bytes) len fits (omega arith) }

-- the bytes in front are those of the number that they spell
pub front_spells : (n : ℕ) → IsWidth n → (bytes : List ℕ) → n ≤ length bytes → IsBytes bytes → big_bytes n (big_number n bytes) ≡ take n bytes
front_spells n width bytes long fits =
    let len : length (take n bytes) ≡ n = omega (arith, length-take n bytes) in
    ap (big_bytes n) (sym (big_from-take 0 n n bytes (omega arith))) ∙ width.back (take n bytes) len (IsBytes-take n bytes fits)
