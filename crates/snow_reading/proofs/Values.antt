-- Numbers read digit by digit.
use Rattle.std.proofs.Common.{◌≡◌, ℕ, ◌+◌, ◌-◌, ◌*◌, ◌^◌, ◌<◌, ◌≤◌, List, [], ◌∷◌, length, drop, get_or, Some, None, nat_lt, if◌then◌else◌, sym, ap, ◌∙◌, add-one, drop-cons, arith}
use Rattle.std.proofs.lemmas.Grind.{common_steps}
use Rattle.snow_reading.specs.Model.Reading.{value_after}

-- more digits never make less
pub value_grows : (n : ℕ) (cs : List ℕ) → n ≤ value_after n cs
value_grows n [] = omega arith
value_grows n (c ∷ cs) = let more = value_grows (n * 10 + (c - 48)) cs in omega (arith, more)

-- the digit at i is read
pub value_next : (n : ℕ) (word : List ℕ) (i : ℕ) (d : ℕ) → i < length word
    → value_after n (drop i word) ≡ value_after (n * 10 + (get_or word i d - 48)) (drop (i + 1) word)
value_next n word i d h = let here : drop i word ≡ get_or word i d ∷ drop (i + 1) word = rw add-one (drop-cons word i d h) in ap (value_after n) here

-- a number that is too large at the digit at i is too large at the end
pub value_too_large : (n : ℕ) (word : List ℕ) (i : ℕ) (d : ℕ) (all : ℕ) → i < length word → value_after n (drop i word) ≡ all
    → 2 ^ 64 ≤ n * 10 + (get_or word i d - 48) → 2 ^ 64 ≤ all
value_too_large n word i d all h e k =
    let more = value_grows (n * 10 + (get_or word i d - 48)) (drop (i + 1) word) in
    let same = sym (value_next n word i d h) ∙ e in
    omega (arith, more, same, k)

-- a number that is too large isn't given
pub limited_none : (n : ℕ) → 2 ^ 64 ≤ n → None ≡ (if nat_lt n (2 ^ 64) then Some n else None)
limited_none n h = grind (arith)

-- a number that fits is given
pub limited_some : (v n : ℕ) → v ≡ n → v < 2 ^ 64 → Some v ≡ (if nat_lt n (2 ^ 64) then Some n else None)
limited_some v n e h = grind (arith)

-- no digit is left
pub value_done : (n : ℕ) (word : List ℕ) (i all : ℕ) → length word ≤ i → value_after n (drop i word) ≡ all → n ≡ all
value_done n word i all h e = let none : drop i word ≡ [] = grind (arith, common_steps) in sym (ap (value_after n) none) ∙ e
