-- Lemmas on slots, of which there are as many as a power of two.
use Rattle.std.proofs.Common.{◌≡◌, ℕ, zero, suc, ◌+◌, ◌-◌, ◌*◌, ◌/◌, ◌%◌, ◌^◌, ◌<◌, List, ◌++◌, length, get_or, slice_range, bit_and, refl, sym, ap, subst, ◌∙◌, length-append, arith}
use Rattle.std.proofs.lemmas.List.{get_or_append_left, get_or-append_right, take_all}
use Rattle.std.proofs.lemmas.Nat.{and_mask, pow-add, mod-pow-add, mod_below, pow_pos}
use Rattle.snow_tree.specs.Kept.Hints.{seat_of, hint_of, IsPower}

-- the lowest bits of a seat are its slot
pub masked : (slots seat : ℕ) → IsPower slots → 0 < slots → slots < 2 ^ 64 → bit_and seat ((slots + (2 ^ 64 - 1)) % 2 ^ 64) ≡ seat % slots
masked slots seat power some small =
    let mask : (slots + (2 ^ 64 - 1)) % 2 ^ 64 ≡ slots - 1 = omega arith in
    ap (bit_and seat) (mask ∙ ap (λ n. n - 1) power.is) ∙ and_mask seat power.bits ∙ ap (λ n. seat % n) (sym power.is)

-- twice as many are a power of two again
twice : (bits : ℕ) → 2 ^ bits + 2 ^ bits ≡ 2 ^ (1 + bits)
twice bits = omega (arith, pow-add 2 1 bits)

pub twice_power : (slots : ℕ) → IsPower slots → IsPower (slots + slots)
twice_power slots power = record { bits = 1 + power.bits; is = ap (λ n. n + n) power.is ∙ twice power.bits }

-- a slot among twice as many is the same, or as far behind the middle
halves : (seat bits : ℕ) → seat % (2 ^ bits + 2 ^ bits) ≡ (seat / 2 ^ bits % 2 ^ 1) * 2 ^ bits + seat % 2 ^ bits
halves seat bits = ap (λ (n : ℕ). seat % n) (twice bits) ∙ mod-pow-add seat 1 bits

-- so slots that are appended to themselves tell what they told
pub told_twice : (slots id : List ℕ) → IsPower (length slots) → hint_of (slots ++ slots) id ≡ hint_of slots id
told_twice slots id power =
    let n = length slots in
    let seat = seat_of id in
    let some : 0 < n = omega (arith, power.is, pow_pos power.bits) in
    let at : seat % length (slots ++ slots) ≡ (seat / n % 2 ^ 1) * n + seat % n =
    ap (λ (k : ℕ). seat % k) (length-append slots slots) ∙ subst (λ (k : ℕ). seat % (k + k) ≡ (seat / k % 2 ^ 1) * k + seat % k) (sym power.is) (halves seat power.bits)
    in
    ap (λ k. get_or (slots ++ slots) k 0) at ∙ read (seat / n % 2 ^ 1) (seat % n) (omega arith) (mod_below seat n some)
  where
    read : (q r : ℕ) → q < 2 → r < length slots → get_or (slots ++ slots) (q * length slots + r) 0 ≡ get_or slots r 0
    read zero r few below = ap (λ k. get_or (slots ++ slots) k 0) (omega arith) ∙ get_or_append_left slots slots 0 r below
    read (suc zero) r few below =
        get_or-append_right slots slots (length slots) (1 * length slots + r) 0 refl (omega arith) ∙ ap (λ k. get_or slots k 0) (omega arith)
    read (suc (suc q)) r few below = absurd (omega arith)

-- what is read from the first to the last is all
pub whole : (slots : List ℕ) (count : ℕ) → count ≡ length slots → slots ++ slice_range slots 0 count ≡ slots ++ slots
whole slots count all = ap (λ l. slots ++ l) (ap (slice_range slots 0) all ∙ take_all (length slots - 0) slots (omega arith))
