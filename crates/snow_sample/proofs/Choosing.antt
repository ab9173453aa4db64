-- Lemmas on how words choose a number: powers of two, and the words that are left.
use Rattle.std.proofs.Common.{◌≡◌, ℕ, ◌+◌, ◌*◌, ◌/◌, ◌-◌, ◌%◌, ◌^◌, ◌<◌, ◌≤◌, Bool, true, false, List, [], ◌∷◌, ◌++◌, length, refl, sym, ap, ◌∙◌, arith, inl, inr, ◌==◌, Option, Some, None, cond, nat_le, bit_and, append_assoc}
use Rattle.std.specs.List.{list_any, range_with_len}
use Rattle.std.proofs.lemmas.Bool.{cases_Bool, cases_lt, cond-true, cond-false, eqb-true, le-leb, lt-leb}
use Rattle.std.proofs.lemmas.List.Folds.{Any-from_list_any}
use Rattle.std.proofs.lemmas.Nat.{and_le_r, and_mask, div-add-mod', pow-add}
use Rattle.std.proofs.Math.Nat.{add-mul, one-mul, mod-lt, mul-le-mul_right, mul-mod_left}
use Rattle.std.proofs.Math.Pow.{mod-mod-pow, pow_mono}
use Rattle.snow_sample.specs.Model.Words.{is_power, masked, reduced, choice, IsRest}

-- ---- powers of two

-- what is among so many powers is one
one_of : (k m : ℕ) → list_any (λ e. 2 ^ e == m) (range_with_len 0 k) ≡ true → (e : ℕ) × (m ≡ 2 ^ e)
one_of k m some =
    let power = Any-from_list_any (λ e. 2 ^ e == m) (range_with_len 0 k) some in
    (power.1, sym (eqb-true (2 ^ power.1) m power.4))

-- below 2^63 it divides that
power_divides : (e : ℕ) → 2 ^ e < 2 ^ 63 → (j : ℕ) × (63 ≡ j + e)
power_divides e small =
    elim (cases_lt e 63) [
      | inl less ↦ (63 - e, omega arith)
      | inr more ↦ absurd (omega (arith, small, pow_mono {i = 63} {j = e} (omega arith)))
    ]

-- ---- the rule for powers of two is that for other numbers

-- no word is passed over, and the remainder is the bits of n
same_rule : (n e : ℕ) (words : List ℕ) → n + 1 ≡ 2 ^ e → n + 1 < 2 ^ 63 → masked n words ≡ reduced n words
same_rule n e [] is small = refl
same_rule n e (word ∷ words) is small =
    let value = bit_and word (2 ^ 63 - 1) in
    let divides = power_divides e (omega (arith, is, small)) in
    let low : value ≡ word % 2 ^ 63 = and_mask word 63 in
    let remainder : value % (n + 1) ≡ bit_and word n =
    ap (λ m. value % m) is ∙ ap (λ v. v % 2 ^ e) low ∙ ap (λ k. word % 2 ^ k % 2 ^ e) divides.1 ∙ mod-mod-pow word divides.0 e
    ∙ sym (and_mask word e) ∙ ap (bit_and word) (omega (arith, is)) in
    let none : 2 ^ 63 % (n + 1) ≡ 0 =
    ap (λ m. 2 ^ 63 % m) is ∙ ap (λ k. 2 ^ k % 2 ^ e) divides.1 ∙ ap (λ m. m % 2 ^ e) (pow-add 2 divides.0 e) ∙ mul-mod_left (2 ^ divides.0) (2 ^ e) in
    let below : word % 2 ^ 63 < 2 ^ 63 = mod-lt word (omega arith) in
    sym (cond-true _ (Some (value % (n + 1), words)) (reduced n words) (le-leb _ _ (omega (arith, low, none, below))) ∙ ap (λ r. Some (r, words)) remainder)

-- so one rule is enough
pub choice_reduced : (n : ℕ) (words : List ℕ) → n + 1 < 2 ^ 63 → choice n words ≡ reduced n words
unfolding is_power
choice_reduced n words small =
    elim (cases_Bool (is_power (n + 1))) [
      | inl power ↦ let e = one_of 64 (n + 1) power in cond-true _ (masked n words) (reduced n words) power ∙ same_rule n e.0 words e.1 small
      | inr other ↦ cond-false _ (masked n words) (reduced n words) other
    ]

-- the values with the quotient of this one are below 2^63 just where it is below the last multiple of n + 1
same_pass : (n value : ℕ) → n + 1 < 2 ^ 63 → nat_le (value - value % (n + 1)) (2 ^ 63 - 1 - n) ≡ nat_le value (2 ^ 63 - 1 - 2 ^ 63 % (n + 1))
same_pass n value small =
    let m = n + 1 in
    let some : 0 < m = omega arith in
    let q = value / m in
    let blocks = 2 ^ 63 / m in
    let own : q * m + value % m ≡ value = div-add-mod' value m in
    let whole : blocks * m + 2 ^ 63 % m ≡ 2 ^ 63 = div-add-mod' (2 ^ 63) m in
    let below : value % m < m = mod-lt value some in
    let rest : 2 ^ 63 % m < m = mod-lt (2 ^ 63) some in
    let next : (q + 1) * m ≡ q * m + m = omega (arith, add-mul q 1 m, one-mul m) in
    elim (cases_lt q blocks) [
      | inl less ↦
          let up : (q + 1) * m ≤ blocks * m = mul-le-mul_right m (omega arith) in
          le-leb _ _ (omega arith) ∙ sym (le-leb _ _ (omega arith))
      | inr more ↦
          let up : blocks * m ≤ q * m = mul-le-mul_right m (omega arith) in
          lt-leb _ _ (omega arith) ∙ sym (lt-leb _ _ (omega arith))
    ]

-- a word is taken
pub taken : (n word : ℕ) (words : List ℕ) → n + 1 < 2 ^ 63
    → bit_and word (2 ^ 63 - 1) - bit_and word (2 ^ 63 - 1) % (n + 1) ≤ 2 ^ 63 - 1 - n
    → reduced n (word ∷ words) ≡ Some (bit_and word (2 ^ 63 - 1) % (n + 1), words)
taken n word words small h =
    let value = bit_and word (2 ^ 63 - 1) in
    cond-true _ (Some (value % (n + 1), words)) (reduced n words) (sym (same_pass n value small) ∙ le-leb _ _ h)

-- a word is passed over
pub passed : (n word : ℕ) (words : List ℕ) → n + 1 < 2 ^ 63
    → 2 ^ 63 - 1 - n < bit_and word (2 ^ 63 - 1) - bit_and word (2 ^ 63 - 1) % (n + 1) → reduced n (word ∷ words) ≡ reduced n words
passed n word words small h =
    let value = bit_and word (2 ^ 63 - 1) in
    cond-false _ (Some (value % (n + 1), words)) (reduced n words) (sym (same_pass n value small) ∙ lt-leb _ _ h)

-- ---- the words that are left

-- all words are left at first
pub rest_whole : (words : List ℕ) → IsRest words words
rest_whole words = record { taken = []; is = refl }

-- one more word is taken
pub rest_more : (words left : List ℕ) (word : ℕ) → IsRest words (word ∷ left) → IsRest words left
rest_more words left word rest = record { taken = rest.taken ++ word ∷ []; is = append_assoc rest.taken (word ∷ []) left ∙ rest.is }

-- the rest of a rest
pub rest_rest : (words some left : List ℕ) → IsRest words some → IsRest some left → IsRest words left
rest_rest words some left first second =
    record { taken = first.taken ++ second.taken; is = append_assoc first.taken second.taken left ∙ ap (λ l. first.taken ++ l) second.is ∙ first.is }

-- ---- what is chosen is small enough

-- the number of an answer
abbrev number_of : Option (ℕ × List ℕ) → ℕ
number_of None = 0
number_of (Some c) = c.0

-- a remainder is small enough
within_reduced : (n r : ℕ) (words left : List ℕ) → reduced n words ≡ Some (r, left) → r ≤ n
within_reduced n r [] left is = absurd (cc)
within_reduced n r (word ∷ words) left is =
    let value = bit_and word (2 ^ 63 - 1) in
    elim (nat_le value (2 ^ 63 - 1 - 2 ^ 63 % (n + 1))) as (λ (good : Bool). cond good (Some (value % (n + 1), words)) (reduced n words) ≡ Some (r, left) → r ≤ n) [
      | true ↦ λ h. let same : value % (n + 1) ≡ r = ap number_of h in omega arith
      | false ↦ λ h. within_reduced n r words left h
    ] is

-- so are some bits of n
within_masked : (n r : ℕ) (words left : List ℕ) → masked n words ≡ Some (r, left) → r ≤ n
within_masked n r [] left is = absurd (cc)
within_masked n r (word ∷ words) left is = let same : bit_and word n ≡ r = ap number_of is in omega (arith, and_le_r word n)

-- a number from 0 to n is chosen
pub choice_within : (n r : ℕ) (words left : List ℕ) → choice n words ≡ Some (r, left) → r ≤ n
choice_within n r words left is =
    elim (is_power (n + 1)) as (λ (power : Bool). cond power (masked n words) (reduced n words) ≡ Some (r, left) → r ≤ n) [
      | true ↦ within_masked n r words left
      | false ↦ within_reduced n r words left
    ] is

-- ---- a choice takes a word

-- how many words an answer leaves
abbrev left_of : Option (ℕ × List ℕ) → ℕ
left_of None = 0
left_of (Some c) = length c.1

-- fewer words are left by a remainder
fewer_reduced : (n r : ℕ) (words left : List ℕ) → reduced n words ≡ Some (r, left) → length left < length words
fewer_reduced n r [] left is = absurd (cc)
fewer_reduced n r (word ∷ words) left is =
    let value = bit_and word (2 ^ 63 - 1) in
    elim (nat_le value (2 ^ 63 - 1 - 2 ^ 63 % (n + 1))) as (λ (good : Bool). cond good (Some (value % (n + 1), words)) (reduced n words) ≡ Some (r, left) → length left < length (word ∷ words)) [
      | true ↦ λ h. let same : length words ≡ length left = ap left_of h in omega (arith, same)
      | false ↦ λ h. omega (arith, fewer_reduced n r words left h)
    ] is

-- and by some bits
fewer_masked : (n r : ℕ) (words left : List ℕ) → masked n words ≡ Some (r, left) → length left < length words
fewer_masked n r [] left is = absurd (cc)
fewer_masked n r (word ∷ words) left is = let same : length words ≡ length left = ap left_of is in omega (arith, same)

pub choice_fewer : (n r : ℕ) (words left : List ℕ) → choice n words ≡ Some (r, left) → length left < length words
choice_fewer n r words left is =
    elim (is_power (n + 1)) as (λ (power : Bool). cond power (masked n words) (reduced n words) ≡ Some (r, left) → length left < length words) [
      | true ↦ fewer_masked n r words left
      | false ↦ fewer_reduced n r words left
    ] is
