-- Lemmas on bytes that are read eight at a time: their bits, and their order.
use Rattle.std.proofs.Common.{◌≡◌, ◌≢◌, ℕ, zero, suc, ◌+◌, ◌-◌, ◌*◌, ◌/◌, ◌%◌, ◌^◌, ◌<◌, ◌≤◌, ◌⊎◌, ◌==◌, if◌then◌else◌, List, [], ◌∷◌, length, get_or, Some, w64, refl, sym, ap, ◌∙◌, inl, inr, arith, Less, Equal, Greater}
use Rattle.std.specs.Cmp.Lexicographic.{slice_cmp, nat_list_cmp_total}
use Rattle.std.specs.Int.{bit_at, from_le_bytes, from_be_bytes}
use Rattle.std.specs.Ordering.{bool_cmp, nat_cmp, ordering_then, ordering_reverse}
use Rattle.std.proofs.lemmas.Bool.{cases_lt}
use Rattle.std.proofs.lemmas.Bool.Decides.{nat_tests}
use Rattle.std.proofs.lemmas.Nat.{div-add-mod', mod_below, pow_pos}
use Rattle.std.proofs.lemmas.Nat.Bits.{bit_at-lt, bit_at_cat_low, bit_at_cat_high, bit_at_above}
use Rattle.snow_base.specs.Model.Identifier.{bit, bit_cmp, AgreeFrom, FirstDiffers, eight_from}
use Rattle.snow_base.specs.Kept.Words.{high_first, IsWord}
use Rattle.snow_base.proofs.Bits.{bit_cmp-first, same_if_tested}

-- ---- the bits of eight bytes

-- the number whose n digits in base 256 are f k, f (k + 1) and so on, the first the lowest
abbrev low_first : (ℕ → ℕ) → ℕ → ℕ → ℕ
low_first f k zero = 0
low_first f k (suc n) = low_first f (suc k) n * 2 ^ 8 + f k

-- its bits are those of its digits
digit_bit : (f : ℕ → ℕ) (k n i : ℕ) → ((j : ℕ) → f j < 2 ^ 8) → i < 8 * n → bit_at (low_first f k n) i ≡ bit_at (f (k + i / 8)) (i % 8)
digit_bit f k zero i bytes h = absurd (omega arith)
digit_bit f k (suc n) i bytes h =
    elim (cases_lt i 8) [
      | inl low ↦
          let place : k ≡ k + i / 8 = omega arith in
          let rest : i ≡ i % 8 = omega arith in
          bit_at_cat_low (low_first f (suc k) n) 8 (f k) i low ∙ ap (λ j. bit_at (f j) i) place ∙ ap (bit_at (f (k + i / 8))) rest
      | inr high ↦
          let place : suc k + (i - 8) / 8 ≡ k + i / 8 = omega arith in
          let rest : (i - 8) % 8 ≡ i % 8 = omega arith in
          bit_at_cat_high (low_first f (suc k) n) 8 (f k) i (bytes k) high
          ∙ digit_bit f (suc k) n (i - 8) bytes (omega arith)
          ∙ ap (λ j. bit_at (f j) ((i - 8) % 8)) place ∙ ap (bit_at (f (k + i / 8))) rest
    ]

-- eight bytes of an identifier, the first the lowest, have 64 of its bits
pub word_is : (id : List ℕ) (at i n : ℕ) → i ≡ 8 * at → ((j : ℕ) → get_or id j 0 < 2 ^ 8)
    → n ≡ from_le_bytes w64 (eight_from id i)
    → IsWord id at n
word_is id at i n from bytes is k h =
    let f : ℕ → ℕ = λ j. get_or id (i + j) 0 in
    let here : get_or id (i + 0) 0 ≡ get_or id i 0 = ap (λ j. get_or id j 0) (omega arith) in
    let spelt : n ≡ low_first f 0 8 = is ∙ omega (arith, here) in
    let place : i + (0 + k / 8) ≡ (64 * at + k) / 8 = omega arith in
    let rest : k % 8 ≡ (64 * at + k) % 8 = omega arith in
    ap (λ b. b == 1)
    (ap (λ m. bit_at m k) spelt
    ∙ digit_bit f 0 8 k (λ j. bytes (i + j)) h
    ∙ ap (λ j. bit_at (get_or id j 0) (k % 8)) place
    ∙ ap (bit_at (get_or id ((64 * at + k) / 8) 0)) rest)

-- the bits above s
shifted : (n s i : ℕ) → bit_at (n / 2 ^ s) i ≡ bit_at n (s + i)
shifted n s i =
    let all : n ≡ n / 2 ^ s * 2 ^ s + n % 2 ^ s = sym (div-add-mod' n (2 ^ s)) in
    let back : s + i - s ≡ i = omega arith in
    sym (ap (λ m. bit_at m (s + i)) all ∙ bit_at_cat_high (n / 2 ^ s) s (n % 2 ^ s) (s + i) (mod_below n (2 ^ s) (pow_pos s)) (omega arith) ∙ ap (bit_at (n / 2 ^ s)) back)

-- bit i of an identifier, as a bit of a word without its lowest s bits
bit_in : (id : List ℕ) (at x s i : ℕ) → IsWord id at x → 64 * at + s ≤ i → i < 64 * at + 64 → bit id i ≡ (bit_at (x / 2 ^ s) (i - (64 * at + s)) == 1)
bit_in id at x s i word low high =
    let j = i - 64 * at in
    let place : 64 * at + j ≡ i = omega arith in
    let past : s + (i - (64 * at + s)) ≡ j = omega arith in
    sym (ap (λ b. b == 1) (shifted x s (i - (64 * at + s)) ∙ ap (bit_at x) past) ∙ word j (omega arith) ∙ ap (bit id) place)

-- words that are equal above bit s have no difference there
pub none_in_word : (a b : List ℕ) (at x y s from : ℕ) → IsWord a at x → IsWord b at y → from ≡ 64 * at + s → x / 2 ^ s ≡ y / 2 ^ s
    → AgreeFrom from (64 * at + 64) a b
none_in_word a b at x y s from wa wb start e k low high =
    bit_in a at x s k wa (omega arith) high
    ∙ ap (λ n. bit_at n (k - (64 * at + s)) == 1) e
    ∙ sym (bit_in b at y s k wb (omega arith) high)

-- the first difference of words above bit s is that of the identifiers
pub first_in_word : (a b : List ℕ) (at x y s from r : ℕ) → IsWord a at x → IsWord b at y → from ≡ 64 * at + s → x < 2 ^ 64 → y < 2 ^ 64
    → ((k : ℕ) → k < r → bit_at (x / 2 ^ s) k ≡ bit_at (y / 2 ^ s) k) → (bit_at (x / 2 ^ s) r ≢ bit_at (y / 2 ^ s) r)
    → FirstDiffers from (64 * at + 64) a b (Some (from + r))
first_in_word a b at x y s from r wa wb start p q below differs =
    let inside : s + r < 64 =
    elim (cases_lt (s + r) 64) [
      | inl h ↦ h
      | inr h ↦ absurd (differs (shifted x s r ∙ bit_at_above x 64 (s + r) p h ∙ sym (shifted y s r ∙ bit_at_above y 64 (s + r) q h)))
    ] in
    let same : AgreeFrom from (from + r) a b =
    λ k low high.
    bit_in a at x s k wa (omega arith) (omega arith)
    ∙ ap (λ n. n == 1) (below (k - (64 * at + s)) (omega arith))
    ∙ sym (bit_in b at y s k wb (omega arith) (omega arith)) in
    let place : from + r - (64 * at + s) ≡ r = omega arith in
    let here : (id : List ℕ) (z : ℕ) → IsWord id at z → bit id (from + r) ≡ (bit_at (z / 2 ^ s) r == 1) =
    λ id z w. bit_in id at z s (from + r) w (omega arith) (omega arith) ∙ ap (λ j. bit_at (z / 2 ^ s) j == 1) place in (
      omega arith,
      omega arith,
      same,
      λ e.
          differs (same_if_tested _ _ (bit_at-lt _ r) (bit_at-lt _ r) (sym (here a x wa) ∙ e ∙ here b y wb)),
    )

-- ---- bit order by words

-- the order of two bits that differ is told by the first
by_bit : (x y : ℕ) → x < 2 → y < 2 → (x ≢ y) → bool_cmp (x == 1) (y == 1) ≡ (if x == 0 then Less else Greater)
by_bit zero zero p q n = absurd (n refl)
by_bit zero (suc zero) p q n = refl
by_bit zero (suc (suc y)) p q n = absurd (omega arith)
by_bit (suc zero) zero p q n = refl
by_bit (suc zero) (suc zero) p q n = absurd (n refl)
by_bit (suc zero) (suc (suc y)) p q n = absurd (omega arith)
by_bit (suc (suc x)) y p q n = absurd (omega arith)

-- the lowest bit in which the first words differ decides bit order
pub bit_cmp-word : (a b : List ℕ) (x y i : ℕ) → IsWord a 0 x → IsWord b 0 y → i < 64
    → ((k : ℕ) → k < i → bit_at x k ≡ bit_at y k) → (bit_at x i ≢ bit_at y i)
    → bit_cmp a b ≡ (if bit_at x i == 0 then Less else Greater)
bit_cmp-word a b x y i wa wb h below differs =
    let first : (id : List ℕ) (z k : ℕ) → IsWord id 0 z → k < 64 → bit id k ≡ (bit_at z k == 1) =
    λ id z k w l. ap (bit id) (omega arith) ∙ sym (w k l) in
    bit_cmp-first a b i (omega arith)
    (λ k l. first a x k wa (omega arith) ∙ ap (λ n. n == 1) (below k l) ∙ sym (first b y k wb (omega arith)))
    (λ e. differs (same_if_tested _ _ (bit_at-lt x i) (bit_at-lt y i) (sym (first a x i wa h) ∙ e ∙ first b y i wb h)))
    ∙ ap (λ t. bool_cmp t (bit b i)) (first a x i wa h)
    ∙ ap (λ t. bool_cmp (bit_at x i == 1) t) (first b y i wb h)
    ∙ by_bit (bit_at x i) (bit_at y i) (bit_at-lt x i) (bit_at-lt y i) differs

-- ---- the order of bytes by words

-- f and g agree below n
abbrev Agree : (ℕ → ℕ) → (ℕ → ℕ) → ℕ → Type 0
Agree f g n = (k : ℕ) → k < n → f k ≡ g k

-- the first digit in which f and g differ is lower in f, and so is the number
abbrev IsLower : (ℕ → ℕ) → (ℕ → ℕ) → ℕ → Type 0
IsLower f g n = (i : ℕ) × (i < n) × Agree f g i × (f i < g i) × (high_first f n < high_first g n)

abbrev Settled : (ℕ → ℕ) → (ℕ → ℕ) → ℕ → Type 0
Settled f g n = (Agree f g n × (high_first f n ≡ high_first g n)) ⊎ (IsLower f g n ⊎ IsLower g f n)

lower_more : (f g : ℕ → ℕ) (n : ℕ) → f n < 256 → IsLower f g n → IsLower f g (suc n)
unfolding high_first
lower_more f g n p low =
    let less : high_first f n < high_first g n = low.4 in
    (low.0, omega (arith, low.1), low.2, low.3, omega arith)

last_lower : (f g : ℕ → ℕ) (n : ℕ) → Agree f g n → high_first f n ≡ high_first g n → f n < g n → IsLower f g (suc n)
unfolding high_first
last_lower f g n same e less = (n, omega arith, same, less, omega arith)

last_settles : (f g : ℕ → ℕ) (n : ℕ) → Agree f g n → high_first f n ≡ high_first g n → Settled f g (suc n)
unfolding high_first
last_settles f g n same e =
    elim (cases_lt (f n) (g n)) [
      | inl less ↦ inr (inl (last_lower f g n same e less))
      | inr most ↦ elim (cases_lt (g n) (f n)) [
        | inl less ↦ inr (inr (last_lower g f n (λ k h. sym (same k h)) (sym e) less))
        | inr least ↦
            let here : f n ≡ g n = omega arith in
            inl (λ k h. elim (cases_lt k n) [ inl l ↦ same k l | inr l ↦ let last : k ≡ n = omega arith in rw last here ], omega arith)
      ]
    ]

-- two numbers of n digits are equal where these agree, and else stand as the first digits that differ
settled : (f g : ℕ → ℕ) (n : ℕ) → ((k : ℕ) → f k < 256) → ((k : ℕ) → g k < 256) → Settled f g n
unfolding high_first
settled f g zero p q = inl (λ k h. absurd (omega arith), refl)
settled f g (suc n) p q =
    elim (settled f g n p q) [
      | inl same ↦ last_settles f g n same.0 same.1
      | inr apart ↦ elim apart [
        | inl low ↦ inr (inl (lower_more f g n (p n) low))
        | inr low ↦ inr (inr (lower_more g f n (q n) low))
      ]
    ]

-- the first byte that differs decides
lower_at : (a b : List ℕ) (i : ℕ) → i < length a → i < length b → ((k : ℕ) → k < i → get_or a k 0 ≡ get_or b k 0)
    → get_or a i 0 < get_or b i 0 → slice_cmp nat_cmp a b ≡ Less
lower_at [] b i p q same less = absurd (omega arith)
lower_at (x ∷ a) [] i p q same less = absurd (omega arith)
lower_at (x ∷ a) (y ∷ b) zero p q same less =
    let first : nat_cmp x y ≡ Less = grind (arith, nat_tests) in
    ap (λ o. ordering_then o (slice_cmp nat_cmp a b)) first
lower_at (x ∷ a) (y ∷ b) (suc i) p q same less =
    let here : x ≡ y = same 0 (omega arith) in
    let first : nat_cmp x y ≡ Equal = grind (arith, nat_tests) in
    ap (λ o. ordering_then o (slice_cmp nat_cmp a b)) first
    ∙ lower_at a b i (omega arith) (omega arith) (λ k h. same (suc k) (omega arith)) less

-- bytes that agree up to a place, and some from there on
agree_on : (a b : List ℕ) (from i : ℕ) → ((k : ℕ) → k < from → get_or a k 0 ≡ get_or b k 0)
    → ((k : ℕ) → k < i → get_or a (from + k) 0 ≡ get_or b (from + k) 0) → (k : ℕ) → k < from + i → get_or a k 0 ≡ get_or b k 0
agree_on a b from i first more k h =
    elim (cases_lt k from) [
      | inl l ↦ first k l
      | inr l ↦ let place : from + (k - from) ≡ k = omega arith in rw place at (more (k - from) (omega arith))
    ]

less_cmp : (x y : ℕ) → x < y → nat_cmp x y ≡ Less
less_cmp x y h = grind (arith, nat_tests)

greater_cmp : (x y : ℕ) → y < x → nat_cmp x y ≡ Greater
greater_cmp x y h = grind (arith, nat_tests)

module _ (a b : List ℕ) (from x y : ℕ) (long_a : from + 8 ≤ length a) (long_b : from + 8 ≤ length b)
    (bytes_a : (k : ℕ) → get_or a k 0 < 256) (bytes_b : (k : ℕ) → get_or b k 0 < 256)
    (first : (k : ℕ) → k < from → get_or a k 0 ≡ get_or b k 0)
    (is_x : x ≡ high_first (λ k. get_or a (from + k) 0) 8) (is_y : y ≡ high_first (λ k. get_or b (from + k) 0) 8) where
  all : Settled (λ k. get_or a (from + k) 0) (λ k. get_or b (from + k) 0) 8
  all = settled (λ k. get_or a (from + k) 0) (λ k. get_or b (from + k) 0) 8 (λ k. bytes_a (from + k)) (λ k. bytes_b (from + k))

  -- words that differ behind bytes that agree decide
  pub words_decide : x ≢ y → nat_cmp x y ≡ slice_cmp nat_cmp a b
  words_decide n =
      elim all [
        | inl same ↦ absurd (n (is_x ∙ same.1 ∙ sym is_y))
        | inr apart ↦ elim apart [
          | inl low ↦
              let less : high_first (λ k. get_or a (from + k) 0) 8 < high_first (λ k. get_or b (from + k) 0) 8 = low.4 in
              less_cmp x y (rw (is_x, is_y) less)
              ∙ sym (lower_at a b (from + low.0) (omega (arith, low.1)) (omega (arith, low.1)) (agree_on a b from low.0 first low.2) low.3)
          | inr low ↦
              let less : high_first (λ k. get_or b (from + k) 0) 8 < high_first (λ k. get_or a (from + k) 0) 8 = low.4 in
              greater_cmp x y (rw (is_x, is_y) less)
              ∙ sym (nat_list_cmp_total.antisymm a b
              ∙ ap ordering_reverse (lower_at b a (from + low.0) (omega (arith, low.1)) (omega (arith, low.1))
              (agree_on b a from low.0 (λ k h. sym (first k h)) low.2) low.3))
        ]
      ]

  -- and where they are equal the bytes agree on
  pub words_agree : x ≡ y → (k : ℕ) → k < from + 8 → get_or a k 0 ≡ get_or b k 0
  words_agree e =
      elim all [
        | inl same ↦ agree_on a b from 8 first same.0
        | inr apart ↦ elim apart [
          | inl low ↦
              let less : high_first (λ k. get_or a (from + k) 0) 8 < high_first (λ k. get_or b (from + k) 0) 8 = low.4 in
              absurd (omega (arith, is_x, is_y, e))
          | inr low ↦
              let less : high_first (λ k. get_or b (from + k) 0) 8 < high_first (λ k. get_or a (from + k) 0) 8 = low.4 in
              absurd (omega (arith, is_x, is_y, e))
        ]
      ]

-- eight bytes, the first the highest
pub high_is : (s : List ℕ) (i n : ℕ)
    → n ≡ from_be_bytes w64 (eight_from s i)
    → n ≡ high_first (λ k. get_or s (i + k) 0) 8
unfolding high_first
high_is s i n is =
    let here : get_or s (i + 0) 0 ≡ get_or s i 0 = ap (λ j. get_or s j 0) (omega arith) in
    is ∙ omega (arith, here)

-- and the first the lowest
pub low_is : (s : List ℕ) (i n : ℕ)
    → n ≡ from_le_bytes w64 (eight_from s i)
    → n ≡ high_first (λ k. get_or s (i + (7 - k)) 0) 8
unfolding high_first
low_is s i n is =
    let here : get_or s (i + 0) 0 ≡ get_or s i 0 = ap (λ j. get_or s j 0) (omega arith) in
    is ∙ omega (arith, here)

-- numbers of the same digits are equal
pub high_same : (f g : ℕ → ℕ) (n : ℕ) → Agree f g n → high_first f n ≡ high_first g n
unfolding high_first
high_same f g zero same = refl
high_same f g (suc n) same = rw (high_same f g n (λ k h. same k (omega arith)), same n (omega arith)) refl

-- and equal numbers have the same digits
pub same_high : (f g : ℕ → ℕ) (n : ℕ) → ((k : ℕ) → f k < 256) → ((k : ℕ) → g k < 256) → high_first f n ≡ high_first g n → Agree f g n
same_high f g n p q e =
    elim (settled f g n p q) [
      | inl same ↦ same.0
      | inr apart ↦ elim apart [
        | inl low ↦ absurd (omega (arith, low.4, e))
        | inr low ↦ absurd (omega (arith, low.4, e))
      ]
    ]
