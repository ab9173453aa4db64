-- Lemmas on the bits of bytes and identifiers, and on bit order.
use Rattle.std.proofs.Common.{◌≡◌, ◌≢◌, ℕ, zero, suc, ◌+◌, ◌*◌, ◌/◌, ◌%◌, ◌^◌, ◌<◌, ◌==◌, Bool, true, false, List, ◌∷◌, length, get_or, drop, map, bit_xor, w64, refl, sym, ap, ◌∙◌, inl, inr, arith, Ordering, Equal, eq-zero-or-pos, add-zero, zero-add, add-one, drop-cons, ext_get_or}
use Rattle.std.specs.Int.{bit_at, trailing_zeros}
use Rattle.std.specs.List.{range_with_len}
use Rattle.std.specs.Ordering.{bool_cmp, ordering_then}
use Rattle.std.specs.Cmp.Lexicographic.{slice_cmp, lists_total}
use Rattle.std.specs.FinMap.{IsAntisymmetric, slice_cmp-IsAntisymmetric}
use Rattle.std.proofs.lemmas.Bool.Decides.{nat_tests}
use Rattle.std.specs.Cmp.{IsTotalOrder, bool_cmp_total, on_total}
use Rattle.std.proofs.lemmas.Cmp.{tied_itself}
use Rattle.std.proofs.lemmas.Nat.{xor_lt}
use Rattle.std.proofs.lemmas.Nat.Bits.{bit_at-lt, bit_at_xor, bit_at-zero, bit_at-trailing_zeros, same_from_bits_below}
use Rattle.std.proofs.lemmas.List.FromFn.{length-map-range_with_len, get_or-map-range_with_len}
use Rattle.snow_base.specs.Model.Identifier.{bit, bits, bit_cmp}

-- ---- two numbers

same_bit : (x y : ℕ) → x < 2 → y < 2 → (x + y) % 2 ≡ 0 → x ≡ y
same_bit x y p q e = omega arith

other_bit : (x y : ℕ) → (x + y) % 2 ≡ 1 → x ≢ y
other_bit x y e s = omega arith

-- the exclusive or has a 0 where two numbers agree
agree_at : (a b k : ℕ) → bit_at (bit_xor a b) k ≡ 0 → bit_at a k ≡ bit_at b k
agree_at a b k h = same_bit (bit_at a k) (bit_at b k) (bit_at-lt a k) (bit_at-lt b k) (sym (bit_at_xor a b k) ∙ h)

-- and a 1 where they differ
differ_at : (a b k : ℕ) → bit_at (bit_xor a b) k ≡ 1 → bit_at a k ≢ bit_at b k
differ_at a b k h = other_bit (bit_at a k) (bit_at b k) (sym (bit_at_xor a b k) ∙ h)

xor_positive : (a b : ℕ) → a < 2 ^ 64 → b < 2 ^ 64 → a ≢ b → 0 < bit_xor a b
xor_positive a b p q n =
    elim (eq-zero-or-pos (bit_xor a b)) [
      | inl e ↦ absurd (n (same_from_bits_below 64 a b p q (λ k h. agree_at a b k (ap (λ x. bit_at x k) e ∙ bit_at-zero k))))
      | inr h ↦ h
    ]

-- the place of the lowest 1 of the exclusive or is the lowest bit in which two numbers differ
pub lowest : (a b : ℕ) → a < 2 ^ 64 → b < 2 ^ 64 → a ≢ b
    → (trailing_zeros w64 (bit_xor a b) < 64)
    × ((k : ℕ) → k < trailing_zeros w64 (bit_xor a b) → bit_at a k ≡ bit_at b k)
    × (bit_at a (trailing_zeros w64 (bit_xor a b)) ≢ bit_at b (trailing_zeros w64 (bit_xor a b)))
lowest a b p q n =
    let place = bit_at-trailing_zeros w64 (bit_xor a b) (xor_positive a b p q n) (xor_lt 64 a b p q) in
    (place.0, λ k h. agree_at a b k (place.2 k h), differ_at a b _ place.1)

-- ---- the bits of an identifier

-- an identifier has 256 bits
pub length-bits : (id : List ℕ) → length (bits id) ≡ 256
unfolding bits
length-bits id = length-map-range_with_len (bit id) 0 256

-- element i of the bits is bit i
pub get_or-bits : (id : List ℕ) (i : ℕ) (d : Bool) → i < 256 → get_or (bits id) i d ≡ bit id i
unfolding bits
get_or-bits id i d h = get_or-map-range_with_len (bit id) 0 256 i i d h (omega arith)

-- the bits from i on are bit i and those from i + 1 on
pub drop-bits : (id : List ℕ) (i : ℕ) → i < 256 → drop i (bits id) ≡ bit id i ∷ drop (i + 1) (bits id)
drop-bits id i h =
    let small : i < length (bits id) = rw length-bits h in
    rw add-one (drop-cons (bits id) i false small ∙ ap (λ b. b ∷ drop (suc i) (bits id)) (get_or-bits id i false h))

-- ---- bit order

pub bit_cmp-total : IsTotalOrder bit_cmp
bit_cmp-total = on_total bits (lists_total bool_cmp_total)

then_differing : (x y : Bool) (o : Ordering) → x ≢ y → ordering_then (bool_cmp x y) o ≡ bool_cmp x y
then_differing true true o n = absurd (n refl)
then_differing true false o n = refl
then_differing false true o n = refl
then_differing false false o n = absurd (n refl)

then_same : (x y : Bool) (o : Ordering) → x ≡ y → ordering_then (bool_cmp x y) o ≡ o
then_same true true o n = refl
then_same true false o n = cc
then_same false true o n = cc
then_same false false o n = refl

-- two lists of the values of functions compare as at the first place in which these differ
cmp_at_first : (f g : ℕ → Bool) (a n i : ℕ) → i < n → ((k : ℕ) → k < i → f (a + k) ≡ g (a + k)) → (f (a + i) ≢ g (a + i))
    → slice_cmp bool_cmp (map f (range_with_len a n)) (map g (range_with_len a n)) ≡ bool_cmp (f (a + i)) (g (a + i))
cmp_at_first f g a zero i h same other = absurd (omega arith)
cmp_at_first f g a (suc n) zero h same other = rw add-zero (then_differing (f a) (g a) _ (rw add-zero at other))
cmp_at_first f g a (suc n) (suc i) h same other =
    let next : (a + 1) + i ≡ a + suc i = omega arith in
    let here : f a ≡ g a = rw add-zero at (same 0 (omega arith)) in
    then_same (f a) (g a) _ here
    ∙ cmp_at_first f g (a + 1) n i (omega arith)
    (λ k p. let e : (a + 1) + k ≡ a + suc k = omega arith in rw e (same (suc k) (omega arith)))
    (rw next other)
    ∙ ap (λ j. bool_cmp (f j) (g j)) next

cmp_from_zero : (f g : ℕ → Bool) (n i : ℕ) → i < n → ((k : ℕ) → k < i → f k ≡ g k) → (f i ≢ g i)
    → slice_cmp bool_cmp (map f (range_with_len 0 n)) (map g (range_with_len 0 n)) ≡ bool_cmp (f i) (g i)
cmp_from_zero f g n i h same other =
    cmp_at_first f g 0 n i h (λ k p. rw zero-add (same k p)) (rw zero-add other) ∙ ap (λ j. bool_cmp (f j) (g j)) (zero-add i)

-- the first bit that differs decides bit order
pub bit_cmp-first : (a b : List ℕ) (i : ℕ) → i < 256 → ((k : ℕ) → k < i → bit a k ≡ bit b k) → (bit a i ≢ bit b i)
    → bit_cmp a b ≡ bool_cmp (bit a i) (bit b i)
unfolding bits
bit_cmp-first a b i h same other = cmp_from_zero (bit a) (bit b) 256 i h same other

-- identifiers whose bits agree are equal in bit order
pub bit_cmp-same : (a b : List ℕ) → ((k : ℕ) → k < 256 → bit a k ≡ bit b k) → bit_cmp a b ≡ Equal
bit_cmp-same a b h =
    let same : bits a ≡ bits b =
    ext_get_or false (bits a) (bits b) (length-bits a ∙ sym (length-bits b))
    (λ k p. let small : k < 256 = rw length-bits at p in get_or-bits a k false small ∙ h k small ∙ sym (get_or-bits b k false small)) in
    ap (λ x. slice_cmp bool_cmp (bits a) x) (sym same) ∙ tied_itself {R = bit_cmp} bit_cmp-total a

-- ---- bit order tells any two identifiers apart

bool_cmp-exact : IsAntisymmetric bool_cmp
bool_cmp-exact true true e = refl
bool_cmp-exact true false e = cc
bool_cmp-exact false true e = cc
bool_cmp-exact false false e = refl

pub same_if_tested : (x y : ℕ) → x < 2 → y < 2 → (x == 1) ≡ (y == 1) → x ≡ y
same_if_tested x y p q e = grind (arith, nat_tests)

byte_from_bits : (a b : List ℕ) → bits a ≡ bits b → (i : ℕ) → i < 32 → get_or a i 0 < 2 ^ 8 → get_or b i 0 < 2 ^ 8 → get_or a i 0 ≡ get_or b i 0
byte_from_bits a b same i h p q =
    same_from_bits_below 8 (get_or a i 0) (get_or b i 0) p q
    (λ j l. let small : i * 8 + j < 256 = omega arith in
    let place : (i * 8 + j) / 8 ≡ i = omega arith in
    let rest : (i * 8 + j) % 8 ≡ j = omega arith in
    let tested = sym (get_or-bits a (i * 8 + j) false small) ∙ ap (λ x. get_or x (i * 8 + j) false) same ∙ get_or-bits b (i * 8 + j) false small in
    same_if_tested _ _ (bit_at-lt _ j) (bit_at-lt _ j) (rw (place, rest) at tested))

-- only equal identifiers are equal in bit order
pub same_from_bit_cmp : (a b : List ℕ) → length a ≡ 32 → length b ≡ 32 → ((i : ℕ) → get_or a i 0 < 2 ^ 8) → ((i : ℕ) → get_or b i 0 < 2 ^ 8)
    → bit_cmp a b ≡ Equal → a ≡ b
same_from_bit_cmp a b la lb p q e =
    let same : bits a ≡ bits b = slice_cmp-IsAntisymmetric bool_cmp-exact (bits a) (bits b) e in
    ext_get_or 0 a b (la ∙ sym lb) (λ i h. let small : i < 32 = rw la at h in byte_from_bits a b same i small (p i) (q i))

-- the lemmas on an identifier's bits, under a name for `using`
pub ruleset identifier_bits = (length-bits, get_or-bits, drop-bits)
