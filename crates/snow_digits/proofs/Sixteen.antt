-- Digits of sixteen bytes at a time: looked up in the table, and put in order.
use Rattle.std.proofs.Common.{◌≡◌, ℕ, zero, suc, ◌+◌, ◌*◌, ◌/◌, ◌%◌, ◌^◌, ◌<◌, List, [], ◌∷◌, ◌++◌, map, length, drop, get_or, slice_index, replicate, bit_and, refl, sym, ap, ◌∙◌, arith, w8, Fits}
use Rattle.std.specs.Simd.Lanes.{zip2, pick_l, chunk, Each1}
use Rattle.std.proofs.lemmas.List.{get_or-map, length-map, ext_get_or, take_all}
use Rattle.std.proofs.lemmas.Nat.{and_le_r, and_mask}
use Rattle.std.proofs.lemmas.Simd.{Each1-all, Each1-weaker, Each1-zip2, Each2-splat, below_from_Fits, length-zip2, zip2_splat, swz_l, SwzOk, SwzOk-from_below, length-swz_l, get_or-swz_l_below}
use Rattle.hex.specs.Hex.{encode_lower, encode_with, lower_digits}

-- a vector of sixteen bytes
abbrev pub AreSixteen : List ℕ → Type 0
AreSixteen v = (length v ≡ 16) × Each1 (Fits w8) v

lane_fits : (v : List ℕ) (i : ℕ) → Each1 (Fits w8) v → get_or v i 0 < 256
lane_fits [] i h = omega arith
lane_fits (x ∷ xs) zero h = h.0.fits
lane_fits (x ∷ xs) (suc i) h = lane_fits xs i h.1

-- a shift to the right
abbrev pub down : ℕ → ℕ → ℕ
down a b = a / 2 ^ b

-- ---- places in the table

-- the high four bits are places
pub high_ok : (v : List ℕ) → AreSixteen v → SwzOk w8 16 16 0 (zip2 down v (replicate 16 4))
high_ok v fits =
    let small = Each1-weaker (λ a. a < 256) (λ a. a / 16 < 16) (λ a h. omega arith) v (below_from_Fits w8 v fits.1) in
    SwzOk-from_below w8 16 1 16 0 (zip2 down v (replicate 16 4)) refl (omega (arith, length-zip2 down v (replicate 16 4) fits.0))
    (Each1-zip2 down (λ j. j < 16) v (replicate 16 4) (Each2-splat (λ a b. down a b < 16) v 16 4 small))

-- the low four bits are places
pub low_ok : (v : List ℕ) → AreSixteen v → SwzOk w8 16 16 0 (zip2 bit_and v (replicate 16 15))
low_ok v fits =
    let small = Each1-all (λ a. bit_and a 15 < 16) (λ a. omega (arith, and_le_r a 15)) v in
    SwzOk-from_below w8 16 1 16 0 (zip2 bit_and v (replicate 16 15)) refl (omega (arith, length-zip2 bit_and v (replicate 16 15) fits.0))
    (Each1-zip2 bit_and (λ j. j < 16) v (replicate 16 15) (Each2-splat (λ a b. bit_and a b < 16) v 16 15 small))

-- the low four bits as a rest
pub low_bits : (v : List ℕ) → length v ≡ 16 → zip2 bit_and v (replicate 16 15) ≡ map (λ b. b % 16) v
low_bits v long = zip2_splat bit_and v 16 15 long ∙ (λ i. map (λ b. and_mask b 4 i) v)

-- a table that is read at places g x
pub looked_up : (t : List ℕ) (g : ℕ → ℕ) (v js : List ℕ) → AreSixteen v → js ≡ map g v → ((x : ℕ) → x < 256 → g x < 16)
    → swz_l w8 16 t 0 js ≡ map (λ x. slice_index t (g x)) v
looked_up t g v js fits e small =
    let long : length js ≡ 16 = ap length e ∙ length-map v g ∙ fits.0 in
    ext_get_or 0 _ _ (length-swz_l w8 16 t 0 js ∙ long ∙ sym (length-map v (λ x. slice_index t (g x)) ∙ fits.0)) (λ i h.
    let lt : i < 16 = omega (arith, length-swz_l w8 16 t 0 js) in
    let within : i < length v = omega (arith, fits.0) in
    let is : get_or js i 0 ≡ g (get_or v i 0) = ap (λ l. get_or l i 0) e ∙ get_or-map g v i 0 0 within in
    let below : get_or js i 0 < 16 = omega (arith, small (get_or v i 0) (lane_fits v i fits.1)) in
    let place : 16 * ((0 + i) / 16) + get_or js i 0 ≡ g (get_or v i 0) = omega arith in
    get_or-swz_l_below w8 16 t 0 js i (omega arith) below
    ∙ ap (λ k. get_or t k 0) place ∙ sym (get_or-map (λ x. slice_index t (g x)) v i 0 0 within))

-- ---- their order

-- the digits of the high and the low four bits in turn
pub in_turn : (v : List ℕ) → length v ≡ 16
    → pick_l 0 (map (λ b. slice_index lower_digits (b / 16)) v ++ map (λ b. slice_index lower_digits (b % 16)) v)
    (0 ∷ 16 ∷ 1 ∷ 17 ∷ 2 ∷ 18 ∷ 3 ∷ 19 ∷ 4 ∷ 20 ∷ 5 ∷ 21 ∷ 6 ∷ 22 ∷ 7 ∷ 23 ∷ [])
    ++ pick_l 0 (map (λ b. slice_index lower_digits (b / 16)) v ++ map (λ b. slice_index lower_digits (b % 16)) v)
    (8 ∷ 24 ∷ 9 ∷ 25 ∷ 10 ∷ 26 ∷ 11 ∷ 27 ∷ 12 ∷ 28 ∷ 13 ∷ 29 ∷ 14 ∷ 30 ∷ 15 ∷ 31 ∷ [])
    ≡ encode_lower v
unfolding encode_with
in_turn (a ∷ b ∷ c ∷ d ∷ e ∷ f ∷ g ∷ h ∷ i ∷ j ∷ k ∷ l ∷ m ∷ n ∷ o ∷ p ∷ []) long = refl
in_turn v long = absurd (omega arith)

-- the last eight of sixteen lanes, at their places
pub last_eight : (v : List ℕ) → length v ≡ 16 → pick_l 0 (v ++ v) (8 ∷ 9 ∷ 10 ∷ 11 ∷ 12 ∷ 13 ∷ 14 ∷ 15 ∷ []) ≡ drop 8 v
last_eight (a ∷ b ∷ c ∷ d ∷ e ∷ f ∷ g ∷ h ∷ i ∷ j ∷ k ∷ l ∷ m ∷ n ∷ o ∷ p ∷ []) long = refl
last_eight v long = absurd (omega arith)

-- a vector that was taken from a slice of its length
pub whole : (xs : List ℕ) → length xs ≡ 16 → chunk 0 16 xs ≡ xs
whole xs long = take_all 16 xs (omega arith)
