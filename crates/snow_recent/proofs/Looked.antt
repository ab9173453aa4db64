-- What stands at a likely place, and before it, tells where an identifier's number stands or belongs.
use Rattle.std.proofs.Common.{◌≡◌, ℕ, zero, suc, ◌-◌, ◌<◌, ◌≤◌, true, false, ◌||◌, ◌==◌, List, [], ◌∷◌, length, get_or, Some, None, Ok, Err, Ordering, Less, Equal, Greater, is_lt, refl, sym, ap, ◌∙◌, arith, inl, inr}
use Rattle.std.specs.Option.{option_map_or}
use Rattle.std.specs.Ordering.{is_eq, is_gt, ordering_reverse}
use Rattle.std.proofs.lemmas.Bool.{cases_lt, or_cases, eqb-true}
use Rattle.std.proofs.lemmas.Cmp.{nat_list_cmp_total}
use Rattle.std.proofs.lemmas.Map.Lookups.{exact_bytes}
use Rattle.std.proofs.lemmas.Option.{slice_get-get_or}
use Rattle.snow_recent.specs.Kept.Index.{byte_cmp, order_at, IsRising, IsPlaceOf}
use Rattle.snow_recent.specs.Kept.Table.{IsLatest}
use Rattle.snow_recent.proofs.Filed.{flip, nowhere}

is_less : (o : Ordering) → is_lt o ≡ true → o ≡ Less
is_less Less h = refl
is_less Equal h = absurd cc
is_less Greater h = absurd cc

-- where one identifier isn't below the key, a higher one is above it
higher : (o : Ordering) (a b key : List ℕ) → byte_cmp a key ≡ o → is_lt o ≡ false → byte_cmp a b ≡ Less → byte_cmp b key ≡ Greater
higher Less a b key is low less = absurd cc
higher Equal a b key is low less =
    flip b key ∙ ap ordering_reverse (ap (λ i. byte_cmp i b) (sym (exact_bytes a key is)) ∙ less)
higher Greater a b key is low less =
    flip b key ∙ ap ordering_reverse (nat_list_cmp_total.trans key a b (flip key a ∙ ap ordering_reverse is) less)

is_equal : (o : Ordering) → is_eq o ≡ true → o ≡ Equal
is_equal Less h = absurd cc
is_equal Equal h = refl
is_equal Greater h = absurd cc

is_greater : (o : Ordering) → is_gt o ≡ true → o ≡ Greater
is_greater Less h = absurd cc
is_greater Equal h = absurd cc
is_greater Greater h = refl

-- within the numbers it is the order of the number
order_is : (id : ℕ → List ℕ) (numbers : List ℕ) (at d : ℕ) (key : List ℕ) → at < length numbers
    → order_at id numbers at key ≡ byte_cmp (id (get_or numbers at d)) key
order_is id numbers at d key h = ap (λ o. option_map_or (λ n. byte_cmp (id n) key) o Greater) (slice_get-get_or numbers at d h)

-- a number that is found to be equal is one of them
pub there : (id : ℕ → List ℕ) (numbers : List ℕ) (at : ℕ) (key : List ℕ) → is_eq (order_at id numbers at key) ≡ true → at < length numbers
there id [] at key is = absurd cc
there id (n ∷ numbers) zero key is = omega arith
there id (n ∷ numbers) (suc at) key is = omega (arith, there id numbers at key is)

-- the number has the identifier
pub found_at : (id : ℕ → List ℕ) (numbers : List ℕ) (at : ℕ) (key : List ℕ) → is_eq (order_at id numbers at key) ≡ true → IsPlaceOf id numbers key (Ok at)
found_at id numbers at key is =
    let h = there id numbers at key is in
    (h, λ d. sym (order_is id numbers at d key h) ∙ is_equal _ is)

-- or it belongs between this number and the one before
pub placed_at : (id : ℕ → List ℕ) (numbers : List ℕ) (at : ℕ) (key : List ℕ) → IsRising id numbers → at ≤ length numbers → is_gt (order_at id numbers at key) ≡ true
    → (at == 0 || is_lt (order_at id numbers (at - 1) key)) ≡ true → IsPlaceOf id numbers key (Err at)
placed_at id numbers at key rising within above below = (within, (lower, upper))
  where
    last_below : (d : ℕ) → 0 < at → byte_cmp (id (get_or numbers (at - 1) d)) key ≡ Less
    last_below d some =
        elim (or_cases (at == 0) (is_lt (order_at id numbers (at - 1) key)) below) [
          | inl none ↦ absurd (omega (arith, eqb-true at 0 none, some))
          | inr less ↦ sym (order_is id numbers (at - 1) d key (omega (arith, some, within))) ∙ is_less _ less
        ]

    lower : (k d : ℕ) → 0 ≤ k → k < at → byte_cmp (id (get_or numbers k d)) key ≡ Less
    lower k d _ h =
        let some : 0 < at = omega (arith, h) in
        elim (cases_lt k (at - 1)) [
          | inl before ↦ nat_list_cmp_total.trans (id (get_or numbers k d)) (id (get_or numbers (at - 1) d)) key
              (rising k (at - 1) d before (omega (arith, some, within))) (last_below d some)
          | inr behind ↦ let same : k ≡ at - 1 = omega (arith, h, behind) in ap (λ i. byte_cmp (id (get_or numbers i d)) key) same ∙ last_below d some
        ]

    upper : (k d : ℕ) → at ≤ k → k < length numbers → byte_cmp (id (get_or numbers k d)) key ≡ Greater
    upper k d low h =
        let first : byte_cmp (id (get_or numbers at d)) key ≡ Greater = sym (order_is id numbers at d key (omega (arith, low, h))) ∙ is_greater _ above in
        elim (cases_lt at k) [
          | inl before ↦ higher Greater (id (get_or numbers at d)) (id (get_or numbers k d)) key first refl (rising at k d before h)
          | inr behind ↦ let same : k ≡ at = omega (arith, low, behind) in ap (λ i. byte_cmp (id (get_or numbers i d)) key) same ∙ first
        ]

-- ---- what is told

-- the number at the place is that of the identifier
pub latest_found : (id : ℕ → List ℕ) (numbers : List ℕ) (key : List ℕ) (at n : ℕ) → IsPlaceOf id numbers key (Ok at) → n ≡ get_or numbers at n
    → IsLatest id numbers key (Some n)
latest_found id numbers key at n found is = ((at, found.0, sym is), ap id is ∙ exact_bytes _ _ (found.1 n))

-- and none has it where it only belongs
pub latest_missing : (id : ℕ → List ℕ) (numbers : List ℕ) (key : List ℕ) (at : ℕ) → IsPlaceOf id numbers key (Err at) → IsLatest id numbers key None
latest_missing id numbers key at missing = λ k d h. nowhere id numbers key at k d missing h
