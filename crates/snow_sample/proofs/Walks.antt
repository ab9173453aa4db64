-- Lemmas on a walk of a class of items for the last one that passes a test, which those of other classes fail.
use Rattle.std.proofs.Common.{◌≡◌, ℕ, zero, suc, ◌-◌, ◌<◌, ◌≤◌, Bool, true, false, cond, List, [], ◌∷◌, length, get_or, map, fold, refl, sym, ap, ◌∙◌, arith}
use Rattle.std.proofs.lemmas.Bool.{both_ways, cond-true, cond-false, false_from_ne_true}
use Rattle.std.proofs.lemmas.List.{get_or_default, get_or-map, length-map}
use Rattle.snow_sample.specs.Kept.Chains.{AreChained}
use Rattle.snow_sample.proofs.Chains.{IsWalked, walk_begins, walk_on, walk_shorter}

-- the value of the last item that passes, else this one
abbrev pub last_of : {T A : Type 0} → (T → Bool) → (T → A) → A → List T → A
last_of passes value first xs = fold (λ v x. cond (passes x) (value x) v) first xs

-- where no item passes it is the first value
pub last_none : {T A : Type 0} (passes : T → Bool) (value : T → A) (first : A) (xs : List T)
    → ((k : ℕ) (d : T) → k < length xs → passes (get_or xs k d) ≡ false) → last_of passes value first xs ≡ first
last_none passes value first [] none = refl
last_none passes value first (x ∷ xs) none =
    ap (λ v. last_of passes value v xs) (cond-false (passes x) (value x) first (none 0 x (omega arith)))
    ∙ last_none passes value first xs (λ k d h. none (suc k) d (omega arith))

-- else it is that of the item that passes and behind which none does
pub last_here : {T A : Type 0} (passes : T → Bool) (value : T → A) (first : A) (xs : List T) (i : ℕ) (x : T) → i < length xs → x ≡ get_or xs i x
    → passes x ≡ true → ((k : ℕ) (d : T) → i < k → k < length xs → passes (get_or xs k d) ≡ false) → last_of passes value first xs ≡ value x
last_here passes value first [] i x h is pass later = absurd (omega arith)
last_here passes value first (y ∷ xs) zero x h is pass later =
    ap (λ v. last_of passes value v xs) (cond-true (passes y) (value y) first (ap passes (sym is) ∙ pass))
    ∙ last_none passes value (value y) xs (λ k d q. later (suc k) d (omega arith) (omega arith)) ∙ ap value (sym is)
last_here passes value first (y ∷ xs) (suc i) x h is pass later =
    last_here passes value (cond (passes y) (value y) first) xs i x (omega arith) is pass (λ k d low high. later (suc k) d (omega arith) (omega arith))

-- the item at a place passes
abbrev Passes : {T : Type 0} → (T → Bool) → List T → ℕ → Type 0
Passes {T} passes xs i = (d : T) → passes (get_or xs i d) ≡ true

-- a walk of a class for the items that pass came to a number
abbrev pub IsSought : {T : Type 0} → (T → ℕ) → (T → Bool) → ℕ → List T → ℕ → Type 0
IsSought class passes of xs number = IsWalked (map class xs) (Passes passes xs) of number

-- an item that passes is in the class
in_class : {T : Type 0} (class : T → ℕ) (passes : T → Bool) (of : ℕ) → ((x : T) → passes x ≡ true → class x ≡ of)
    → (xs : List T) (i : ℕ) → i < length (map class xs) → Passes passes xs i → get_or (map class xs) i 0 ≡ of
in_class class passes of one [] i h is = absurd (omega arith)
in_class class passes of one (x ∷ xs) zero h is = one x (is x)
in_class class passes of one (x ∷ xs) (suc i) h is = in_class class passes of one xs i (omega arith) is

-- it begins at the last item of the class
pub sought_begins : {T : Type 0} (class before : T → ℕ) (passes : T → Bool) (of : ℕ) → ((x : T) → passes x ≡ true → class x ≡ of)
    → (xs : List T) (lasts : List ℕ) (number : ℕ) → AreChained (map class xs) (map before xs) lasts → of < length lasts → number ≡ get_or lasts of 0
    → IsSought class passes of xs number
sought_begins class before passes of one xs lasts number chained small is =
    rw is (walk_begins (map class xs) (map before xs) lasts (Passes passes xs) of chained small (in_class class passes of one xs))

-- and goes on to the item before, which is nearer to the first
pub sought_on : {T : Type 0} (class before : T → ℕ) (passes : T → Bool) (of : ℕ) → ((x : T) → passes x ≡ true → class x ≡ of)
    → (xs : List T) (lasts : List ℕ) (number : ℕ) (x : T) → AreChained (map class xs) (map before xs) lasts → IsSought class passes of xs number
    → 0 < number → x ≡ get_or xs (number - 1) x → passes x ≡ false → IsSought class passes of xs (before x) × (before x < number)
sought_on class before passes of one xs lasts number x chained walked some is fail =
    let within : number ≤ length xs = omega (arith, walked.within, length-map xs class) in
    let read : before x ≡ get_or (map before xs) (number - 1) 0 = ap before is ∙ sym (get_or-map before xs (number - 1) x 0 (omega arith)) in (
      rw read (walk_on (map class xs) (map before xs) lasts (Passes passes xs) of number chained (in_class class passes of one xs) walked some
          (λ pass. both_ways (passes x) fail (ap passes is ∙ pass x))),
      rw read (walk_shorter (map class xs) (map before xs) lasts number chained some walked.within),
    )

-- no item of a greater number passes
pub none_later : {T : Type 0} (class : T → ℕ) (passes : T → Bool) (of : ℕ) (xs : List T) (number k : ℕ) (d : T) → IsSought class passes of xs number
    → number ≤ k → k < length xs → passes (get_or xs k d) ≡ false
none_later class passes of xs number k d walked low high =
    false_from_ne_true _ (λ pass. walked.others k low (omega (arith, length-map xs class)) (λ e. ap passes (get_or_default xs k e d high) ∙ pass))

-- it finds the last item that passes
pub sought_found : {T A : Type 0} (class : T → ℕ) (passes : T → Bool) (value : T → A) (first : A) (of : ℕ) (xs : List T) (number : ℕ) (x : T)
    → IsSought class passes of xs number → 0 < number → x ≡ get_or xs (number - 1) x → passes x ≡ true → value x ≡ last_of passes value first xs
sought_found class passes value first of xs number x walked some is pass =
    sym (last_here passes value first xs (number - 1) x (omega (arith, walked.within, length-map xs class)) is pass
    (λ k d low high. none_later class passes of xs number k d walked (omega arith) high))

-- or ends
pub sought_nowhere : {T A : Type 0} (class : T → ℕ) (passes : T → Bool) (value : T → A) (first : A) (of : ℕ) (xs : List T) (number : ℕ)
    → IsSought class passes of xs number → number ≤ 0 → first ≡ last_of passes value first xs
sought_nowhere class passes value first of xs number walked none =
    sym (last_none passes value first xs (λ k d high. none_later class passes of xs number k d walked (omega arith) high))
