-- Lemmas on sums over lists: term by term, over all numbers, and of items gathered by a key.
use Rattle.std.proofs.Common.{◌≡◌, ℕ, zero, suc, ◌+◌, ◌<◌, ◌≤◌, cond, List, [], ◌∷◌, ◌++◌, All, refl, ap, ◌∙◌, inl, inr, arith}
use Rattle.std.specs.Prelude.{◌==◌}
use Rattle.std.specs.List.{sum_by, range_with_len}
use Rattle.std.proofs.lemmas.Bool.{cases_Bool, cases_lt, eqb-true, eqb-false, ne_eqb}
use Rattle.std.proofs.lemmas.List.Elements.{All-head, All-tail}
use Rattle.std.proofs.lemmas.List.Sums.{sum_by-cons, sum_by_push}

-- equal terms have equal sums
pub sum_same : {X : Type 0} (f g : X → ℕ) (xs : List X) → ((x : X) → f x ≡ g x) → sum_by f xs ≡ sum_by g xs
sum_same f g [] same = refl
sum_same f g (x ∷ xs) same = omega (arith, sum_by-cons f x xs, sum_by-cons g x xs, same x, sum_same f g xs same)

-- the sum of sums of two terms
pub sum_plus : {X : Type 0} (f g : X → ℕ) (xs : List X) → sum_by (λ x. f x + g x) xs ≡ sum_by f xs + sum_by g xs
sum_plus f g [] = refl
sum_plus {X} f g (x ∷ xs) =
    let both : X → ℕ = λ x. f x + g x in
    omega (arith, sum_by-cons both x xs, sum_by-cons f x xs, sum_by-cons g x xs, sum_plus f g xs)

-- nothing adds up to nothing
pub sum_none : {X : Type 0} (xs : List X) → sum_by (λ (x : X). 0) xs ≡ 0
sum_none [] = refl
sum_none {X} (x ∷ xs) =
    let none : X → ℕ = λ x. 0 in
    omega (arith, sum_by-cons none x xs, sum_none xs)

-- a value at one number
abbrev pub at_one : ℕ → ℕ → ℕ → ℕ
at_one k value j = cond (k == j) value 0

-- no number from this one on is the one
sum_past : (k value a n : ℕ) → k < a → sum_by (at_one k value) (range_with_len a n) ≡ 0
sum_past k value a zero past = refl
sum_past k value a (suc n) past =
    let other : at_one k value a ≡ 0 = ap (λ b. cond b value 0) (ne_eqb k a (λ same. omega arith)) in
    omega (arith, sum_by-cons (at_one k value) a (range_with_len (a + 1) n), other, sum_past k value (a + 1) n (omega arith))

-- the sum over numbers among which the one is
pub sum_one : (k value a n : ℕ) → a ≤ k → k < a + n → sum_by (at_one k value) (range_with_len a n) ≡ value
sum_one k value a zero from below = absurd (omega arith)
sum_one k value a (suc n) from below =
    let head = sum_by-cons (at_one k value) a (range_with_len (a + 1) n) in
    elim (cases_Bool (k == a)) [
      | inl same ↦
          let here : at_one k value a ≡ value = ap (λ b. cond b value 0) same in
          let is = eqb-true k a same in
          omega (arith, head, here, sum_past k value (a + 1) n (omega arith))
      | inr differ ↦
          let other : at_one k value a ≡ 0 = ap (λ b. cond b value 0) differ in
          let isnt = eqb-false k a differ in
          omega (arith, head, other, sum_one k value (a + 1) n (omega arith) (omega arith))
    ]

-- items gathered by a key below n add up to what they add up to as a list
pub gathered : {X : Type 0} (key amount : X → ℕ) (n : ℕ) (xs : List X) → All (λ x. key x < n) xs
    → sum_by (λ k. sum_by (λ x. cond (key x == k) (amount x) 0) xs) (range_with_len 0 n) ≡ sum_by amount xs
gathered key amount n [] keys = sum_none (range_with_len 0 n)
gathered {X} key amount n (x ∷ xs) keys =
    let part : ℕ → X → ℕ = λ k x. cond (key x == k) (amount x) 0 in
    let first : ℕ → ℕ = λ k. part k x in
    let rest : ℕ → ℕ = λ k. sum_by (part k) xs in
    let whole : ℕ → ℕ = λ k. sum_by (part k) (x ∷ xs) in
    let split : sum_by whole (range_with_len 0 n) ≡ sum_by (λ k. first k + rest k) (range_with_len 0 n) =
    sum_same whole (λ k. first k + rest k) (range_with_len 0 n) (λ k. sum_by-cons (part k) x xs) in
    let one : sum_by first (range_with_len 0 n) ≡ amount x = sum_one (key x) (amount x) 0 n (omega arith)
    (let h : key x < n = All-head (λ x. key x < n) x xs keys in omega arith) in
    let others : sum_by rest (range_with_len 0 n) ≡ sum_by amount xs = gathered key amount n xs (All-tail (λ x. key x < n) x xs keys) in
    split ∙ omega (arith, sum_plus first rest (range_with_len 0 n), one, others, sum_by-cons amount x xs)

-- equal terms at each number have equal sums
pub sum_same_range : (f g : ℕ → ℕ) (a n : ℕ) → ((k : ℕ) → k < a + n → f k ≡ g k) → sum_by f (range_with_len a n) ≡ sum_by g (range_with_len a n)
sum_same_range f g a zero same = refl
sum_same_range f g a (suc n) same =
    let here : f a ≡ g a = same a (omega arith) in
    omega (
      arith,
      sum_by-cons f a (range_with_len (a + 1) n),
      sum_by-cons g a (range_with_len (a + 1) n),
      here,
      sum_same_range f g (a + 1) n (λ k below. same k (omega arith)),
    )

-- a range one longer ends with the next number
range_end : (a n : ℕ) → range_with_len a (suc n) ≡ range_with_len a n ++ (a + n) ∷ []
range_end a zero = ap (λ k. k ∷ []) (omega arith)
range_end a (suc n) =
    let last : a + 1 + n ≡ a + suc n = omega arith in
    ap (λ l. a ∷ l) (range_end (a + 1) n) ∙ ap (λ k. a ∷ (range_with_len (a + 1) n ++ k ∷ [])) last

-- the sum over a range one longer
pub sum_next : (f : ℕ → ℕ) (n : ℕ) → sum_by f (range_with_len 0 (n + 1)) ≡ sum_by f (range_with_len 0 n) + f n
sum_next f n =
    let last : 0 + n ≡ n = omega arith in
    let next : n + 1 ≡ suc n = omega arith in
    ap (λ k. sum_by f (range_with_len 0 k)) next ∙ ap (sum_by f) (range_end 0 n ∙ ap (λ k. range_with_len 0 n ++ k ∷ []) last)
    ∙ sum_by_push f (range_with_len 0 n) n

-- a sum over fewer numbers is no greater
pub sum_front : (f : ℕ → ℕ) (k n : ℕ) → k ≤ n → sum_by f (range_with_len 0 k) ≤ sum_by f (range_with_len 0 n)
sum_front f k zero front =
    let same : k ≡ 0 = omega arith in
    let e : sum_by f (range_with_len 0 k) ≡ sum_by f (range_with_len 0 0) = ap (λ j. sum_by f (range_with_len 0 j)) same in
    omega (arith, e)
sum_front f k (suc n) front =
    let next : suc n ≡ n + 1 = omega arith in
    let more : sum_by f (range_with_len 0 (suc n)) ≡ sum_by f (range_with_len 0 n) + f n = ap (λ j. sum_by f (range_with_len 0 j)) next ∙ sum_next f n in
    elim (cases_lt k (suc n)) [
      | inl fewer ↦ let rest = sum_front f k n (omega arith) in omega (arith, more, rest)
      | inr all ↦
          let same : k ≡ suc n = omega arith in
          let e : sum_by f (range_with_len 0 k) ≡ sum_by f (range_with_len 0 (suc n)) = ap (λ j. sum_by f (range_with_len 0 j)) same in
          omega (arith, e)
    ]
