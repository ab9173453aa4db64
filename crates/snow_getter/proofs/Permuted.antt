-- A test that at most one item passes: the items that pass stay the same where items change places.
use Rattle.std.proofs.Common.{◌≡◌, ◌≤◌, Bool, true, false, cond, List, [], ◌∷◌, filter, length, refl, sym, ap, subst, ◌∙◌, arith}
use Rattle.std.specs.List.{AllByRecursion}
use Rattle.std.specs.List.Sorted.{IsPermutation}
use Rattle.std.proofs.lemmas.List.Elements.{All-filter, All-from_recursion, recursion_from_All, filter_passes}
use Rattle.std.proofs.lemmas.List.Sums.{length-filter}
use Rattle.std.proofs.lemmas.List.Sorted.{All-permutation, sum_by-IsPermutation}

module _ {X : Type 0} (p : X → Bool) where
  -- what passes is this item
  abbrev IsOnly : X → X → Type 0
  IsOnly only x = p x ≡ true → x ≡ only

  none_passes : (xs : List X) (only : X) → filter p xs ≡ [] → AllByRecursion (IsOnly only) xs
  none_passes [] only none = tt
  none_passes (x ∷ xs) only none =
      (elim (p x) as (λ b. p x ≡ b → cond b (x ∷ filter p xs) (filter p xs) ≡ [] → AllByRecursion (IsOnly only) (x ∷ xs)) [
        | true ↦ λ e none. absurd cc
        | false ↦ λ e none. ((λ t. absurd (let z : true ≡ false = sym t ∙ e in cc)), none_passes xs only none)
      ]) refl none

  only_passes : (xs : List X) (only : X) → filter p xs ≡ only ∷ [] → AllByRecursion (IsOnly only) xs
  only_passes [] only is = absurd cc
  only_passes (x ∷ xs) only is =
      (elim (p x) as (λ b. p x ≡ b → cond b (x ∷ filter p xs) (filter p xs) ≡ only ∷ [] → AllByRecursion (IsOnly only) (x ∷ xs)) [
        | true ↦ λ e is. let here : x ≡ only = cc in let none : filter p xs ≡ [] = cc in ((λ t. here), none_passes xs only none)
        | false ↦ λ e is. ((λ t. absurd (let z : true ≡ false = sym t ∙ e in cc)), only_passes xs only is)
      ]) refl is

  pub only_one_stays : (xs ys : List X) → IsPermutation xs ys → length (filter p xs) ≤ 1 → filter p xs ≡ filter p ys
  only_one_stays xs ys moved few = by (filter p xs) refl (filter p ys) refl
    where
      same : length (filter p ys) ≡ length (filter p xs)
      same = length-filter p ys ∙ sum_by-IsPermutation (λ x. cond (p x) 1 0) xs ys moved ∙ sym (length-filter p xs)

      by : (l : List X) → filter p xs ≡ l → (m : List X) → filter p ys ≡ m → l ≡ m
      by [] e [] f = refl
      by [] e (y ∷ m) f = let a = ap length e in let b = ap length f in absurd (omega (arith, a, b, same))
      by (x ∷ l) e [] f = let a = ap length e in let b = ap length f in absurd (omega (arith, a, b, same))
      by (x ∷ []) e (y ∷ []) f =
          let each = All-permutation (IsOnly x) xs ys moved (All-from_recursion (IsOnly x) xs (only_passes xs x e)) in
          let found = recursion_from_All (IsOnly x) (filter p ys) (All-filter p (IsOnly x) ys each) in
          let passes = recursion_from_All (λ y. p y ≡ true) (filter p ys) (filter_passes p ys) in
          let here = subst (λ l. AllByRecursion (IsOnly x) l) f found in
          let there = subst (λ l. AllByRecursion (λ y. p y ≡ true) l) f passes in
          ap (λ z. z ∷ []) (sym (here.0 there.0))
      by (x ∷ x' ∷ l) e m f = let a = ap length e in absurd (omega (arith, a, few))
      by l e (y ∷ y' ∷ m) f = let a = ap length f in absurd (omega (arith, a, few, same))
