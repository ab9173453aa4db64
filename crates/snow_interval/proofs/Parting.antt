-- A list before a place, at it and behind it.
use Rattle.std.proofs.Common.{◌≡◌, ℕ, zero, suc, ◌<◌, List, [], ◌∷◌, ◌++◌, length, take, drop, get_or, refl, ap, arith}
use Rattle.std.proofs.Math.ListN.{set}
use Rattle.std.specs.List.{remove}

-- a list is what stands before a place, at it and behind it
pub parted : {X : Type 0} (xs : List X) (i : ℕ) (d : X) → i < length xs → xs ≡ take i xs ++ get_or xs i d ∷ drop (suc i) xs
parted [] i d h = absurd (omega arith)
parted (x ∷ xs) zero d h = refl
parted (x ∷ xs) (suc i) d h = ap (λ l. x ∷ l) (parted xs i d (omega arith))

-- another item at a place
pub set_parted : {X : Type 0} (xs : List X) (i : ℕ) (y : X) → i < length xs → set xs i y ≡ take i xs ++ y ∷ drop (suc i) xs
set_parted [] i y h = absurd (omega arith)
set_parted (x ∷ xs) zero y h = refl
set_parted (x ∷ xs) (suc i) y h = ap (λ l. x ∷ l) (set_parted xs i y (omega arith))

-- two items become one
pub removed_set : {X : Type 0} (xs : List X) (i : ℕ) (y : X) → suc i < length xs → set (remove xs (suc i)) i y ≡ take i xs ++ y ∷ drop (suc (suc i)) xs
removed_set [] i y h = absurd (omega arith)
removed_set (x ∷ xs) zero y h = refl
removed_set (x ∷ xs) (suc i) y h = ap (λ l. x ∷ l) (removed_set xs i y (omega arith))

-- what stands before the item that is taken out
pub removed_before : {X : Type 0} (xs : List X) (i : ℕ) (d : X) → suc i < length xs → get_or (remove xs (suc i)) i d ≡ get_or xs i d
removed_before [] i d h = absurd (omega arith)
removed_before (x ∷ xs) zero d h = refl
removed_before (x ∷ xs) (suc i) d h = removed_before xs i d (omega arith)

-- the items before the next place
pub before_next : {X : Type 0} (xs : List X) (i : ℕ) (d : X) → i < length xs → take (suc i) xs ≡ take i xs ++ get_or xs i d ∷ []
before_next [] i d h = absurd (omega arith)
before_next (x ∷ xs) zero d h = refl
before_next (x ∷ xs) (suc i) d h = ap (λ l. x ∷ l) (before_next xs i d (omega arith))
