-- Bytes with a last byte behind them, compared with others that have a newline there.
use Rattle.std.proofs.Common.{◌≡◌, ◌≢◌, ℕ, Bool, true, false, ◌&&◌, List, [], ◌∷◌, ◌++◌, nat_eq, bytes_eq, refl, ap, ◌∙◌, arith}
use Rattle.std.proofs.lemmas.Bool.Decides.{nat_tests}

never : (b : Bool) → (b && false) ≡ false
never true = refl
never false = refl

same_number : (n : ℕ) (b : Bool) → (nat_eq n n && b) ≡ b
same_number n b = ap (λ (t : Bool). t && b) (is_same n)
  where
    is_same : (n : ℕ) → nat_eq n n ≡ true
    is_same n = grind (arith, nat_tests)

other_number : (n m : ℕ) (b : Bool) → m ≢ n → (nat_eq n m && b) ≡ false
other_number n m b e = ap (λ (t : Bool). t && b) (is_other e)
  where
    is_other : m ≢ n → nat_eq n m ≡ false
    is_other e = grind (arith, nat_tests)

-- no bytes have none
none_left : (f : List ℕ) (a : ℕ) → bytes_eq [] (f ++ a ∷ []) ≡ false
none_left [] a = refl
none_left (x ∷ f) a = refl

pub none_right : (r : List ℕ) (a : ℕ) → bytes_eq (r ++ a ∷ []) [] ≡ false
none_right [] a = refl
none_right (x ∷ r) a = refl

same_last : (r f : List ℕ) (a : ℕ) → bytes_eq (r ++ a ∷ []) (f ++ a ∷ []) ≡ bytes_eq r f
same_last [] [] a = same_number a (bytes_eq [] [])
same_last [] (y ∷ f) a = ap (λ (t : Bool). nat_eq a y && t) (none_left f a) ∙ never (nat_eq a y)
same_last (x ∷ r) [] a = ap (λ (t : Bool). nat_eq x a && t) (none_right r a) ∙ never (nat_eq x a)
same_last (x ∷ r) (y ∷ f) a = ap (λ (t : Bool). nat_eq x y && t) (same_last r f a)

other_last : (r f : List ℕ) (a b : ℕ) → b ≢ a → bytes_eq (r ++ a ∷ []) (f ++ b ∷ []) ≡ false
other_last [] [] a b e = other_number a b (bytes_eq [] []) e
other_last [] (y ∷ f) a b e = ap (λ (t : Bool). nat_eq a y && t) (none_left f b) ∙ never (nat_eq a y)
other_last (x ∷ r) [] a b e = ap (λ (t : Bool). nat_eq x b && t) (none_right r a) ∙ never (nat_eq x b)
other_last (x ∷ r) (y ∷ f) a b e = ap (λ (t : Bool). nat_eq x y && t) (other_last r f a b e) ∙ never (nat_eq x y)

-- with the newline
pub newline : (r f : List ℕ) (last : ℕ) → last ≡ 10 → bytes_eq (r ++ 10 ∷ []) (f ++ last ∷ []) ≡ bytes_eq r f
newline r f last e = ap (λ (n : ℕ). bytes_eq (r ++ 10 ∷ []) (f ++ n ∷ [])) e ∙ same_last r f 10

pub other : (r f : List ℕ) (last : ℕ) → last ≢ 10 → bytes_eq (r ++ 10 ∷ []) (f ++ last ∷ []) ≡ false
other r f last e = other_last r f 10 last e
