-- What a word looks like: a first `-`, and a first `=`.
use Rattle.std.proofs.Common.{◌≡◌, ◌≢◌, ℕ, ◌+◌, Bool, true, false, ◌==◌, List, [], ◌∷◌, length, Option, Some, None, option_map, refl, sym, ap, arith}
use Rattle.std.specs.Prelude.{MatchOption}
use Rattle.std.specs.Borrow.{Bor}
use Rattle.std.specs.List.{list_any, position_or_len}
use Rattle.std.proofs.lemmas.Bool.Decides.{nat_tests}
use Rattle.snow_command.specs.Model.Words.{Names, is_equals, option_form}
use Rattle.snow_command.specs.Kept.Request.{behind_dash}

-- the clause of `strip_prefix` at `-`
pub dash_from : (bs : List ℕ) (r : Option (Bor (List ℕ)))
    → MatchOption r ((rest : List ℕ) → bs ≢ 45 ∷ rest) (λ x. bs ≡ 45 ∷ x.now) → option_map (λ s. s.now) r ≡ behind_dash bs
dash_from [] None h = refl
dash_from [] (Some x) h = cc
dash_from (b ∷ bs) None h = go (b == 45) refl
  where
    go : (t : Bool) → (b == 45) ≡ t → None ≡ behind_dash (b ∷ bs)
    go true e = absurd (h bs (ap (λ n. n ∷ bs) (grind (arith, nat_tests))))
    go false e = rw e refl
dash_from (b ∷ bs) (Some x) h = sym (ap behind_dash h)

lacks_at : (p : ℕ → Bool) (x : ℕ) (xs : List ℕ) (t : Bool) → p x ≡ t → position_or_len p (x ∷ xs) ≡ length (x ∷ xs)
    → (position_or_len p xs ≡ length xs → list_any p xs ≡ false) → list_any p (x ∷ xs) ≡ false
lacks_at p x xs true e h rest =
    let bad : 0 ≡ length (x ∷ xs) = rw e at h in
    absurd (omega arith)
lacks_at p x xs false e h rest =
    let one : 1 + position_or_len p xs ≡ length (x ∷ xs) = rw e at h in
    rw e (rest (omega arith))

-- a test that no place passes
lacks : (p : ℕ → Bool) (xs : List ℕ) → position_or_len p xs ≡ length xs → list_any p xs ≡ false
lacks p [] h = refl
lacks p (x ∷ xs) h = lacks_at p x xs (p x) refl h (lacks p xs)

-- a name without `=`
pub name_alone : (option : List ℕ) → (length option == 0) ≡ false → position_or_len is_equals option ≡ length option
    → Names option ≡ option_form option
name_alone [] some h = cc
name_alone (c ∷ cs) some h = rw (lacks is_equals (c ∷ cs) h) refl
