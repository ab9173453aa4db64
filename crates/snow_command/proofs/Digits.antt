-- Where a digit gave no number, the rest give none.
use Rattle.std.proofs.Common.{◌≡◌, ◌∙◌, ℕ, ◌≤◌, List, [], ◌∷◌, fold, length, slice_index, Option, Some, None, refl, ap, arith}
use Rattle.snow_command.specs.Model.Words.{with_digit}

pub none_more : (most : ℕ) (digits : List ℕ) → fold (with_digit most) None digits ≡ None
none_more most [] = refl
none_more most (c ∷ digits) = none_more most digits

pub none_first : (most n : ℕ) (digits : List ℕ) → 1 ≤ length digits → with_digit most (Some n) (slice_index digits 0) ≡ None → fold (with_digit most) (Some n) digits ≡ None
none_first most n [] some e =
    let bad : ⊥ = omega arith in
    absurd bad
none_first most n (c ∷ digits) some e = ap (λ (o : Option ℕ). fold (with_digit most) o digits) e ∙ none_more most digits
