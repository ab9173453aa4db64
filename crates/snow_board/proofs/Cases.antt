-- Cases on tests, and what a test of two identifiers says.
use Rattle.std.proofs.Common.{◌≡◌, ℕ, Bool, true, false, List, bytes_eq, refl, sym, ◌∙◌}
use Rattle.std.proofs.lemmas.Slice.Eq.{bytes_eq-Decides}
use Rattle.std.proofs.lemmas.Bool.{true≢false}

-- cases on a test
pub split_on : {P : Type 0} (b : Bool) → (b ≡ true → P) → (b ≡ false → P) → P
split_on true holds fails = holds refl
split_on false holds fails = fails refl

-- a test is not both
pub clash : {P : Type 0} (b : Bool) → b ≡ true → b ≡ false → P
clash b s t = absurd (true≢false (sym s ∙ t))

-- two identifiers that are found equal are one
pub same_id : (a b : List ℕ) → bytes_eq a b ≡ true → a ≡ b
same_id a b = (bytes_eq-Decides a b).0

-- an identifier is found equal to itself
pub id_itself : (a : List ℕ) → bytes_eq a a ≡ true
id_itself a = (bytes_eq-Decides a a).1 refl

-- equal identifiers are found equal
pub id_same : (a b : List ℕ) → a ≡ b → bytes_eq a b ≡ true
id_same a b = (bytes_eq-Decides a b).1

-- identifiers that are found different are so the other way round
pub differs_back : (a b : List ℕ) → bytes_eq b a ≡ false → bytes_eq a b ≡ false
differs_back a b h = split_on (bytes_eq a b) (λ t. clash (bytes_eq b a) (id_same b a (sym (same_id a b t))) h) (λ t. t)
