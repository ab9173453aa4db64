-- Cases on tests, what a test of two identifiers says, and the next element of a list.
use Rattle.std.proofs.Common.{◌≡◌, ℕ, suc, ◌+◌, ◌<◌, Bool, true, false, ◌||◌, cond, List, [], ◌∷◌, length, get_or, drop, drop-cons, Option, Some, None, bytes_eq, if◌then◌else◌, ◌⊎◌, inl, inr, refl, sym, ap, ◌∙◌, arith}
use Rattle.std.proofs.lemmas.Slice.Eq.{bytes_eq-Decides}
use Rattle.std.specs.List.{list_any}
use Rattle.std.specs.Option.{option_eq}
use Rattle.std.proofs.lemmas.Bool.{true≢false, false_from_ne_true}

-- cases on a test
pub split_on : {P : Type 0} (b : Bool) → (b ≡ true → P) → (b ≡ false → P) → P
split_on true holds fails = holds refl
split_on false holds fails = fails refl

-- a test is not both
pub clash : {P : Type 0} (b : Bool) → b ≡ true → b ≡ false → P
clash b s t = absurd (true≢false (sym s ∙ t))

-- two identifiers that are found equal are one
pub same_id : (a b : List ℕ) → bytes_eq a b ≡ true → a ≡ b
same_id a b = (bytes_eq-Decides a b).0

-- equal identifiers are found equal
pub id_same : (a b : List ℕ) → a ≡ b → bytes_eq a b ≡ true
id_same a b = (bytes_eq-Decides a b).1

-- whichever of two identifiers is compared to the other
pub id_turned : (a b : List ℕ) → bytes_eq a b ≡ bytes_eq b a
id_turned a b =
    split_on (bytes_eq b a)
    (λ same. id_same a b (sym (same_id b a same)) ∙ sym same)
    (λ other. false_from_ne_true (bytes_eq a b) (λ same. clash (bytes_eq b a) (id_same b a (sym (same_id a b same))) other) ∙ sym other)

-- nothing, or one identifier, that is found equal to another is the same
pub same_need : (a b : Option (List ℕ)) → option_eq bytes_eq a b ≡ true → a ≡ b
same_need None None is = refl
same_need None (Some id) is = absurd (true≢false (sym is))
same_need (Some id) None is = absurd (true≢false (sym is))
same_need (Some id) (Some other) is = ap Some (same_id id other is)

-- in a list too
pub any_turned : (ids : List (List ℕ)) (id : List ℕ) → list_any (bytes_eq id) ids ≡ list_any (λ x. bytes_eq x id) ids
any_turned [] id = refl
any_turned (x ∷ ids) id = ap (λ t. t || list_any (bytes_eq id) ids) (id_turned id x) ∙ ap (λ t. bytes_eq x id || t) (any_turned ids id)

-- the only one of two
pub same_some : {X : Type 0} (a b : X) → Some a ≡ Some b → a ≡ b
same_some a b e = cc

-- one isn't none
pub not_none : {X P : Type 0} (a : X) → Some a ≡ None → P
not_none a e = cc

pub none_not : {X P : Type 0} (a : X) → None ≡ Some a → P
none_not a e = cc

-- which of two came
pub picked : {X : Type 0} (test : Bool) (x y : X) (rest : Option X) → (if test then Some x else rest) ≡ Some y → ((test ≡ true) × (x ≡ y)) ⊎ ((test ≡ false) × (rest ≡ Some y))
picked true x y rest e = inl (refl, same_some x y e)
picked false x y rest e = inr (refl, e)

-- neither came
pub passed : {X : Type 0} (test : Bool) (x : X) (rest : Option X) → (if test then Some x else rest) ≡ None → (test ≡ false) × (rest ≡ None)
passed true x rest e = not_none x e
passed false x rest e = (refl, e)

-- ---- one test or another

pub or_false : (b : Bool) → (b || false) ≡ b
or_false true = refl
or_false false = refl

pub or_assoc : (a b c : Bool) → ((a || b) || c) ≡ (a || (b || c))
or_assoc true b c = refl
or_assoc false b c = refl

-- ---- lists

-- the next of some
pub next_of : {A : Type 0} (xs : List A) (i : ℕ) (x : A) → i < length xs → x ≡ get_or xs i x → drop i xs ≡ x ∷ drop (i + 1) xs
next_of xs i x within is =
    let one : suc i ≡ i + 1 = omega arith in
    drop-cons xs i x within ∙ ap (λ y. y ∷ drop (suc i) xs) (sym is) ∙ ap (λ n. x ∷ drop n xs) one
