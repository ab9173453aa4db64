-- The words of a line in a row, and those of its list behind the others.
use Rattle.std.proofs.Common.{◌≡◌, ℕ, List, [], ◌∷◌, ◌++◌, flat_map, map, Option, Result, refl, sym, ap, subst, ◌∙◌, append_assoc, append-nil}
use Rattle.std.specs.List.{join_with_byte}
use Rattle.std.specs.Result.{OnOk, OnErr}
use Rattle.snow_base.specs.Clauses.Outside.{AppendsFront}
use Rattle.snow_page.specs.Kept.Gathered.{Gathers}
use Rattle.snow_lines.specs.Model.Text.{spaced}

-- a word and further words
pub joined_more : (word : List ℕ) (more : List (List ℕ)) → join_with_byte 32 (word ∷ more) ≡ word ++ flat_map spaced more
joined_more word [] = sym (append-nil word)
joined_more word (next ∷ more) = ap (λ l. word ++ 32 ∷ l) (joined_more next more)

-- words and further words
pub joined_both : (word : List ℕ) (some more : List (List ℕ)) → join_with_byte 32 (word ∷ some ++ more) ≡ join_with_byte 32 (word ∷ some) ++ flat_map spaced more
joined_both word [] more = joined_more word more
joined_both word (next ∷ some) more =
    ap (λ l. word ++ 32 ∷ l) (joined_both next some more)
    ∙ sym (append_assoc word (32 ∷ join_with_byte 32 (next ∷ some)) (flat_map spaced more))

-- words made of items, each with a space in front
pub each_spaced : {A : Type 0} (word : A → List ℕ) (items : List A) → flat_map spaced (map word items) ≡ flat_map (λ x. spaced (word x)) items
each_spaced word [] = refl
each_spaced word (x ∷ items) = ap (λ l. spaced (word x) ++ l) (each_spaced word items)

-- the words of a list came
pub list_came : {A T E : Type 0} (word : A → List ℕ) (items seen : List A) (r : Result T E) (a b : Option (List ℕ)) (w u : List ℕ) → seen ≡ items
    → OnOk r (Gathers a w b u (flat_map (λ x. spaced (word x)) seen)) → OnOk r (Gathers a w b u (flat_map spaced (map word items)))
list_came word items seen r a b w u e p =
    subst (λ (t : List ℕ). OnOk r (Gathers a w b u t)) (ap (flat_map (λ x. spaced (word x))) e ∙ sym (each_spaced word items)) p

-- the call for them failed
pub list_failed : {A T E : Type 0} (word : A → List ℕ) (items seen : List A) (r : Result T E) (a b : Option (List ℕ)) (w : List ℕ) → seen ≡ items
    → OnErr r (AppendsFront a b (w ++ flat_map (λ x. spaced (word x)) seen)) → OnErr r (AppendsFront a b (w ++ flat_map spaced (map word items)))
list_failed word items seen r a b w e p =
    subst (λ (t : List ℕ). OnErr r (AppendsFront a b (w ++ t))) (ap (flat_map (λ x. spaced (word x))) e ∙ sym (each_spaced word items)) p
