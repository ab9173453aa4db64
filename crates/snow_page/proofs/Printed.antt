-- A line is its front, its list and its newline.
use Rattle.std.proofs.Common.{◌≡◌, ℕ, List, [], ◌∷◌, ◌++◌, flat_map, Option, Result, Ok, Err, refl, sym, ap, ◌∙◌, append_assoc}
use Rattle.std.specs.List.{join_with_byte}
use Rattle.std.specs.Result.{OnOk, OnErr}
use Rattle.snow_base.specs.Clauses.Outside.{AppendsFront}
use Rattle.snow_base.proofs.Known.{front_of_more}
use Rattle.snow_lines.specs.declared.line.Line.{Line}
use Rattle.snow_page.specs.Kept.Gathered.{Gathers}
use Rattle.snow_lines.specs.Model.Text.{fields, listed, name, spaced, text}
use Rattle.snow_page.proofs.Joined.{joined_both}
use Rattle.snow_page.proofs.Waiting.{gathers_then, gathers_then_front}

-- the three parts
text_parts : (l : Line) → join_with_byte 32 (name l ∷ fields l) ++ (flat_map spaced (listed l) ++ 10 ∷ []) ≡ text l
unfolding text
text_parts l =
    sym (append_assoc (join_with_byte 32 (name l ∷ fields l)) (flat_map spaced (listed l)) (10 ∷ []))
    ∙ ap (λ t. t ++ 10 ∷ []) (sym (joined_both (name l) (fields l) (listed l)))

-- the front, the list and the newline came
gathered_long : (l : Line) (a b c d : Option (List ℕ)) (w u v x t : List ℕ) → t ≡ join_with_byte 32 (name l ∷ fields l)
    → Gathers a w b u t → Gathers b u c v (flat_map spaced (listed l)) → Gathers c v d x (10 ∷ []) → Gathers a w d x (text l)
gathered_long l a b c d w u v x t e p q r =
    gathers_then a b d w u x t (flat_map spaced (listed l) ++ 10 ∷ []) _ p (gathers_then b c d u v x _ _ _ q r refl)
    (ap (λ s. s ++ (flat_map spaced (listed l) ++ 10 ∷ [])) e ∙ text_parts l)

-- the front failed
failed_first : (l : Line) (a b : Option (List ℕ)) (w t : List ℕ) → t ≡ join_with_byte 32 (name l ∷ fields l)
    → AppendsFront a b (w ++ t) → AppendsFront a b (w ++ text l)
failed_first l a b w t e p =
    front_of_more a b (w ++ t) (flat_map spaced (listed l) ++ 10 ∷ []) _ p
    (append_assoc w t _ ∙ ap (λ s. w ++ s) (ap (λ s. s ++ (flat_map spaced (listed l) ++ 10 ∷ [])) e ∙ text_parts l))

-- the list failed
failed_list : (l : Line) (a b c : Option (List ℕ)) (w u t : List ℕ) → t ≡ join_with_byte 32 (name l ∷ fields l)
    → Gathers a w b u t → AppendsFront b c (u ++ flat_map spaced (listed l)) → AppendsFront a c (w ++ text l)
failed_list l a b c w u t e p q =
    gathers_then_front a b c w u t (flat_map spaced (listed l) ++ 10 ∷ []) _ p
    (front_of_more b c (u ++ flat_map spaced (listed l)) (10 ∷ []) _ q (append_assoc u (flat_map spaced (listed l)) (10 ∷ [])))
    (ap (λ s. w ++ s) (ap (λ s. s ++ (flat_map spaced (listed l) ++ 10 ∷ [])) e ∙ text_parts l))

-- the newline failed
failed_last : (l : Line) (a b c d : Option (List ℕ)) (w u v t : List ℕ) → t ≡ join_with_byte 32 (name l ∷ fields l)
    → Gathers a w b u t → Gathers b u c v (flat_map spaced (listed l)) → AppendsFront c d (v ++ 10 ∷ []) → AppendsFront a d (w ++ text l)
failed_last l a b c d w u v t e p q r =
    gathers_then_front a b d w u t (flat_map spaced (listed l) ++ 10 ∷ []) _ p (gathers_then_front b c d u v _ _ _ q r refl)
    (ap (λ s. w ++ s) (ap (λ s. s ++ (flat_map spaced (listed l) ++ 10 ∷ [])) e ∙ text_parts l))

-- unless the call for the newline failed, the front, the list and the newline came
pub line_came : {T E : Type 0} (l : Line) (r : Result T E) (a b c d : Option (List ℕ)) (w u v x : List ℕ) → Gathers a w b u (join_with_byte 32 (name l ∷ fields l))
    → Gathers b u c v (flat_map spaced (listed l)) → OnOk r (Gathers c v d x (10 ∷ [])) → OnOk r (Gathers a w d x (text l))
line_came l (Ok k) a b c d w u v x p q s = gathered_long l a b c d w u v x _ refl p q s
line_came l (Err e) a b c d w u v x p q s = tt

-- the call for the front failed
pub front_failed : {T E : Type 0} (l : Line) (r : Result T E) (a b : Option (List ℕ)) (w : List ℕ) → AppendsFront a b (w ++ join_with_byte 32 (name l ∷ fields l))
    → OnErr r (AppendsFront a b (w ++ text l))
front_failed l (Ok k) a b w p = tt
front_failed l (Err e) a b w p = failed_first l a b w _ refl p

-- the call for the list failed
pub list_failed : {T E : Type 0} (l : Line) (r : Result T E) (a b c : Option (List ℕ)) (w u : List ℕ) → Gathers a w b u (join_with_byte 32 (name l ∷ fields l))
    → AppendsFront b c (u ++ flat_map spaced (listed l)) → OnErr r (AppendsFront a c (w ++ text l))
list_failed l (Ok k) a b c w u p q = tt
list_failed l (Err e) a b c w u p q = failed_list l a b c w u _ refl p q

-- where the call for the newline failed, a front of the line came
pub newline_failed : {T E : Type 0} (l : Line) (r : Result T E) (a b c d : Option (List ℕ)) (w u v : List ℕ) → Gathers a w b u (join_with_byte 32 (name l ∷ fields l))
    → Gathers b u c v (flat_map spaced (listed l)) → OnErr r (AppendsFront c d (v ++ 10 ∷ [])) → OnErr r (AppendsFront a d (w ++ text l))
newline_failed l (Ok k) a b c d w u v p q s = tt
newline_failed l (Err e) a b c d w u v p q s = failed_last l a b c d w u v _ refl p q s
