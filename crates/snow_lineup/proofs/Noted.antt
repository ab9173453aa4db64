-- Lemmas on rows: the places of each key.
use Rattle.std.proofs.Common.{◌≡◌, ℕ, ◌==◌, Bool, true, false, not, ◌||◌, cond, List, [], ◌∷◌, ◌++◌, Option, Some, None, refl, sym, ap, ◌∙◌}
use Rattle.std.specs.Option.{option_to_list}
use Rattle.std.proofs.lemmas.Bool.{ne_eqb, eqb-true}
use Rattle.std.proofs.lemmas.List.{append_assoc}
use Rattle.std.proofs.lemmas.List.Folds.{list_any-append}
use Rattle.snow_lineup.specs.Kept.Index.{has_place, left_by}
use Rattle.snow_map.proofs.Booleans.{or_false}

-- ---- what a row has

pub has_pushed : (row : List ℕ) (place other : ℕ) → has_place other (row ++ place ∷ []) ≡ (has_place other row || (place == other))
has_pushed row place other = list_any-append (λ p. p == other) row (place ∷ []) ∙ ap (λ b. has_place other row || b) (or_false (place == other))

-- another place stays in a row
pub has_left : (row : List ℕ) (place other : ℕ) → (other ≡ place → ⊥) → has_place other (left_by place row) ≡ has_place other row
has_left [] place other h = refl
has_left (p ∷ row) place other h =
    let Goal : Bool → Type 0 = λ b. (p == place) ≡ b → has_place other (cond (not b) (p ∷ left_by place row) (left_by place row)) ≡ ((p == other) || has_place other row) in
    elim (p == place) as Goal [
      | true ↦ λ e.
          let is : p ≡ place = eqb-true p place e in
          let not : (p == other) ≡ false = ne_eqb p other (λ k. h (sym k ∙ is)) in
          has_left row place other h ∙ sym (ap (λ b. b || has_place other row) not)
      | false ↦ λ e. ap (λ b. (p == other) || b) (has_left row place other h)
    ] refl

-- a place that a row hasn't doesn't come
pub none_left : (row : List ℕ) (place other : ℕ) → has_place other row ≡ false → has_place other (left_by place row) ≡ false
none_left [] place other h = h
none_left (p ∷ row) place other h =
    let Goal : Bool → Type 0 = λ b. ((p == other) || has_place other row) ≡ false → has_place other (cond (not b) (p ∷ left_by place row) (left_by place row)) ≡ false in
    let Part : Bool → Type 0 = λ b. (b || has_place other row) ≡ false → (b || has_place other (left_by place row)) ≡ false in
    let part : (b : Bool) → Part b = λ b. elim b as Part [ true ↦ λ k. k | false ↦ λ k. none_left row place other k ] in
    let rest : (b : Bool) → (b || has_place other row) ≡ false → has_place other (left_by place row) ≡ false =
    λ b. elim b as (λ b. (b || has_place other row) ≡ false → has_place other (left_by place row) ≡ false) [ true ↦ λ k. absurd cc | false ↦ λ k. none_left row place other k ] in
    elim (p == place) as Goal [
      | true ↦ λ k. rest (p == other) k
      | false ↦ λ k. part (p == other) k
    ] h

-- what was the last place of a row stands before the one that came
pub row_extended : (b : Bool) (before row : List ℕ) (old mid : Option ℕ) (last place : ℕ) → (b ≡ true → Some last ≡ old) → mid ≡ cond b (Some place) old
    → row ≡ cond b (before ++ last ∷ option_to_list mid) (before ++ option_to_list mid)
    → row ≡ cond b ((before ++ option_to_list old) ++ place ∷ []) (before ++ option_to_list old)
row_extended true before row old mid last place was came is =
    is ∙ ap (λ o. before ++ last ∷ option_to_list o) came ∙ sym (append_assoc before (last ∷ []) (place ∷ []))
    ∙ ap (λ o. (before ++ option_to_list o) ++ place ∷ []) (was refl)
row_extended false before row old mid last place was came is = is ∙ ap (λ o. before ++ option_to_list o) came

-- a row of one place has none left when it goes
pub one_left : (place : ℕ) (old : Option ℕ) → has_place place (option_to_list old) ≡ true → [] ≡ left_by place (option_to_list old)
one_left place None h = absurd cc
one_left place (Some p) h =
    let Goal : Bool → Type 0 = λ b. (b || false) ≡ true → [] ≡ cond (not b) (p ∷ []) [] in
    elim (p == place) as Goal [ true ↦ λ _. refl | false ↦ λ k. absurd cc ] h

pub row_taken : (b : Bool) (before : List ℕ) (old now : Option ℕ) (place : ℕ) → before ≡ [] → (b ≡ true → has_place place (before ++ option_to_list old) ≡ true) → now ≡ cond b None old
    → before ++ option_to_list now ≡ cond b (left_by place (before ++ option_to_list old)) (before ++ option_to_list old)
row_taken true before old now place none has is =
    ap (λ l. l ++ option_to_list now) none ∙ ap option_to_list is ∙ one_left place old (ap (λ (l : List ℕ). has_place place (l ++ option_to_list old)) (sym none) ∙ has refl)
    ∙ ap (λ l. left_by place (l ++ option_to_list old)) (sym none)
row_taken false before old now place none has is = ap (λ o. before ++ option_to_list o) is
