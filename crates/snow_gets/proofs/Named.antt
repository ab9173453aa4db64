-- Lemmas on items with names, of which no two are the same.
use Rattle.std.proofs.Common.{◌≡◌, ℕ, zero, suc, ◌<◌, Bool, true, false, ◌||◌, ◌&&◌, cond, List, [], ◌∷◌, ◌++◌, length, get_or, find, Option, Some, None, refl, sym, ap, ◌∙◌, subst, arith}
use Rattle.std.specs.List.{list_any, remove}
use Rattle.std.specs.Option.{is_some, option_map_or}
use Rattle.std.specs.Str.{bytes_eq}
use Rattle.std.proofs.lemmas.Bool.{or_parts, both_ways, false_from_ne_true}
use Rattle.std.proofs.lemmas.List.Folds.{list_any-append}
use Rattle.snow_gets.specs.Kept.Index.{AreNamedApart}
use Rattle.snow_map.proofs.Lists.{same_id, id_turned}
use Rattle.snow_map.proofs.Booleans.{or_false, or_true}

-- whether an item has the name
abbrev pub is_named : {T : Type 0} → (T → List ℕ) → List T → List ℕ → Bool
is_named name items id = list_any (λ x. bytes_eq (name x) id) items

-- the item of a name
abbrev pub named : {T : Type 0} → (T → List ℕ) → List T → List ℕ → Option T
named name items id = find (λ x. bytes_eq (name x) id) items

-- ---- one item more

pub named_pushed : {T : Type 0} (name : T → List ℕ) (items : List T) (x : T) (id : List ℕ) → is_named name items (name x) ≡ false
    → named name (items ++ x ∷ []) id ≡ cond (bytes_eq (name x) id) (Some x) (named name items id)
named_pushed name [] x id h = refl
named_pushed {T} name (y ∷ items) x id h =
    let parts = or_parts (bytes_eq (name y) (name x)) (is_named name items (name x)) h in
    let rest = named_pushed name items x id parts.1 in
    let Goal : Bool → Type 0 = λ b. bytes_eq (name y) id ≡ b
    → cond b (Some y) (named name (items ++ x ∷ []) id) ≡ cond (bytes_eq (name x) id) (Some x) (cond b (Some y) (named name items id)) in
    elim (bytes_eq (name y) id) as Goal [
      | true ↦ λ e.
          let other : bytes_eq (name x) id ≡ false = false_from_ne_true (bytes_eq (name x) id) (λ t.
          both_ways (bytes_eq (name y) (name x)) parts.0 (subst (λ k. bytes_eq (name y) k ≡ true) (sym (same_id (name x) id t)) e)) in
          sym (ap (λ b. cond b (Some x) (Some y)) other)
      | false ↦ λ e. rest
    ] refl

pub apart_pushed : {T : Type 0} (name : T → List ℕ) (items : List T) (x : T) → is_named name items (name x) ≡ false → AreNamedApart name items → AreNamedApart name (items ++ x ∷ [])
apart_pushed name [] x h apart = (refl, tt)
apart_pushed name (y ∷ items) x h apart =
    let parts = or_parts (bytes_eq (name y) (name x)) (is_named name items (name x)) h in
    let none : is_named name (items ++ x ∷ []) (name y) ≡ false =
    list_any-append (λ z. bytes_eq (name z) (name y)) items (x ∷ []) ∙ ap (λ b. b || (bytes_eq (name x) (name y) || false)) apart.0
    ∙ ap (λ b. b || false) (id_turned (name x) (name y) ∙ parts.0) in
    (none, apart_pushed name items x parts.1 apart.1)

-- ---- one item less

-- another name's items stay
pub none_named : {T : Type 0} (name : T → List ℕ) (items : List T) (id : List ℕ) → is_named name items id ≡ false → named name items id ≡ None
none_named name [] id h = refl
none_named name (y ∷ items) id h =
    let parts = or_parts (bytes_eq (name y) id) (is_named name items id) h in
    ap (λ b. cond b (Some y) (named name items id)) parts.0 ∙ none_named name items id parts.1

pub some_named : {T : Type 0} (name : T → List ℕ) (items : List T) (at : ℕ) (d : T) (id : List ℕ) → at < length items → bytes_eq (name (get_or items at d)) id ≡ true → is_named name items id ≡ true
some_named name [] at d id there h = absurd (omega (arith, there))
some_named name (y ∷ items) zero d id there h = ap (λ b. b || is_named name items id) h
some_named name (y ∷ items) (suc at) d id there h =
    ap (λ b. bytes_eq (name y) id || b) (some_named name items at d id (omega (arith, there)) h) ∙ or_true (bytes_eq (name y) id)

pub named_removed : {T : Type 0} (name : T → List ℕ) (items : List T) (at : ℕ) (x : T) (id : List ℕ) → at < length items → x ≡ get_or items at x → AreNamedApart name items
    → named name (remove items at) id ≡ cond (bytes_eq (name x) id) None (named name items id)
named_removed name [] at x id there is apart = absurd (omega (arith, there))
named_removed {T} name (y ∷ items) zero x id there is apart =
    let same : name x ≡ name y = ap name is in
    let Goal : Bool → Type 0 = λ b. bytes_eq (name y) id ≡ b → named name items id ≡ cond b None (cond b (Some y) (named name items id)) in
    (elim (bytes_eq (name y) id) as Goal [
      | true ↦ λ e. none_named name items id (subst (λ k. is_named name items k ≡ false) (same_id (name y) id e) apart.0)
      | false ↦ λ e. refl
    ] refl)
    ∙ ap (λ k. cond (bytes_eq k id) None (named name (y ∷ items) id)) (sym same)
named_removed {T} name (y ∷ items) (suc at) x id there is apart =
    let inside : at < length items = omega (arith, there) in
    let rest = named_removed name items at x id inside is apart.1 in
    let Goal : Bool → Type 0 = λ b. bytes_eq (name y) id ≡ b
    → cond b (Some y) (named name (remove items at) id) ≡ cond (bytes_eq (name x) id) None (cond b (Some y) (named name items id)) in
    elim (bytes_eq (name y) id) as Goal [
      | true ↦ λ e.
          let other : bytes_eq (name x) id ≡ false = false_from_ne_true (bytes_eq (name x) id) (λ t.
          let here : bytes_eq (name (get_or items at x)) (name y) ≡ true =
          subst (λ k. bytes_eq (name k) (name y) ≡ true) is (subst (λ k. bytes_eq (name x) k ≡ true) (sym (same_id (name y) id e)) t) in
          both_ways (is_named name items (name y)) apart.0 (some_named name items at x (name y) inside here)) in
          sym (ap (λ b. cond b None (Some y)) other)
      | false ↦ λ e. rest
    ] refl

-- the item at a place is found by its name
pub named_at : {T : Type 0} (name : T → List ℕ) (items : List T) (at : ℕ) (x : T) (id : List ℕ) → at < length items → x ≡ get_or items at x → bytes_eq (name x) id ≡ true → AreNamedApart name items
    → named name items id ≡ Some x
named_at name [] at x id there is h apart = absurd (omega (arith, there))
named_at name (y ∷ items) zero x id there is h apart =
    ap (λ k. cond (bytes_eq (name k) id) (Some k) (named name items id)) (sym is) ∙ ap (λ b. cond b (Some x) (named name items id)) h
named_at name (y ∷ items) (suc at) x id there is h apart =
    let inside : at < length items = omega (arith, there) in
    let other : bytes_eq (name y) id ≡ false = false_from_ne_true (bytes_eq (name y) id) (λ t.
    let here : bytes_eq (name (get_or items at x)) (name y) ≡ true =
    subst (λ k. bytes_eq (name k) (name y) ≡ true) is (subst (λ k. bytes_eq (name x) k ≡ true) (sym (same_id (name y) id t)) h) in
    both_ways (is_named name items (name y)) apart.0 (some_named name items at x (name y) inside here)) in
    ap (λ b. cond b (Some y) (named name items id)) other ∙ named_at name items at x id inside is h apart.1

nothing_apart : {T : Type 0} (name : T → List ℕ) (at : ℕ) → AreNamedApart name (remove [] at)
nothing_apart name zero = tt
nothing_apart name (suc at) = tt

pub fewer_named : {T : Type 0} (name : T → List ℕ) (items : List T) (at : ℕ) (id : List ℕ) → is_named name items id ≡ false → is_named name (remove items at) id ≡ false
fewer_named name [] zero id h = refl
fewer_named name [] (suc at) id h = refl
fewer_named name (y ∷ items) zero id h = (or_parts (bytes_eq (name y) id) (is_named name items id) h).1
fewer_named name (y ∷ items) (suc at) id h =
    let parts = or_parts (bytes_eq (name y) id) (is_named name items id) h in
    ap (λ b. b || is_named name (remove items at) id) parts.0 ∙ fewer_named name items at id parts.1

pub apart_removed : {T : Type 0} (name : T → List ℕ) (items : List T) (at : ℕ) → AreNamedApart name items → AreNamedApart name (remove items at)
apart_removed name [] at apart = nothing_apart name at
apart_removed name (y ∷ items) zero apart = apart.1
apart_removed name (y ∷ items) (suc at) apart = (fewer_named name items at (name y) apart.0, apart_removed name items at apart.1)

-- ---- whether there is an item, by the item

by_first : {T : Type 0} (b : Bool) (y : T) (rest : Option T) (any : Bool) → is_some rest ≡ any → is_some (cond b (Some y) rest) ≡ (b || any)
by_first true y rest any h = refl
by_first false y rest any h = h

pub named_is_some : {T : Type 0} (name : T → List ℕ) (items : List T) (id : List ℕ) → is_some (named name items id) ≡ is_named name items id
named_is_some name [] id = refl
named_is_some name (y ∷ items) id = by_first (bytes_eq (name y) id) y (named name items id) (is_named name items id) (named_is_some name items id)

-- a test of a named item beside the name
pub any_named : {T : Type 0} (name : T → List ℕ) (test : T → Bool) (items : List T) (id : List ℕ) → AreNamedApart name items
    → list_any (λ x. bytes_eq (name x) id && test x) items ≡ option_map_or test (named name items id) false
any_named name test [] id apart = refl
any_named {T} name test (y ∷ items) id apart =
    let rest = any_named name test items id apart.1 in
    let Goal : Bool → Type 0 = λ b. bytes_eq (name y) id ≡ b
    → ((b && test y) || list_any (λ x. bytes_eq (name x) id && test x) items) ≡ option_map_or test (cond b (Some y) (named name items id)) false in
    elim (bytes_eq (name y) id) as Goal [
      | true ↦ λ e.
          let none = none_named name items id (subst (λ k. is_named name items k ≡ false) (same_id (name y) id e) apart.0) in
          ap (λ b. test y || b) (rest ∙ ap (λ o. option_map_or test o false) none) ∙ or_false (test y)
      | false ↦ λ e. rest
    ] refl
