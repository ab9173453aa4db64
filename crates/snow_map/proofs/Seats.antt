-- What entries under seats give, and that no identifier stands twice.
use Rattle.std.proofs.Common.{◌≡◌, ℕ, false, cond, nat_eq, List, [], ◌∷◌, map, None, Some, bytes_eq, refl, sym, ap, ap₂, ◌∙◌}
use Rattle.std.specs.List.{IsDistinct, AllByRecursion}
use Rattle.std.specs.Map.{lookup, keys_of}
use Rattle.std.specs.Option.{option_or}
use Rattle.std.proofs.lemmas.Bool.{eqb-true, eq-eqb}
use Rattle.std.proofs.lemmas.Map.Keys.{IsDistinct-head, IsDistinct-tail}
use Rattle.snow_map.specs.Clauses.Entries.{value_of}
use Rattle.snow_map.specs.Kept.Placed.{place_of, gives, entries_of, IsPlaced, IsKept}
use Rattle.snow_map.proofs.Lists.{split_on, same_id, appended, one_more}

-- entries by seat
abbrev pub Near : Type 0 → Type 0
Near V = List (ℕ × (List ℕ × V))

-- what stands under seats, each of which stands once
module _ {X : Type 0} where
  none_at : (place : ℕ) (near : List (ℕ × X)) → AllByRecursion (λ y. nat_eq place y ≡ false) (keys_of near) → lookup (nat_eq place) near ≡ None
  none_at place [] all = refl
  none_at place (x ∷ near) all = ap (λ b. cond b (Some x.1) (lookup (nat_eq place) near)) all.0 ∙ none_at place near all.1

  -- the front's seat is nobody's behind it
  pub front_alone : (x : ℕ × X) (near : List (ℕ × X)) → IsDistinct nat_eq (keys_of (x ∷ near)) → lookup (nat_eq x.0) near ≡ None
  front_alone x near unique = none_at x.0 near (IsDistinct-head nat_eq x.0 (keys_of near) unique)

  pub front_here : (x : ℕ × X) (near : List (ℕ × X)) → lookup (nat_eq x.0) (x ∷ near) ≡ Some x.1
  front_here x near = ap (λ b. cond b (Some x.1) (lookup (nat_eq x.0) near)) (eq-eqb x.0 x.0 refl)

  pub behind : (x : ℕ × X) (near : List (ℕ × X)) (place : ℕ) → nat_eq place x.0 ≡ false → lookup (nat_eq place) (x ∷ near) ≡ lookup (nat_eq place) near
  behind x near place apart = ap (λ b. cond b (Some x.1) (lookup (nat_eq place) near)) apart

  -- what is so of each is so of each behind the front
  pub rest_so : (P : ℕ → X → Type 0) (x : ℕ × X) (near : List (ℕ × X)) → IsDistinct nat_eq (keys_of (x ∷ near))
      → ((place : ℕ) (e : X) → lookup (nat_eq place) (x ∷ near) ≡ Some e → P place e) → (place : ℕ) (e : X) → lookup (nat_eq place) near ≡ Some e → P place e
  rest_so P x near unique all place e is =
      split_on (nat_eq place x.0)
      (λ t. absurd (none_some (sym (ap (λ p. lookup (nat_eq p) near) (eqb-true place x.0 t) ∙ front_alone x near unique) ∙ is)))
      (λ f. all place e (behind x near place f ∙ is))
    where
      none_some : {e : X} → None ≡ Some e → ⊥
      none_some h = cc

module _ {V : Type 0} where
  abbrev pub ArePlaced : Near V → List (List ℕ × V) → Type 0
  ArePlaced near far = (place : ℕ) (e : List ℕ × V) → lookup (nat_eq place) near ≡ Some e → IsPlaced far place e

  rest_placed : (x : ℕ × (List ℕ × V)) (near : Near V) (far : List (List ℕ × V)) → IsDistinct nat_eq (keys_of (x ∷ near)) → ArePlaced (x ∷ near) far → ArePlaced near far
  rest_placed x near far unique placed = rest_so (IsPlaced far) x near unique placed

  -- an identifier is looked for under its seat
  pub found_near : (near : Near V) (far : List (List ℕ × V)) (id : List ℕ) → IsDistinct nat_eq (keys_of near) → ArePlaced near far
      → value_of (map (λ e. e.1) near) id ≡ gives (lookup (nat_eq (place_of id)) near) id
  found_near [] far id unique placed = refl
  found_near (x ∷ near) far id unique placed =
      let here = (placed x.0 x.1 (front_here x near)).here in
      let later = found_near near far id (IsDistinct-tail nat_eq x.0 (keys_of near) unique) (rest_placed x near far unique placed) in
      split_on (bytes_eq id x.1.0)
      (λ t.
      ap (λ b. cond b (Some x.1.1) (value_of (map (λ e. e.1) near) id)) t
      ∙ sym (ap (λ o. gives o id) (ap (λ p. lookup (nat_eq p) (x ∷ near)) (ap place_of (same_id id x.1.0 t) ∙ here) ∙ front_here x near) ∙ ap (λ b. cond b (Some x.1.1) None) t))
      (λ f.
      ap (λ b. cond b (Some x.1.1) (value_of (map (λ e. e.1) near) id)) f ∙ later
      ∙ split_on (nat_eq (place_of id) x.0)
      (λ t.
      ap (λ o. gives o id) (ap (λ p. lookup (nat_eq p) near) (eqb-true (place_of id) x.0 t) ∙ front_alone x near unique)
      ∙ sym (ap (λ o. gives o id) (ap (λ p. lookup (nat_eq p) (x ∷ near)) (eqb-true (place_of id) x.0 t) ∙ front_here x near) ∙ ap (λ b. cond b (Some x.1.1) None) f))
      (λ u. ap (λ o. gives o id) (sym (behind x near (place_of id) u))))

  -- the value at an identifier is that under its seat, or else that in the order
  pub found : (near : Near V) (far : List (List ℕ × V)) → IsKept near far → (id : List ℕ)
      → value_of (entries_of near far) id ≡ option_or (gives (lookup (nat_eq (place_of id)) near) id) (value_of far id)
  found near far kept id =
      appended (map (λ e. e.1) near) far id ∙ ap (λ o. option_or o (value_of far id)) (found_near near far id kept.unique kept.placed)

  distinct_from : (near : Near V) (far : List (List ℕ × V)) → IsDistinct nat_eq (keys_of near) → ArePlaced near far → IsDistinct bytes_eq (keys_of far) → IsDistinct bytes_eq (keys_of (entries_of near far))
  distinct_from [] far unique placed once = once
  distinct_from (x ∷ near) far unique placed once =
      let front = placed x.0 x.1 (front_here x near) in
      let tail = IsDistinct-tail nat_eq x.0 (keys_of near) unique in
      let rest = rest_placed x near far unique placed in
      let none = appended (map (λ e. e.1) near) far x.1.0
      ∙ ap₂ option_or (found_near near far x.1.0 tail rest ∙ ap (λ o. gives o x.1.0) (ap (λ p. lookup (nat_eq p) near) front.here ∙ front_alone x near unique)) front.alone in
      one_more x.1.0 x.1.1 (entries_of near far) none (distinct_from near far tail rest once)

  -- no identifier stands twice
  pub all_distinct : (near : Near V) (far : List (List ℕ × V)) → IsKept near far → IsDistinct bytes_eq (keys_of (entries_of near far))
  all_distinct near far kept = distinct_from near far kept.unique kept.placed kept.once
