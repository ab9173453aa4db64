-- Lemmas on a search for a number among the first of the nodes.
use Rattle.std.proofs.Common.{◌≡◌, ℕ, zero, suc, ◌+◌, ◌<◌, ◌≤◌, ◌==◌, Bool, true, false, nat_eq, nat_lt, List, [], ◌∷◌, length, take, Option, Some, None, slice_get, refl, sym, ap, subst, ◌∙◌, arith, ne_eqb, take_all}
use Rattle.std.specs.List.{position}
use Rattle.std.specs.Option.{option_map}
use Rattle.std.proofs.lemmas.Bool.{eqb-true, eqb-false, ltb-true, ltb-false}
use Rattle.std.proofs.lemmas.List.{length-take}
use Rattle.std.proofs.lemmas.Option.{none-some, same_Some, slice_get-map, slice_get_within}
use Rattle.snow_tree.specs.declared.node.Node.{Node}
use Rattle.snow_tree.specs.Kept.Row.{Edge, AreInOrder, edge_of, edges_of}
use Rattle.snow_tree.proofs.Ordered.{rises, place_is, position_none}

pub there : {X : Type 0} (xs : List X) (i : ℕ) → i < length xs → (x : X) × (slice_get xs i ≡ Some x)
there [] i h = absurd (omega (arith, h))
there (x ∷ xs) zero h = (x, refl)
there (x ∷ xs) (suc i) h = there xs i (omega (arith, h))

-- the first of as many as there are
pub all_taken : {X : Type 0} (xs : List X) (n : ℕ) → n ≡ length xs → take n xs ≡ xs
all_taken xs n is = take_all n xs (omega (arith, is))

taken_at : {X : Type 0} (xs : List X) (n i : ℕ) (x : X) → i < n → slice_get xs i ≡ Some x → slice_get (take n xs) i ≡ Some x
taken_at xs zero i x h at = absurd (omega (arith, h))
taken_at [] (suc n) i x h at = absurd (none-some x at)
taken_at (y ∷ xs) (suc n) zero x h at = at
taken_at (y ∷ xs) (suc n) (suc i) x h at = taken_at xs n i x (omega (arith, h)) at

at_taken : {X : Type 0} (xs : List X) (n i : ℕ) (x : X) → slice_get (take n xs) i ≡ Some x → slice_get xs i ≡ Some x
at_taken xs zero i x at = absurd (none-some x at)
at_taken [] (suc n) i x at = absurd (none-some x at)
at_taken (y ∷ xs) (suc n) zero x at = at
at_taken (y ∷ xs) (suc n) (suc i) x at = at_taken xs n i x at

read_back : {X Y : Type 0} (f : X → Y) (o : Option X) (y : Y) → option_map f o ≡ Some y → (x : X) × (o ≡ Some x) × (f x ≡ y)
read_back f None y h = absurd (none-some y h)
read_back f (Some x) y h = (x, refl, same_Some (f x) y h)

module _ {T : Type 0} where
  pub edge_at : (entries : List (List ℕ × Node T)) (n i : ℕ) (e : List ℕ × Node T) → i < n → slice_get entries i ≡ Some e → slice_get (edges_of (take n entries)) i ≡ Some (edge_of e)
  edge_at entries n i e h at = slice_get-map edge_of (take n entries) i ∙ ap (option_map edge_of) (taken_at entries n i e h at)

  pub edge_there : (entries : List (List ℕ × Node T)) (i : ℕ) (e : List ℕ × Node T) → slice_get entries i ≡ Some e → slice_get (edges_of entries) i ≡ Some (edge_of e)
  edge_there entries i e at = slice_get-map edge_of entries i ∙ ap (option_map edge_of) at

  -- the node of an edge
  pub node_at : (entries : List (List ℕ × Node T)) (i : ℕ) (x : Edge) → slice_get (edges_of entries) i ≡ Some x → (e : List ℕ × Node T) × (slice_get entries i ≡ Some e) × (edge_of e ≡ x)
  node_at entries i x at = read_back edge_of (slice_get entries i) x (sym (slice_get-map edge_of entries i) ∙ at)

  rises_in : (entries : List (List ℕ × Node T)) (n i j : ℕ) (e x : List ℕ × Node T) → AreInOrder (edges_of (take n entries)) → i < j → j < n → slice_get entries i ≡ Some e → slice_get entries j ≡ Some x
      → e.1.number < x.1.number
  rises_in entries n i j e x h less within at there =
      rises (edges_of (take n entries)) i j (edge_of e) (edge_of x) h less (edge_at entries n i e (omega (arith, less, within)) at) (edge_at entries n j x within there)

  -- all up to one that is lower are lower
  pub below_more : (entries : List (List ℕ × Node T)) (n number middle : ℕ) (x : List ℕ × Node T) → AreInOrder (edges_of (take n entries)) → middle < n → slice_get entries middle ≡ Some x → x.1.number < number
      → (i : ℕ) (e : List ℕ × Node T) → i < middle + 1 → slice_get entries i ≡ Some e → e.1.number < number
  below_more entries n number middle x h within there low i e less at = by (i == middle) refl
    where
      by : (b : Bool) → (i == middle) ≡ b → e.1.number < number
      by true t = subst (λ (y : List ℕ × Node T). y.1.number < number) (same_Some x e (sym there ∙ ap (slice_get entries) (sym (eqb-true i middle t)) ∙ at)) low
      by false t = omega (arith, low, rises_in entries n i middle e x h (omega (arith, less, eqb-false i middle t)) within at there)

  -- and all from one that isn't lower aren't
  pub above_more : (entries : List (List ℕ × Node T)) (n number middle : ℕ) (x : List ℕ × Node T) → AreInOrder (edges_of (take n entries)) → slice_get entries middle ≡ Some x → number ≤ x.1.number
      → (i : ℕ) (e : List ℕ × Node T) → middle ≤ i → i < n → slice_get entries i ≡ Some e → number ≤ e.1.number
  above_more entries n number middle x h there high i e less within at = by (i == middle) refl
    where
      by : (b : Bool) → (i == middle) ≡ b → number ≤ e.1.number
      by true t = subst (λ (y : List ℕ × Node T). number ≤ y.1.number) (same_Some x e (sym there ∙ ap (slice_get entries) (sym (eqb-true i middle t)) ∙ at)) high
      by false t = omega (arith, high, rises_in entries n middle i x e h (omega (arith, less, eqb-false i middle t)) within there at)

  -- the place of a node's number
  pub placed_at : (entries : List (List ℕ × Node T)) (n number place : ℕ) → AreInOrder (edges_of (take n entries)) → n ≤ length entries → place < n
      → ((e : List ℕ × Node T) → slice_get entries place ≡ Some e → number ≡ e.1.number) → position (λ e. nat_eq e.number number) (edges_of (take n entries)) ≡ Some place
  placed_at entries n number place h most within has =
      let x = there entries place (omega (arith, most, within)) in
      ap (λ m. position (λ (e : Edge). nat_eq e.number m) (edges_of (take n entries))) (has x.0 x.1)
      ∙ place_is (edges_of (take n entries)) place (edge_of x.0) h (edge_at entries n place x.0 within x.1)

  -- there is none where the first that isn't lower has another number
  pub placed_none : (entries : List (List ℕ × Node T)) (n number place : ℕ) → AreInOrder (edges_of (take n entries)) → n ≤ length entries → place ≤ n
      → ((i : ℕ) (e : List ℕ × Node T) → i < place → slice_get entries i ≡ Some e → e.1.number < number)
      → ((i : ℕ) (e : List ℕ × Node T) → place ≤ i → i < n → slice_get entries i ≡ Some e → number ≤ e.1.number)
      → (place < n → (e : List ℕ × Node T) → slice_get entries place ≡ Some e → e.1.number ≡ number → ⊥)
      → position (λ e. nat_eq e.number number) (edges_of (take n entries)) ≡ None
  placed_none entries n number place h most within below above other =
      position_none (λ e. nat_eq e.number number) (edges_of (take n entries))
      (λ i x at.
      let node = node_at (take n entries) i x at in
      let e = node.0 in
      let here : slice_get entries i ≡ Some e = at_taken entries n i e node.1 in
      let inside : i < n = omega (arith, slice_get_within (take n entries) i e node.1, length-take n entries) in
      ap (λ (y : Edge). nat_eq y.number number) (sym node.2) ∙ ne_eqb e.1.number number (differs i e here inside))
    where
      differs : (i : ℕ) (e : List ℕ × Node T) → slice_get entries i ≡ Some e → i < n → e.1.number ≡ number → ⊥
      differs i e here inside same = by (nat_lt i place) refl (i == place) refl
        where
          by : (a : Bool) → nat_lt i place ≡ a → (b : Bool) → (i == place) ≡ b → ⊥
          by true t b u = let low = below i e (ltb-true i place t) here in omega (arith, low, same)
          by false t true u =
              let is = eqb-true i place u in
              other (omega (arith, is, inside)) e (ap (slice_get entries) (sym is) ∙ here) same
          by false t false u =
              let less : place < i = omega (arith, ltb-false i place t, eqb-false i place u) in
              let x = there entries place (omega (arith, less, inside, most)) in
              let high = above place x.0 (omega arith) (omega (arith, less, inside)) x.1 in
              let up = rises_in entries n place i x.0 e h less inside x.1 here in
              omega (arith, high, up, same)
