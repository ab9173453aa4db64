-- Lemmas on the places of nodes.
use Rattle.std.proofs.Common.{◌≡◌, ◌⊎◌, ℕ, suc, ◌+◌, ◌<◌, ◌≤◌, Bool, true, false, not, cond, nat_lt, List, [], ◌∷◌, length, get_or, bytes_eq, Option, Some, None, is_some, slice_get, inl, inr, refl, sym, ap, ◌∙◌, arith, if◌then◌else◌}
use Rattle.std.specs.List.{AllByRecursion, position, prefix_len}
use Rattle.std.specs.Map.{keys_of}
use Rattle.std.specs.Option.{option_map}
use Rattle.std.proofs.lemmas.Grind.{common_steps}
use Rattle.std.proofs.lemmas.List.{get_or-map}
use Rattle.std.proofs.lemmas.List.Quantifiers.{position-Some}
use Rattle.std.proofs.lemmas.Map.Entries.{length-keys_of}
use Rattle.std.proofs.lemmas.Option.{none-some, slice_get_cases}
use Rattle.snow_board.specs.Kept.Grown.{has_block}
use Rattle.snow_board.proofs.Cases.{split_on, same_id, id_same, differs_back}
use Rattle.snow_tree.specs.declared.node.Node.{Node}
use Rattle.snow_tree.specs.Kept.Nodes.{blocks_of}
pub use Rattle.snow_map.proofs.Places.{position_cons}

-- a test of two identifiers says the same either way
pub either_way : (a b : List ℕ) → bytes_eq a b ≡ bytes_eq b a
either_way a b =
    split_on (bytes_eq b a)
    (λ t. id_same a b (sym (same_id b a t)) ∙ sym t)
    (λ t. differs_back a b t ∙ sym t)

module _ {T : Type 0} where
  -- where the node of an identifier stands, with its key
  pub place_same : (nodes : List (List ℕ × Node T)) (id : List ℕ) → position (bytes_eq id) (keys_of nodes) ≡ position (λ e. bytes_eq e.0 id) nodes
  place_same nodes id = λ j. cond (nat_lt (lens nodes j) (length-keys_of nodes j)) (Some (lens nodes j)) None
    where
      lens : (xs : List (List ℕ × Node T)) → prefix_len (λ k. not (bytes_eq id k)) (keys_of xs) ≡ prefix_len (λ e. not (bytes_eq e.0 id)) xs
      lens [] = refl
      lens (x ∷ xs) =
          split_on (bytes_eq id x.0)
          (λ t. rw (t, id_same x.0 id (sym (same_id id x.0 t))) refl)
          (λ t. rw (t, differs_back x.0 id t) (ap (λ n. 1 + n) (lens xs)))

  -- the node at the place of an identifier
  pub found_at : (nodes : List (List ℕ × Node T)) (id : List ℕ) (at : ℕ) → position (bytes_eq id) (keys_of nodes) ≡ Some at
      → (e : List ℕ × Node T) × (slice_get nodes at ≡ Some e) × (bytes_eq e.0 id ≡ true)
  found_at nodes id at h = by (slice_get_cases nodes at).1
    where
      by : ((x : List ℕ × Node T) × (at < length nodes) × (slice_get nodes at ≡ Some x) × (get_or nodes at x ≡ x)) ⊎ ((length nodes ≤ at) × (slice_get nodes at ≡ None))
          → (e : List ℕ × Node T) × (slice_get nodes at ≡ Some e) × (bytes_eq e.0 id ≡ true)
      by (inl f) =
          let here : get_or (keys_of nodes) at f.0.0 ≡ f.0.0 = get_or-map (λ e. e.0) nodes at f.0 f.0.0 f.1 ∙ ap (λ (e : List ℕ × Node T). e.0) f.3 in
          let is : bytes_eq id (get_or (keys_of nodes) at f.0.0) ≡ true = (position-Some (bytes_eq id) (keys_of nodes) at f.0.0 h).1 in
          (f.0, f.2, either_way f.0.0 id ∙ ap (bytes_eq id) (sym here) ∙ is)
      by (inr f) =
          let within : at < length (keys_of nodes) = (position-Some (bytes_eq id) (keys_of nodes) at [] h).0 in
          absurd (omega (arith, within, length-keys_of nodes, f.0))

  -- no block has an identifier that has no place
  pub not_placed : (nodes : List (List ℕ × Node T)) (id : List ℕ) → position (bytes_eq id) (keys_of nodes) ≡ None → has_block (blocks_of nodes) id ≡ false
  not_placed [] id h = refl
  not_placed (e ∷ nodes) id h =
      let k = sym (position_cons (bytes_eq id) e.0 (keys_of nodes)) ∙ h in
      split_on (bytes_eq id e.0)
      (λ t. absurd (none-some 0 (let m = rw t at k in sym m)))
      (λ t. let m = rw t at k in rw (differs_back e.0 id t) (not_placed nodes id (missing (position (bytes_eq id) (keys_of nodes)) m)))
    where
      missing : (o : Option ℕ) → option_map suc o ≡ None → o ≡ None
      missing None e = refl
      missing (Some i) e = absurd (none-some (suc i) (sym e))

  -- a place is one of a node
  pub place_within : (nodes : List (List ℕ × Node T)) (id : List ℕ) (at : ℕ) → position (λ e. bytes_eq e.0 id) nodes ≡ Some at → at < length nodes
  place_within nodes id at h =
      let within : at < length (keys_of nodes) = (position-Some (bytes_eq id) (keys_of nodes) at [] (place_same nodes id ∙ h)).0 in
      omega (arith, within, length-keys_of nodes)

  -- keys that all differ from one have no block of its identifier
  pub apart_off : (nodes : List (List ℕ × Node T)) (k : List ℕ) → AllByRecursion (λ y. bytes_eq k y ≡ false) (keys_of nodes) → has_block (blocks_of nodes) k ≡ false
  apart_off [] k h = refl
  apart_off (e ∷ nodes) k h = rw (differs_back e.0 k h.0) (apart_off nodes k h.1)

  -- a block has a place exactly where it is there
  pub place_there : (nodes : List (List ℕ × Node T)) (id : List ℕ) → is_some (position (λ e. bytes_eq e.0 id) nodes) ≡ has_block (blocks_of nodes) id
  place_there [] id = refl
  place_there (e ∷ nodes) id =
      ap is_some (position_cons (λ e. bytes_eq e.0 id) e nodes)
      ∙ split_on (bytes_eq e.0 id)
      (λ t. rw t refl)
      (λ t. rw t (mapped (position (λ e. bytes_eq e.0 id) nodes) ∙ place_there nodes id))
    where
      mapped : (o : Option ℕ) → is_some (option_map suc o) ≡ is_some o
      mapped None = refl
      mapped (Some i) = refl

  -- what isn't there has no place
  pub off_place : (nodes : List (List ℕ × Node T)) (id : List ℕ) → has_block (blocks_of nodes) id ≡ false → position (λ e. bytes_eq e.0 id) nodes ≡ None
  off_place nodes id off = none (position (λ e. bytes_eq e.0 id) nodes) (place_there nodes id ∙ off)
    where
      none : (o : Option ℕ) → is_some o ≡ false → o ≡ None
      none None h = refl
      none (Some i) h = absurd cc
