-- Lemmas on a walk up a block's line to the child of the last accepted block.
use Rattle.std.proofs.Common.{◌≡◌, ℕ, zero, suc, ◌+◌, ◌<◌, ◌≤◌, if◌then◌else◌, true, false, List, [], ◌∷◌, get_or, take, reverse, find, bytes_eq, Option, Some, None, slice_get, refl, sym, ap, subst, ◌∙◌, arith}
use Rattle.std.specs.Option.{option_map}
use Rattle.std.specs.List.{position}
use Rattle.std.proofs.lemmas.Option.{slice_get-map, slice_get_within, get_or_from_slice_get}
use Rattle.snow_base.specs.declared.block.Header.{Header}
use Rattle.snow_base.specs.Model.Ancestry.{line_in, child_on}
use Rattle.snow_board.specs.Kept.Grown.{has_block, IsGrown}
use Rattle.snow_board.proofs.Cases.{split_on, same_id, differs_back}
use Rattle.snow_board.proofs.Grown.{no_line, has_block-reverse}
use Rattle.snow_tree.specs.declared.node.Node.{Node}
use Rattle.snow_tree.specs.Kept.Nodes.{block_of, blocks_of}
use Rattle.snow_tree.proofs.Descending.{line_at, parent_before}
use Rattle.snow_tree.proofs.Noted.{blocks-take}
use Rattle.snow_tree.proofs.Placed.{position_cons}

-- the identifier of the block at a place, if there is one
abbrev pub sought_at : List Header → Option ℕ → Option (List ℕ)
sought_at bs None = None
sought_at bs (Some i) = option_map (λ b. b.id) (slice_get bs i)

-- the child on the line of the block at a place
abbrev pub child_from : List Header → List ℕ → Option (List ℕ) → Option Header
child_from bs last None = None
child_from bs last (Some id) = child_on bs last id

-- the walk is at a block whose line has the child that was asked for; nowhere where there is none
abbrev pub IsClimbed : List Header → List ℕ → List ℕ → Option ℕ → Type 0
IsClimbed bs last id place = child_from bs last (sought_at bs place) ≡ child_on bs last id

-- how many blocks may still come
abbrev pub height_of : Option ℕ → ℕ
height_of None = 0
height_of (Some i) = i + 1

module _ {T : Type 0} where
  -- the block at the place of an identifier has it
  pub sought_is : (nodes : List (List ℕ × Node T)) (id : List ℕ)
      → sought_at (blocks_of nodes) (position (λ e. bytes_eq e.0 id) nodes) ≡ (if has_block (blocks_of nodes) id then Some id else None)
  sought_is [] id = refl
  sought_is (e ∷ nodes) id =
      rw (position_cons (λ e. bytes_eq e.0 id) e nodes)
      (split_on (bytes_eq e.0 id)
      (λ t. rw t (ap Some (same_id e.0 id t)))
      (λ t. rw t (later (position (λ e. bytes_eq e.0 id) nodes) ∙ sought_is nodes id)))
    where
      later : (o : Option ℕ) → sought_at (block_of e ∷ blocks_of nodes) (option_map suc o) ≡ sought_at (blocks_of nodes) o
      later None = refl
      later (Some i) = refl

  -- a walk that goes on at the block of an identifier
  pub climbed_at : (last : List ℕ) (nodes : List (List ℕ × Node T)) (id : List ℕ)
      → child_from (blocks_of nodes) last (sought_at (blocks_of nodes) (position (λ e. bytes_eq e.0 id) nodes)) ≡ child_on (blocks_of nodes) last id
  climbed_at last nodes id =
      ap (child_from (blocks_of nodes) last) (sought_is nodes id)
      ∙ split_on (has_block (blocks_of nodes) id)
      (λ t. rw t refl)
      (λ t. rw t (sym (ap (find (λ b. bytes_eq b.parent last)) (no_line (reverse (blocks_of nodes)) id (has_block-reverse (blocks_of nodes) id ∙ t)))))

  -- the place of what stands before a place is lower
  pub placed_before : (nodes : List (List ℕ × Node T)) (id : List ℕ) (i : ℕ) → has_block (blocks_of (take i nodes)) id ≡ true
      → height_of (position (λ e. bytes_eq e.0 id) nodes) ≤ i
  placed_before nodes id zero h = absurd cc
  placed_before [] id (suc i) h = absurd cc
  placed_before (e ∷ nodes) id (suc i) h =
      rw (position_cons (λ e. bytes_eq e.0 id) e nodes)
      (split_on (bytes_eq e.0 id)
      (λ t. rw t (omega arith))
      (λ t. let k = rw t at h in
      let rest = placed_before nodes id i k in
      rw t (omega (arith, higher (position (λ e. bytes_eq e.0 id) nodes)))))
    where
      higher : (o : Option ℕ) → height_of (option_map suc o) ≤ height_of o + 1
      higher None = omega arith
      higher (Some j) = omega arith

-- the child on the line of a block is the block or on its parent's line
pub child_step : (last : List ℕ) (bs : List Header) (i : ℕ) (b : Header) → IsGrown last (reverse bs) → slice_get bs i ≡ Some b
    → child_on bs last b.id ≡ (if bytes_eq b.parent last then Some b else child_on bs last b.parent)
child_step last bs i b g at =
    let here : get_or bs i b ≡ b = get_or_from_slice_get bs i b b at in
    let line : line_in (reverse bs) b.id ≡ b ∷ line_in (reverse bs) b.parent =
    subst (λ (c : Header). line_in (reverse bs) c.id ≡ c ∷ line_in (reverse bs) c.parent) here (line_at last bs i b g (slice_get_within bs i b at))
    in
    ap (find (λ b. bytes_eq b.parent last)) line

module _ {T : Type 0} where
  -- nowhere where the walk came to no block
  pub climbed_none : (last id : List ℕ) (nodes : List (List ℕ × Node T)) (place : Option ℕ) (at : ℕ) → IsClimbed (blocks_of nodes) last id place → place ≡ Some at
      → option_map block_of (slice_get nodes at) ≡ None → child_on (blocks_of nodes) last id ≡ None
  climbed_none last id nodes place at climbed is none =
      sym climbed ∙ ap (λ o. child_from (blocks_of nodes) last (sought_at (blocks_of nodes) o)) is
      ∙ ap (λ o. child_from (blocks_of nodes) last (option_map (λ b. b.id) o)) (slice_get-map block_of nodes at ∙ none)

  -- where it came to a block, that block's line has the child
  pub climbed_some : (last id : List ℕ) (nodes : List (List ℕ × Node T)) (place : Option ℕ) (at : ℕ) (b : Header) → IsClimbed (blocks_of nodes) last id place → place ≡ Some at
      → option_map block_of (slice_get nodes at) ≡ Some b → child_on (blocks_of nodes) last b.id ≡ child_on (blocks_of nodes) last id
  climbed_some last id nodes place at b climbed is there =
      sym (ap (λ o. child_from (blocks_of nodes) last (sought_at (blocks_of nodes) o)) is
      ∙ ap (λ o. child_from (blocks_of nodes) last (option_map (λ b. b.id) o)) (slice_get-map block_of nodes at ∙ there))
      ∙ climbed

  -- the child on the line of the block there is that block or on its parent's line
  pub step_at : (last : List ℕ) (nodes : List (List ℕ × Node T)) (at : ℕ) (b : Header) → IsGrown last (reverse (blocks_of nodes))
      → option_map block_of (slice_get nodes at) ≡ Some b
      → child_on (blocks_of nodes) last b.id ≡ (if bytes_eq b.parent last then Some b else child_on (blocks_of nodes) last b.parent)
  step_at last nodes at b g there = child_step last (blocks_of nodes) at b g (slice_get-map block_of nodes at ∙ there)

  -- and the parent's place is lower
  pub lower_place : (last : List ℕ) (nodes : List (List ℕ × Node T)) (at : ℕ) (b : Header) → IsGrown last (reverse (blocks_of nodes))
      → option_map block_of (slice_get nodes at) ≡ Some b → bytes_eq b.parent last ≡ false
      → height_of (position (λ e. bytes_eq e.0 b.parent) nodes) < at + 1
  lower_place last nodes at b g there other =
      let bs = blocks_of nodes in
      let seen : slice_get bs at ≡ Some b = slice_get-map block_of nodes at ∙ there in
      let here : get_or bs at b ≡ b = get_or_from_slice_get bs at b b seen in
      let before : has_block (take at bs) b.parent ≡ true =
      subst (λ (c : Header). bytes_eq last c.parent ≡ false → has_block (take at bs) c.parent ≡ true) here (parent_before last bs at b g (slice_get_within bs at b seen)) (differs_back last b.parent other)
      in
      let low = placed_before nodes b.parent at (subst (λ l. has_block l b.parent ≡ true) (blocks-take nodes at) before) in
      omega (arith, low)
