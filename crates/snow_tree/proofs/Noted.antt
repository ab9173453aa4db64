-- Lemmas on the blocks of nodes at a place and before it.
use Rattle.std.proofs.Common.{◌≡◌, ℕ, zero, suc, List, [], ◌∷◌, take, bytes_eq, Option, Some, None, slice_get, refl, ap, ◌∙◌}
use Rattle.std.specs.List.{position}
use Rattle.std.specs.Option.{option_map}
use Rattle.std.proofs.lemmas.Option.{none-some}
use Rattle.snow_base.specs.declared.block.Header.{Header}
use Rattle.snow_tree.specs.declared.node.Node.{Node}
use Rattle.snow_tree.specs.Kept.Nodes.{block_of, blocks_of}

-- what a look at a place shows was there
read_back : {X Y : Type 0} (o : Option X) (f : X → Y) (y : Y) → option_map f o ≡ Some y → (x : X) × (o ≡ Some x) × (f x ≡ y)
read_back None f y h = absurd (none-some y h)
read_back (Some x) f y h = (x, refl, cc)

module _ {T : Type 0} where
  -- where the parent of a block that is seen stands
  pub parent_told : (nodes : List (List ℕ × Node T)) (place : ℕ) (block : Header) (r : Option ℕ) → option_map block_of (slice_get nodes place) ≡ Some block
      → ((e : List ℕ × Node T) → slice_get nodes place ≡ Some e → r ≡ position (λ x. bytes_eq x.0 e.1.parent) nodes) → r ≡ position (λ x. bytes_eq x.0 block.parent) nodes
  parent_told nodes place block r seen told =
      let found = read_back (slice_get nodes place) block_of block seen in
      told found.0 found.1 ∙ ap (λ (b : Header). position (λ x. bytes_eq x.0 b.parent) nodes) found.2

  -- the first nodes' blocks are the first blocks
  pub blocks-take : (nodes : List (List ℕ × Node T)) (i : ℕ) → take i (blocks_of nodes) ≡ blocks_of (take i nodes)
  blocks-take nodes zero = refl
  blocks-take [] (suc i) = refl
  blocks-take (e ∷ nodes) (suc i) = ap (λ l. block_of e ∷ l) (blocks-take nodes i)
