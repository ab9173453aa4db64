-- The pending blocks as they are kept: a map of nodes in order of issue, by identifier.
use Rattle.std.specs.Prelude.{◌≡◌, ℕ, ◌≤◌, ◌-◌, not, ◌&&◌, List, ◌∷◌, ◌++◌, [], length, take, map, filter, reverse, All, bytes_eq, if◌then◌else◌}
use Rattle.snow_base.specs.declared.block.Header.{Header}
use Rattle.snow_base.specs.Model.Ancestry.{descends}
use Rattle.snow_board.specs.Kept.Grown.{IsGrown}
use Rattle.snow_tree.specs.declared.node.Node.{Node}
use Rattle.snow_tree.specs.Kept.Held.{Entry, children_of}

-- a list of children after a block was issued, where they are those of its parent
abbrev pub linked : Header → List ℕ → List (List ℕ) → List (List ℕ)
linked block id children = if bytes_eq id block.parent then children ++ block.id ∷ [] else children

-- and after it was taken back
abbrev pub unlinked : List ℕ → List ℕ → List (List ℕ) → List (List ℕ)
unlinked parent id children = if bytes_eq id parent then take (length children - 1) children else children

module _ {T : Type 0} where
  -- what a node says of its block
  abbrev pub block_of : List ℕ × Node T → Header
  block_of e = record { id = e.0; parent = e.1.parent; height = e.1.height }

  abbrev pub blocks_of : List (List ℕ × Node T) → List Header
  blocks_of nodes = map block_of nodes

  abbrev pub entry_of : List ℕ × Node T → Entry T
  entry_of e = record { block = block_of e; load = e.1.load }

  -- what is true of the nodes above a last accepted block with these children, where so many rejected ones can be told
  pub record IsKept (last : List ℕ) (first : List (List ℕ)) (nodes : List (List ℕ × Node T)) (most : ℕ) : Type 0 where
    -- each came after its parent
    pub grown : IsGrown last (reverse (blocks_of nodes))
    pub children : first ≡ children_of (blocks_of nodes) last
    pub below : All (λ e. e.1.children ≡ children_of (blocks_of nodes) e.0) nodes
    pub room : length nodes ≤ most

  -- a node whose children are changed by a function of its identifier
  abbrev pub with_children : (List ℕ → List (List ℕ) → List (List ℕ)) → List ℕ × Node T → List ℕ × Node T
  with_children change e = (e.0, record e.1 { children = change e.0 e.1.children })

  -- the children and the load of a node, and its height
  pub record IsTakenOver (n : Node T) (given : List (List ℕ)) (value : T) (number : ℕ) : Type 0 where
    pub children : given ≡ n.children
    pub load : value ≡ n.load
    pub height : number ≡ n.height

  -- the nodes that stay when a child is accepted
  abbrev pub left : List (List ℕ × Node T) → List ℕ → List (List ℕ × Node T)
  left nodes child = filter (λ e. descends (blocks_of nodes) child e.0 && not (bytes_eq e.0 child)) nodes

  -- the blocks that are rejected then
  abbrev pub outsiders : List (List ℕ × Node T) → List ℕ → List (List ℕ)
  outsiders nodes child = map (λ e. e.0) (filter (λ e. not (descends (blocks_of nodes) child e.0)) nodes)
