-- The tree as it is kept, without its boxes.
use Rattle.std.specs.Prelude.{ℕ, List}
use Rattle.snow_trie.specs.declared.run.Run.{Run}
use Rattle.snow_trie.specs.declared.fork.Fork.{Fork}
use Rattle.snow_trie.specs.declared.node.Node.{Node}
use Rattle.snow_trie.specs.declared.node.Node.TheVariants.{End, Last, Along', Apart'}

-- an identifier behind the last bit, a unary node or a binary node
pub data Tree : Type 0 where
  Tip : (id : List ℕ) → Tree
  Line : (run : Run) → (below : Tree) → Tree
  Two : (fork : Fork) → (zeros ones : Tree) → Tree

abbrev pub tree_of : Node → Tree
tree_of (End id) = Tip id
tree_of (Last run) = Line run (Tip run.id)
tree_of (Along' run p below) = Line run (tree_of below)
tree_of (Apart' fork p z q o) = Two fork (tree_of z) (tree_of o)
