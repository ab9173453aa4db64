-- The outline of a tree: its nodes without their counters. What says which identifiers stand in it.
use Rattle.std.specs.Prelude.{◌≡◌, ◌⊎◌, ℕ, ◌+◌, true, false, List, ⊤}
use Rattle.snow_base.specs.Model.Identifier.{bit, AgreeFrom}
use Rattle.snow_trie.specs.Kept.Tree.{Tree, Tip, Line, Two}

-- an identifier; a unary node, whose bits between two places are an identifier's; a binary node
pub data Outline : Type 0 where
  Leaf : (id : List ℕ) → Outline
  Straight : (id : List ℕ) → (from to : ℕ) → (below : Outline) → Outline
  Split : (at : ℕ) → (zeros ones : Outline) → Outline

abbrev pub outline : ℕ → Tree → Outline
outline from (Tip id) = Leaf id
outline from (Line run below) = Straight run.id from run.to (outline run.to below)
outline from (Two fork z o) = Split from (outline (from + 1) z) (outline (from + 1) o)

-- how many nodes there are
abbrev pub size : Tree → ℕ
size (Tip id) = 0
size (Line run below) = size below + 1
size (Two fork z o) = size z + size o + 1

-- an identifier goes down by its bits to the end, and on the bits of each unary node agrees with it
abbrev pub Leads : Outline → List ℕ → Type 0
Leads (Leaf id) x = ⊤
Leads (Straight id from to below) x = AgreeFrom from to id x × Leads below x
Leads (Split at z o) x = (bit x at ≡ false → Leads z x) × (bit x at ≡ true → Leads o x)

-- an identifier stands at an end
abbrev pub IsLeaf : Outline → List ℕ → Type 0
IsLeaf (Leaf id) x = id ≡ x
IsLeaf (Straight id from to below) x = IsLeaf below x
IsLeaf (Split at z o) x = IsLeaf z x ⊎ IsLeaf o x

-- each identifier stands where its bits lead
abbrev pub IsSorted : Outline → Type 0
IsSorted (Leaf id) = ⊤
IsSorted (Straight id from to below) = ((x : List ℕ) → IsLeaf below x → AgreeFrom from to id x) × IsSorted below
IsSorted (Split at z o) =
    ((x : List ℕ) → IsLeaf z x → bit x at ≡ false) × ((x : List ℕ) → IsLeaf o x → bit x at ≡ true) × IsSorted z × IsSorted o
