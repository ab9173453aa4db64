-- Nodes in order of issue. A node has a number, which is higher than those of all that were issued before and never changes, and the number of its parent.
use Rattle.std.specs.Prelude.{⊤, ◌≡◌, ℕ, zero, suc, ◌<◌, ◌≤◌, Bool, true, false, ◌==◌, ◌&&◌, ◌||◌, nat_eq, if◌then◌else◌, List, [], ◌∷◌, ◌++◌, length, take, map, find, Option, None, Some, bytes_eq, slice_get}
use Rattle.std.specs.List.{AllByRecursion, list_any, position}
use Rattle.std.specs.Option.{option_map, option_map_or}
use Rattle.snow_tree.specs.Kept.Hints.{hint_of, slot_of}
use Rattle.snow_tree.specs.declared.node.Node.{Node}

-- from a block to its parent, by identifiers and by numbers
pub record Edge : Type 0 where
  pub id : List ℕ
  pub parent : List ℕ
  pub number : ℕ
  pub up : ℕ

-- a block was issued before another: its number is lower, and leads from the other to it exactly where it is the parent
pub record IsBefore (e later : Edge) : Type 0 where
  pub rises : e.number < later.number
  pub apart : bytes_eq e.id later.id ≡ false
  pub leads : bytes_eq e.id later.parent ≡ nat_eq e.number later.up
  pub first : bytes_eq later.id e.parent ≡ false

-- each before all that come after it
abbrev pub AreInOrder : List Edge → Type 0
AreInOrder [] = ⊤
AreInOrder (e ∷ edges) = AllByRecursion (IsBefore e) edges × AreInOrder edges

-- a block's number lies between its parent's and the next one, and it isn't its own parent
pub record IsOwn (next : ℕ) (e : Edge) : Type 0 where
  pub up : e.up < e.number
  pub number : e.number < next
  pub other : bytes_eq e.id e.parent ≡ false

-- the number of an identifier's block
abbrev pub number_in : List Edge → List ℕ → Option ℕ
number_in edges id = option_map (λ e. e.number) (find (λ e. bytes_eq e.id id) edges)

-- a number, if it isn't the one that is told already
abbrev pub untold : ℕ → Option ℕ → Option ℕ
untold hint None = None
untold hint (Some number) = if number == hint then None else Some number

-- whether an identifier has this number, and shares its slot with another
abbrev pub gives_way : List ℕ → List Edge → ℕ → List ℕ → List ℕ → Bool
gives_way slots edges number other id =
    slot_of (length slots) id == slot_of (length slots) other && option_map_or (λ n. n == number) (number_in edges id) false

-- what the slots tell leads to the identifier's place, or it isn't told its number
abbrev pub IsToldPlace : List Edge → List ℕ → List ℕ → Option ℕ → Type 0
IsToldPlace edges slots id (Some place) = position (λ e. bytes_eq e.id id) edges ≡ Some place
IsToldPlace edges slots id None = number_in edges id ≡ Some (hint_of slots id) → ⊥

-- blocks in order, and of each identifier the map has the number, or the slots tell it
pub record IsNumbered (edges : List Edge) (number : List ℕ → Option ℕ) (slots : List ℕ) (next : ℕ) : Type 0 where
  pub begun : 0 < next
  pub order : AreInOrder edges
  pub own : AllByRecursion (IsOwn next) edges
  pub found : (k : List ℕ) → number k ≡ untold (hint_of slots k) (number_in edges k)
  pub slotted : 0 < length edges → 0 < length slots

-- the entries, how many more there is room for, and the number of the next one
pub record Lined (T : Type 0) : Type 0 where
  pub entries : List (List ℕ × Node T)
  pub spare : ℕ
  pub next : ℕ

module _ {T : Type 0} where
  abbrev pub edge_of : List ℕ × Node T → Edge
  edge_of e = record { id = e.0; parent = e.1.parent; number = e.1.number; up = e.1.up }

  abbrev pub edges_of : List (List ℕ × Node T) → List Edge
  edges_of entries = map edge_of entries

  -- the number of the node at a place, and 0 where there is none
  abbrev pub number_at : List (List ℕ × Node T) → Option ℕ → ℕ
  number_at entries None = 0
  number_at entries (Some place) = option_map_or (λ e. e.1.number) (slice_get entries place) 0

  -- the entries with other children at a place
  abbrev pub set_children_at : List (List ℕ × Node T) → ℕ → List (List ℕ) → List (List ℕ × Node T)
  set_children_at [] place children = []
  set_children_at (e ∷ later) zero children = (e.0, record e.1 { children = children }) ∷ later
  set_children_at (e ∷ later) (suc place) children = e ∷ set_children_at later place children

  abbrev pub with_children_at : Lined T → ℕ → List (List ℕ) → Lined T
  with_children_at row place children = record row { entries = set_children_at row.entries place children }

  -- with another load
  abbrev pub set_load_at : List (List ℕ × Node T) → ℕ → T → List (List ℕ × Node T)
  set_load_at [] place load = []
  set_load_at (e ∷ later) zero load = (e.0, record e.1 { load = load }) ∷ later
  set_load_at (e ∷ later) (suc place) load = e ∷ set_load_at later place load

  abbrev pub with_load_at : Lined T → ℕ → T → Lined T
  with_load_at row place load = record row { entries = set_load_at row.entries place load }

  -- whether a node stands above the block of a number, or above one of these
  abbrev pub is_above : ℕ → List (List ℕ × Node T) → List ℕ × Node T → Bool
  is_above number kept e = nat_eq number e.1.up || list_any (λ x. nat_eq x.1.number e.1.up) kept

  -- the nodes that stay with these, in order: each is above the block of a number, or above one that stays
  abbrev pub staying : ℕ → List (List ℕ × Node T) → List (List ℕ × Node T) → List (List ℕ × Node T)
  staying number kept [] = kept
  staying number kept (e ∷ later) = if is_above number kept e then staying number (kept ++ e ∷ []) later else staying number kept later

  -- and the identifiers of the others
  abbrev pub leaving : ℕ → List (List ℕ × Node T) → List (List ℕ × Node T) → List (List ℕ)
  leaving number kept [] = []
  leaving number kept (e ∷ later) = if is_above number kept e then leaving number (kept ++ e ∷ []) later else e.0 ∷ leaving number kept later

  -- none of the first so many leaves
  pub record IsFront (number from : ℕ) (nodes : List (List ℕ × Node T)) : Type 0 where
    pub most : from ≤ length nodes
    pub none : leaving number [] (take from nodes) ≡ []

  -- the first so many end right before one of these: the next node has one of these identifiers
  abbrev pub EndsBefore : List (List ℕ) → ℕ → List (List ℕ × Node T) → Type 0
  EndsBefore ids from nodes = option_map (λ e. list_any (bytes_eq e.0) ids) (slice_get nodes from) ≡ Some true
