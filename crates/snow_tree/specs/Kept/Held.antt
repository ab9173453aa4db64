-- The pending blocks above a last accepted one, in order of issue, each with a load.
use Rattle.std.specs.Prelude.{ℕ, zero, suc, ◌-◌, Bool, not, ◌&&◌, List, [], ◌∷◌, ◌++◌, length, take, map, filter, find, Option, bytes_eq}
use Rattle.std.specs.List.{position}
use Rattle.std.specs.Option.{option_map}
use Rattle.snow_base.specs.declared.block.Header.{Header}
use Rattle.snow_base.specs.Model.Ancestry.{descends, child_on}

-- a pending block and its load
pub record Entry (T : Type 0) : Type 0 where
  pub block : Header
  pub load : T

-- the last accepted block with its height, the pending ones, and those that the last acceptance rejected
pub record Held (T : Type 0) : Type 0 where
  pub last : List ℕ
  pub height : ℕ
  pub pending : List (Entry T)
  pub rejected : List (List ℕ)

-- the children of a block, in order of issue
abbrev pub children_of : List Header → List ℕ → List (List ℕ)
children_of blocks parent = map (λ b. b.id) (filter (λ b. bytes_eq b.parent parent) blocks)

module _ {T : Type 0} where
  abbrev pub blocks_in : List (Entry T) → List Header
  blocks_in pending = map (λ e. e.block) pending

  -- nothing is pending above this block
  abbrev pub begun : List ℕ → ℕ → Held T
  begun last height = record { last = last; height = height; pending = []; rejected = [] }

  -- a block is issued: it is the last pending one, and no block is told as rejected any more
  abbrev pub inserted : Held T → Header → T → Held T
  inserted held block load = record held { pending = held.pending ++ record { block = block; load = load } ∷ []; rejected = [] }

  -- the block that was issued last is taken back
  abbrev pub taken_back : Held T → Held T
  taken_back held = record held { pending = take (length held.pending - 1) held.pending }

  -- the pending blocks with another load at a place
  abbrev pub set_load : List (Entry T) → ℕ → T → List (Entry T)
  set_load [] place load = []
  set_load (e ∷ later) zero load = record e { load = load } ∷ later
  set_load (e ∷ later) (suc place) load = e ∷ set_load later place load

  abbrev pub with_load : Held T → ℕ → T → Held T
  with_load held place load = record held { pending = set_load held.pending place load }

  -- where a pending block stands in order of issue
  abbrev pub place_in : List (Entry T) → List ℕ → Option ℕ
  place_in pending id = position (λ e. bytes_eq e.block.id id) pending

  -- the pending block of an identifier
  abbrev pub entry_in : List (Entry T) → List ℕ → Option (Entry T)
  entry_in pending id = find (λ e. bytes_eq e.block.id id) pending

  -- the child of the last accepted block that a pending block is, or from which it descends
  abbrev pub ancestor_in : Held T → List ℕ → Option (List ℕ)
  ancestor_in held id = option_map (λ b. b.id) (child_on (blocks_in held.pending) held.last id)

  -- whether a pending block is this one or descends from it
  abbrev pub stays_with : List (Entry T) → List ℕ → Entry T → Bool
  stays_with pending child e = descends (blocks_in pending) child e.block.id

  -- a child is the last accepted block: its descendants alone stay, and those that neither are it nor descend from it are rejected
  abbrev pub promoted : Held T → Header → Held T
  promoted held child = record {
    last = child.id;
    height = child.height;
    pending = filter (λ e. stays_with held.pending child.id e && not (bytes_eq e.block.id child.id)) held.pending;
    rejected = map (λ e. e.block.id) (filter (λ e. not (stays_with held.pending child.id e)) held.pending);
  }
