-- The indexes of the kept blocks: by height, and by identifier.
use Rattle.std.specs.Prelude.{◌≡◌, ℕ, ◌+◌, ◌^◌, ◌<◌, ◌≤◌, Bool, true, ◌==◌, List, [], ◌∷◌, length, Option, Some, None, nat_lt, bytes_eq, if◌then◌else◌}
use Rattle.std.specs.BTreeMap.{BTreeMap, get}
use Rattle.std.specs.Option.{option_map}
use Rattle.std.specs.Ordering.{nat_cmp}
use Rattle.snow_base.specs.declared.limits.TheConstants.{MOST_KEPT}
use Rattle.snow_interval.specs.Model.Heights.{Heights}
use Rattle.snow_map.specs.Clauses.Entries.{value_of}
use Rattle.snow_store.specs.declared.store.KeptBlock.{KeptBlock}
use Rattle.snow_store.specs.declared.index.Children.{Children}
use Rattle.snow_store.specs.declared.index.Links.{Links}
use Rattle.snow_store.specs.Model.Keeping.{Store, highest}
use Rattle.snow_store.specs.Laws.Linking.{IsLinked, held_heights}

-- whether all is kept as it should be, and the kept blocks
pub record Shelf : Type 0 where
  pub whole : Bool
  pub store : Store

-- at which place the block at a height came, the first one at place 0
unfoldable pub place_of : List KeptBlock → ℕ → Option ℕ
place_of [] height = None
place_of (b ∷ kept) height = if b.header.height == height then Some (length kept) else place_of kept height

-- the highest height at which an identifier is kept
abbrev pub top_of : List KeptBlock → List ℕ → Option ℕ
top_of kept id = option_map (λ b. b.header.height) (highest kept id)

-- the lower of a height and another, if there is one
abbrev pub lower_height : ℕ → Option ℕ → ℕ
lower_height h None = h
lower_height h (Some k) = if nat_lt k h then k else h

-- the higher of a height and another, if there is one
abbrev pub higher_height : ℕ → Option ℕ → ℕ
higher_height h None = h
higher_height h (Some k) = if nat_lt h k then k else h

-- the two lowest heights of children, with one child more
abbrev pub with_child : ℕ → Option Children → Children
with_child h None = record { lowest = h; second = None }
with_child h (Some c) = if nat_lt h c.lowest then record { lowest = h; second = Some c.lowest } else record { lowest = c.lowest; second = Some (lower_height h c.second) }

-- the two lowest heights at which children of a block are kept
unfoldable pub children_of : List KeptBlock → List ℕ → Option Children
children_of [] parent = None
children_of (b ∷ kept) parent = if bytes_eq b.header.parent parent then Some (with_child b.header.height (children_of kept parent)) else children_of kept parent

-- the lowest height at which a child is kept that isn't right above a height
abbrev pub stray_height : ℕ → Option Children → Option ℕ
stray_height height None = None
stray_height height (Some c) = if c.lowest == height + 1 then c.second else Some c.lowest

abbrev pub HasPlaces : BTreeMap ℕ ℕ → List KeptBlock → Type 0
HasPlaces places kept = (h : ℕ) → get nat_cmp places h ≡ place_of kept h

-- at which heights an identifier's block is kept, and children of it
abbrev pub links_of : List KeptBlock → List ℕ → Links
links_of kept id = record { top = top_of kept id; children = children_of kept id }

-- the same with one height more, or one child more
abbrev pub with_top : ℕ → Links → Links
with_top h l = record { top = Some (higher_height h l.top); children = l.children }

abbrev pub adopting : ℕ → Links → Links
adopting h l = record { top = l.top; children = Some (with_child h l.children) }

-- what is kept of an identifier, where something is
abbrev pub links_or_none : Option Links → Links
links_or_none None = record { top = None; children = None }
links_or_none (Some l) = l

abbrev pub links_at : List (List ℕ × Links) → List ℕ → Links
links_at by_id id = links_or_none (value_of by_id id)

abbrev pub HasLinks : List (List ℕ × Links) → List KeptBlock → Type 0
HasLinks by_id kept = (id : List ℕ) → links_at by_id id ≡ links_of kept id

-- the kept blocks are linked, at most so many, and each index is theirs
pub record IsStored (s : Store) (by_height : BTreeMap ℕ ℕ) (by_id : List (List ℕ × Links)) (above : ℕ) (heights : Heights) : Type 0 where
  pub linked : IsLinked s
  pub few : length s.kept ≤ MOST_KEPT
  pub places : HasPlaces by_height s.kept
  pub links : HasLinks by_id s.kept
  pub floor : above ≡ s.height
  pub runs : (h : ℕ) → heights h ≡ held_heights s.kept h
  pub fits : (h : ℕ) → held_heights s.kept h ≡ true → h < 2 ^ 64
