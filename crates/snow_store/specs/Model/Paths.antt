-- Paths by parents through the kept blocks, and what targets miss.
use Rattle.std.specs.Prelude.{ℕ, zero, suc, ◌+◌, Bool, ◌==◌, ◌||◌, List, [], ◌∷◌, reverse, Option, Some, None, is_none, bytes_eq, if◌then◌else◌}
use Rattle.std.specs.List.{list_any, list_all}
use Rattle.snow_store.specs.declared.store.KeptBlock.{KeptBlock}
use Rattle.snow_store.specs.Model.Keeping.{Store, held, highest, higher}

-- a block, where it has an identifier
abbrev pub named : List ℕ → Option KeptBlock → Option KeptBlock
named id None = None
named id (Some b) = if bytes_eq b.header.id id then Some b else None

-- a block, where there is one, and the blocks that follow it
abbrev pub with_rest : Option KeptBlock → (KeptBlock → List KeptBlock) → List KeptBlock
with_rest None rest = []
with_rest (Some b) rest = b ∷ rest b

-- the kept block with an identifier at a height, then its parent at the height below, and so on until there is none
unfoldable pub path : List KeptBlock → ℕ → List ℕ → List KeptBlock
path kept zero id = []
path kept (suc below) id = with_rest (named id (held kept (suc below))) (λ b. path kept below b.header.parent)

-- the last block of a list
abbrev pub last_of : List KeptBlock → Option KeptBlock
last_of [] = None
last_of (b ∷ []) = Some b
last_of (b ∷ c ∷ blocks) = last_of (c ∷ blocks)

-- the parent of the last block of a path, where that block isn't right above a height
abbrev pub wanted_below : ℕ → Option KeptBlock → Option (List ℕ)
wanted_below height None = None
wanted_below height (Some b) = if b.header.height == height + 1 then None else Some b.header.parent

-- whether an identifier is among some
abbrev pub has_id : List (List ℕ) → List ℕ → Bool
has_id ids id = list_any (λ x. bytes_eq x id) ids

-- the last accepted block and the kept blocks, and the targets, and those of them that were found at or below its height
pub record Fetch : Type 0 where
  pub store : Store
  pub targets : List (List ℕ)
  pub found : List (List ℕ)

-- what a target misses, by the highest block kept for it
abbrev pub missed_from : Store → List (List ℕ) → List ℕ → Option KeptBlock → Option (List ℕ)
missed_from s found target (Some b) = wanted_below s.height (last_of (path s.kept b.header.height target))
missed_from s found target None = if bytes_eq target s.last || has_id found target then None else Some target

-- what a target misses
unfoldable pub missed : Fetch → List ℕ → Option (List ℕ)
missed f target = missed_from f.store f.found target (highest f.store.kept target)

-- whether no target misses anything
abbrev pub is_whole : Fetch → Bool
is_whole f = list_all (λ t. is_none (missed f t)) f.targets

-- the higher of two blocks, where there are two
abbrev pub higher_of : Option KeptBlock → Option KeptBlock → Option KeptBlock
higher_of None other = other
higher_of (Some b) other = Some (higher b other)

-- the highest block that is kept for a target
unfoldable pub highest_target : List KeptBlock → List (List ℕ) → Option KeptBlock
highest_target kept [] = None
highest_target kept (t ∷ targets) = higher_of (highest kept t) (highest_target kept targets)

-- the path down from a block, upwards
abbrev pub path_up : List KeptBlock → Option KeptBlock → List KeptBlock
path_up kept None = []
path_up kept (Some b) = reverse (path kept b.header.height b.header.id)
