-- Kept blocks that fit one another, and the law of their paths.
use Rattle.std.specs.Prelude.{◌≡◌, ℕ, zero, suc, ◌+◌, ◌-◌, ◌<◌, ◌≤◌, true, List, [], ◌∷◌, ◌++◌, Option, Some, None, is_some, Ok, ⊤}
use Rattle.snow_store.specs.declared.store.KeptBlock.{KeptBlock}
use Rattle.snow_store.specs.declared.stop.Verdict.TheVariants as verdict
use Rattle.snow_interval.specs.Model.Heights.{Heights, lowest}
use Rattle.snow_store.specs.Model.Keeping.{Store, held, highest, taken, keeping}
use Rattle.snow_store.specs.Model.Paths.{Fetch, path, last_of, has_id, is_whole, highest_target, path_up}

-- no two of the blocks are at one height
abbrev pub AreApart : List KeptBlock → Type 0
AreApart [] = ⊤
AreApart (b ∷ kept) = (held kept b.header.height ≡ None) × AreApart kept

-- all blocks are above a height
abbrev pub AreAbove : ℕ → List KeptBlock → Type 0
AreAbove height [] = ⊤
AreAbove height (b ∷ kept) = (height < b.header.height) × AreAbove height kept

-- the kept blocks are above the last accepted one, no two at one height; the block right above it is its child, and of two at
-- neighbouring heights the higher is the lower one's
pub record IsLinked (s : Store) : Type 0 where
  pub apart : AreApart s.kept
  pub above : AreAbove s.height s.kept
  pub founded : (b : KeptBlock) → held s.kept (s.height + 1) ≡ Some b → b.header.parent ≡ s.last
  pub linked : (h : ℕ) (x b : KeptBlock) → held s.kept h ≡ Some x → held s.kept (h + 1) ≡ Some b → b.header.parent ≡ x.header.id

-- the heights at which blocks are kept
abbrev pub held_heights : List KeptBlock → Heights
held_heights kept h = is_some (held kept h)

-- a block, where there is one
abbrev pub listed : Option KeptBlock → List KeptBlock
listed None = []
listed (Some b) = b ∷ []

-- the blocks at so many heights from one on, upwards
unfoldable pub upward : List KeptBlock → ℕ → ℕ → List KeptBlock
upward kept from zero = []
upward kept from (suc n) = listed (held kept from) ++ upward kept (suc from) n

-- the path down from a block is whole: it has a block at each height from right above the last accepted one up to that block, and
-- the highest block that is kept for any target is the one at its height
pub record IsWholePath (f : Fetch) (top : KeptBlock) : Type 0 where
  pub upwards : path_up f.store.kept (Some top) ≡ upward f.store.kept (f.store.height + 1) (top.header.height - f.store.height)
  pub unbroken : (h : ℕ) → f.store.height < h → h ≤ top.header.height → held_heights f.store.kept h ≡ true
  pub others : (t : List ℕ) (b : KeptBlock) → has_id f.targets t ≡ true → highest f.store.kept t ≡ Some b
      → (f.store.height < b.header.height) × (b.header.height ≤ top.header.height) × (held f.store.kept b.header.height ≡ Some b)

-- a block that is kept leaves the kept blocks linked
abbrev pub LinkedLaw : Type 0
LinkedLaw = (s : Store) (b : KeptBlock) → IsLinked s → taken s b.header ≡ Ok verdict.Keeps → IsLinked (keeping s b)

-- the path of a kept block ends at the lowest height of the run of held heights up to its own
abbrev pub RunLaw : Type 0
RunLaw = (s : Store) (b : KeptBlock) → IsLinked s → held s.kept b.header.height ≡ Some b
    → last_of (path s.kept b.header.height b.header.id) ≡ held s.kept (lowest (held_heights s.kept) b.header.height)

-- where no target misses a block, the path of the highest kept target is whole, and every other kept target lies on it
abbrev pub PathLaw : Type 0
PathLaw = (f : Fetch) (top : KeptBlock) → IsLinked f.store → is_whole f ≡ true → highest_target f.store.kept f.targets ≡ Some top → IsWholePath f top
