-- How what is missed is known from one block to the next.
use Rattle.std.specs.Prelude.{◌≡◌, ℕ, true, List, Option, Ok}
use Rattle.std.specs.BTreeMap.{BTreeMap}
use Rattle.snow_base.specs.declared.block.Header.{Header}
use Rattle.snow_store.specs.declared.needs.Due.{Due}
use Rattle.snow_store.specs.declared.stop.Verdict.{Verdict}
use Rattle.snow_store.specs.Kept.Indexing.{Shelf}
use Rattle.snow_store.specs.Model.Keeping.{Store, taken}
use Rattle.snow_store.specs.Laws.Linking.{IsLinked}
use Rattle.snow_store.specs.Model.Needing.{is_missed, HasNeeds, Covers}
use Rattle.snow_store.specs.Model.Paths.{Fetch, missed}

abbrev pub fetch_by : Store → List (List ℕ) → List (List ℕ) → Fetch
fetch_by s targets found = record { store = s; targets = targets; found = found }

-- the store is as it should be, and what the targets miss is known
abbrev pub AreKnown : Shelf → BTreeMap (List ℕ) ℕ → List (List ℕ) → List (List ℕ) → Type 0
AreKnown shelf needs targets found = (shelf.whole ≡ true) × HasNeeds needs (fetch_by shelf.store targets found)

-- a block was taken, before which what is missed was known, as was what it missed itself
pub record MayRenew (f : Fetch) (b : Header) (verdict : Verdict) (before : Option (List ℕ)) (needs : BTreeMap (List ℕ) ℕ) : Type 0 where
  pub linked : IsLinked f.store
  pub fits : taken f.store b ≡ Ok verdict
  pub itself : before ≡ missed f b.id
  pub has : HasNeeds needs f

-- what is missed then is known again, and what is due covers all that is newly missed
pub record IsRenewed (f g : Fetch) (before after : Due) (needs : BTreeMap (List ℕ) ℕ) : Type 0 where
  pub has : HasNeeds needs g
  pub due : Covers before (is_missed f f.targets) after (is_missed g g.targets)
