-- What a block that is missed brings.
use Rattle.std.specs.Prelude.{◌≡◌, ℕ, true, List, Some, None, Ok, ◌⊎◌}
use Rattle.snow_store.specs.declared.store.KeptBlock.{KeptBlock}
use Rattle.snow_store.specs.declared.stop.Verdict.TheVariants as verdict
use Rattle.snow_store.specs.Laws.Linking.{IsLinked}
use Rattle.snow_store.specs.Model.Needing.{need_at}
use Rattle.snow_store.specs.Model.Paths.{Fetch, has_id, missed}
use Rattle.snow_store.specs.Clauses.Coming.{after_verdict, came}

-- the target's path is longer: it goes on with the block and with what is kept below it, so the target misses what is missed there; or
-- the target is found, and misses nothing
abbrev pub Advances : Fetch → Fetch → KeptBlock → List ℕ → Type 0
Advances f g b t = ((g ≡ after_verdict f b verdict.Keeps) × (missed g t ≡ need_at g.store b.header.height)) ⊎ ((t ≡ b.header.id) × (missed g t ≡ None))

-- where a target misses a block and it comes, the run stops or the target advances
abbrev pub ProgressLaw : Type 0
ProgressLaw = (f g : Fetch) (b : KeptBlock) (t : List ℕ) → IsLinked f.store → has_id f.targets t ≡ true → missed f t ≡ Some b.header.id → came f b ≡ Ok g → Advances f g b t
