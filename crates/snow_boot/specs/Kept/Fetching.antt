-- What is known while blocks are fetched.
use Rattle.std.specs.Prelude.{◌≡◌, Bool, true, Result, Ok, Err, ⊤}
use Rattle.snow_store.specs.declared.needs.Due.{Due}
use Rattle.snow_store.specs.declared.stop.BootStop.{BootStop}
use Rattle.snow_store.specs.declared.stop.BootStop.TheVariants as stop
use Rattle.snow_store.specs.Model.Paths.{Fetch}

-- whether all is kept as it should be; which missed identifiers no request may name yet; and what is kept, wanted and found
pub record Hunt : Type 0 where
  pub whole : Bool
  pub due : Due
  pub fetch : Fetch

-- what is expected came, or want of memory
abbrev pub Fetches : {T : Type 0} → Result T BootStop → Hunt → Result Fetch BootStop → Type 0
Fetches (Ok u) hunt expected = (hunt.whole ≡ true) × (expected ≡ Ok hunt.fetch)
Fetches (Err stop.Memory) hunt expected = ⊤
Fetches (Err why) hunt expected = expected ≡ Err why
