-- What is kept and found after a block came.
use Rattle.std.specs.Prelude.{ℕ, ◌&&◌, not, List, [], ◌∷◌, ◌++◌, Result, Ok, Err, if◌then◌else◌}
use Rattle.snow_store.specs.declared.store.KeptBlock.{KeptBlock}
use Rattle.snow_store.specs.declared.stop.BootStop.{BootStop}
use Rattle.snow_store.specs.declared.stop.Verdict.{Verdict}
use Rattle.snow_store.specs.declared.stop.Verdict.TheVariants as verdict
use Rattle.snow_store.specs.Model.Keeping.{taken, after_taking}
use Rattle.snow_store.specs.Model.Paths.{Fetch, has_id}

-- a target that came at or below the last accepted height is found, and noted once
abbrev pub noted : List (List ℕ) → List (List ℕ) → List ℕ → List (List ℕ)
noted targets found id = if has_id targets id && not (has_id found id) then found ++ id ∷ [] else found

-- what is kept and found after a block was taken
abbrev pub after_verdict : Fetch → KeptBlock → Verdict → Fetch
after_verdict f b verdict.Keeps = record { store = after_taking f.store b verdict.Keeps; targets = f.targets; found = f.found }
after_verdict f b verdict.Known = f
after_verdict f b verdict.Low = record { store = f.store; targets = f.targets; found = noted f.targets f.found b.header.id }

-- the same, where no stop came
abbrev pub if_taken : Fetch → KeptBlock → Result Verdict BootStop → Result Fetch BootStop
if_taken f b (Err why) = Err why
if_taken f b (Ok verdict) = Ok (after_verdict f b verdict)

-- what is kept and found after a block came
abbrev pub came : Fetch → KeptBlock → Result Fetch BootStop
came f b = if_taken f b (taken f.store b.header)
