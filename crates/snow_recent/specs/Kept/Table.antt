-- What the numbers of the index tell of an identifier.
use Rattle.std.specs.Prelude.{◌≡◌, ℕ, List, All, Contains, Option, Some, None}
use Rattle.std.specs.List.{slice_get}
use Rattle.std.specs.Option.{option_and_then}
use Rattle.snow_recent.specs.Kept.Index.{id_of, place_of}

-- the number that has the identifier, and none exactly where no number has it
abbrev pub IsLatest : (ℕ → List ℕ) → List ℕ → List ℕ → Option ℕ → Type 0
IsLatest id numbers key (Some n) = Contains numbers n × (id n ≡ key)
IsLatest id numbers key None = All (λ n. id n ≡ key → ⊥) numbers

-- the entry of an identifier's latest number among these, and none where it has none
abbrev pub IsFiled : {T : Type 0} → (T → List ℕ) → List T → ℕ → List ℕ → List ℕ → Option T → Type 0
IsFiled id entries first numbers key entry =
    (n : Option ℕ) × IsLatest (id_of id entries first) numbers key n × (entry ≡ option_and_then (λ n. slice_get entries (place_of first n)) n)
