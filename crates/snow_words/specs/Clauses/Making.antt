-- What a function that makes bytes of words answered, appended and left.
use Rattle.std.specs.Prelude.{◌≡◌, ℕ, ◌+◌, ◌-◌, List, ◌++◌, length, replicate, Result, Ok, Err, ⊤}
use Rattle.std.specs.List.{flat_map}
use Rattle.snow_text_model.specs.declared.refusal.Reason.{Reason}
use Rattle.snow_words.specs.declared.stop.Why.{Why}
use Rattle.snow_words.specs.declared.stop.Why.TheVariants as why
use Rattle.snow_words.specs.declared.stop.Stop.{Stop}
use Rattle.snow_words.specs.declared.stop.Stop.TheVariants as stop
use Rattle.snow_text_model.specs.Model.Words.{Word, Halt, ◌>>=◌}
use Rattle.snow_text_model.specs.Model.Bytes.{again, exactly}

-- bytes behind others
abbrev pub onto : {E : Type 0} → List ℕ → Result (List ℕ) E → Result (List ℕ) E
onto front (Ok bytes) = Ok (front ++ bytes)
onto front (Err e) = Err e

-- items behind others, which are told as their bytes and how many they are
abbrev pub tallied : {E : Type 0} → List ℕ → ℕ → Result (List (List ℕ)) E → Result (List ℕ × ℕ) E
tallied front n (Ok items) = Ok (front ++ flat_map (λ x. x) items, n + length items)
tallied front n (Err e) = Err e

-- what a field says, behind other bytes
abbrev pub ahead : {E : Type 0} → List ℕ → Result (List ℕ × List Word) E → Result (List ℕ × List Word) E
ahead front (Ok read) = Ok (front ++ read.0, read.1)
ahead front (Err e) = Err e

-- the words say what stands now, or nothing for this reason, or memory ran out
abbrev pub Tells : {A : Type 0} → Result (Unit {0}) Why → A → Result A Reason → Type 0
Tells (Ok u) now told = told ≡ Ok now
Tells (Err why.Memory) now told = ⊤
Tells (Err (why.Not reason)) now told = told ≡ Err reason

-- the same where a reason tells the words that are left
abbrev pub Reads : {A : Type 0} → Result (Unit {0}) Stop → A → Result A Halt → Type 0
Reads (Ok u) now told = told ≡ Ok now
Reads (Err stop.Memory) now told = ⊤
Reads (Err (stop.At reason left)) now told = told ≡ Err (record { why = reason; left = left })

-- so many bytes, where zeros fill up what was told
abbrev pub filled : ℕ → Result (List ℕ) Reason → Result (List ℕ) Reason
filled size told = told >>= (λ front. exactly size (front ++ replicate (size - length front) 0))

-- a byte that was told, as often as was told
abbrev pub repeated : Result (List ℕ) Reason → Result ℕ Reason → Result (List ℕ) Reason
repeated told times = told >>= (λ bytes. times >>= again bytes)

-- exactly so many of the bytes that were told
abbrev pub sized_as : ℕ → Result (List ℕ) Reason → Result (List ℕ) Reason
sized_as size told = told >>= exactly size
