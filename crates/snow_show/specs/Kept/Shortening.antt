-- The short form of bytes, run by run from the front.
use Rattle.std.specs.Prelude.{ℕ, ◌+◌, ◌==◌, ◌%◌, nat_lt, if◌then◌else◌, List, [], ◌∷◌, ◌++◌, replicate}
use Rattle.hex.specs.Hex.{encode_lower}
use Rattle.snow_show.specs.declared.bytes.Last.{Last}
use Rattle.snow_show.specs.declared.bytes.Last.TheVariants as last
use Rattle.snow_text_model.specs.Model.Bytes.{Again, piece_text}

-- how often a number stands in front
unfoldable pub times_in_front : ℕ → List ℕ → ℕ
times_in_front x [] = 0
times_in_front x (y ∷ ys) = if y == x then times_in_front x ys + 1 else 0

-- how long the first run is, where a number stands so often, and once more, in front: what is too much for whole runs comes first
abbrev pub first_run : ℕ → ℕ
first_run more = more % 4194304 + 1

-- a `+` where digits would run into a byte again and again
abbrev pub plus_before_digits : Last → List ℕ
plus_before_digits last.Nothing = []
plus_before_digits last.Digits = []
plus_before_digits last.Times = 43 ∷ []

abbrev pub plus_before_times : Last → List ℕ
plus_before_times last.Nothing = []
plus_before_times last.Digits = 43 ∷ []
plus_before_times last.Times = 43 ∷ []

-- what stands at the end behind a run
abbrev pub behind_run : ℕ → Last
behind_run times = if nat_lt times 3 then last.Digits else last.Times

-- the text of a run behind what stands there
abbrev pub run_text : Last → ℕ × ℕ → List ℕ
run_text last run =
    if nat_lt run.1 3
    then plus_before_digits last ++ encode_lower (replicate run.1 run.0)
    else plus_before_times last ++ piece_text (Again run.0 run.1)

-- the text of runs behind what stands there
unfoldable pub runs_text : Last → List (ℕ × ℕ) → List ℕ
runs_text last [] = []
runs_text last (run ∷ runs) = run_text last run ++ runs_text (behind_run run.1) runs
