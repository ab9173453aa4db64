-- Where the first block of each identifier stands among those that a drill made.
use Rattle.std.specs.Prelude.{◌≡◌, ℕ, List, Option, Some}
use Rattle.std.specs.List.{slice_get}
use Rattle.std.specs.Option.{option_map}
use Rattle.snow_base.specs.declared.block.Header.{Header}
use Rattle.snow_drill.specs.Model.Made.{block_of}

-- an identifier finds the place of its first block, and none where the drill made none
abbrev pub HasFirsts : List Header → (List ℕ → Option ℕ) → Type 0
HasFirsts made first = (id : List ℕ) → option_map (slice_get made) (first id) ≡ option_map Some (block_of made id)
