-- The blocks that a drill makes, and what it picks of them.
use Rattle.std.specs.Prelude.{ℕ, ◌-◌, List, ◌++◌, length, find, Option, bytes_eq, ◌==◌, if◌then◌else◌}
use Rattle.std.specs.Int.{w64, to_be_bytes}
use Rattle.std.specs.List.{slice_get}
use Rattle.std.specs.Option.{option_map_or}
use Rattle.sha2.specs.Sha256.{sha256}
use Rattle.snow_base.specs.declared.block.Header.{Header}
use Rattle.snow_drill.specs.Model.Generator.{picked}
use Rattle.snow_drill.specs.Kept.Told.{nobody}

-- the block of an identifier, where the drill made it
abbrev pub block_of : List Header → List ℕ → Option Header
block_of made id = find (λ b. bytes_eq b.id id) made

-- the height of a block; that of the last accepted one of the Start is 0
abbrev pub height_in : List Header → List ℕ → ℕ
height_in made id = option_map_or (λ b. b.height) (block_of made id) 0

-- the parent of a block that the drill made; any other is given itself
abbrev pub below : List Header → List ℕ → List ℕ
below made id = option_map_or (λ b. b.parent) (block_of made id) id

-- the parent of a new block: the tip, or one time in four the tip's parent
abbrev pub chosen_by : List Header → List ℕ → ℕ → List ℕ
chosen_by made tip x = if picked 4 x == 0 then below made tip else tip

-- the newest block
abbrev pub newest : List Header → List ℕ
newest made = option_map_or (λ b. b.id) (slice_get made (length made - 1)) nobody

-- the block that a node votes for: the tip, or one time in sixteen the newest
abbrev pub voted_by : List Header → List ℕ → ℕ → List ℕ
voted_by made tip x = if picked 16 x == 0 then newest made else tip

-- the bytes of a block of the tally chain: its parent, its height, an amount, and a number of its own
abbrev pub bytes_of : List ℕ → ℕ → ℕ → ℕ → List ℕ
bytes_of parent height amount number = parent ++ to_be_bytes w64 height ++ to_be_bytes w64 amount ++ to_be_bytes w64 number

-- the header of a block with these bytes
abbrev pub headed : List ℕ → ℕ → List ℕ → Header
headed parent height bytes = record { id = sha256 bytes; parent = parent; height = height }
