-- What a walk by the answers needs of the tree of pending blocks.
use Rattle.std.specs.Prelude.{ℕ, List, All, Option, Some, bytes_eq, if◌then◌else◌}
use Rattle.std.specs.Option.{option_map}
use Rattle.snow_base.specs.declared.block.Header.{Header}
use Rattle.snow_base.specs.Clauses.Gathered.{IsNamed}
use Rattle.snow_tree.specs.Kept.Held.{Held, entry_in}
use Rattle.snow_topo.specs.Kept.Children.{Kept}

-- the identifier of each block is 32 bytes
abbrev pub AreNamed : List Header → Type 0
AreNamed blocks = All (λ b. IsNamed b.id) blocks

-- what is kept of a block on the board
abbrev pub kept_of : Kept → Held Kept → List ℕ → Option Kept
kept_of root held id = if bytes_eq held.last id then Some root else option_map (λ e. e.load) (entry_in held.pending id)
