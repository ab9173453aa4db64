-- The pending blocks after a block was issued: its parent has one child more.
use Rattle.std.specs.Prelude.{List, ℕ, map, bytes_eq, if◌then◌else◌}
use Rattle.snow_base.specs.declared.block.Header.{Header}
use Rattle.snow_flake.specs.Model.Parameters.{Parameters}
use Rattle.snow_tree.specs.Kept.Held.{Entry, Held}
use Rattle.snow_topo.specs.Kept.Children.{Kept, gained}

-- what is kept of a block after a child was issued, where the block is the child's parent
abbrev pub gained_by : Parameters → Header → List ℕ → Kept → Kept
gained_by p child id kept = if bytes_eq id child.parent then gained p child.id kept else kept

-- a pending block then
abbrev pub with_gain : Parameters → Header → Entry Kept → Entry Kept
with_gain p child e = record e { load = gained_by p child e.block.id e.load }

-- all of them
abbrev pub all_gained : Parameters → Header → Held Kept → Held Kept
all_gained p child held = record held { pending = map (with_gain p child) held.pending }
