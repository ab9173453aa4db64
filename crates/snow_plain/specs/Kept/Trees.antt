-- The counters that a tree of instances holds.
use Rattle.snow_flake.specs.Kept.Instance.{counter_of}
use Rattle.snow_plain.specs.declared.tree.Tree.{Tree}
use Rattle.snow_plain.specs.declared.tree.Tree.TheVariants.{Leaf, Fork'}
use Rattle.snow_board.specs.Model.Conflict.{Counters, Blank, At}

abbrev pub counters_of : Tree → Counters
counters_of Leaf = Blank
counters_of (Fork' c p z q o) = At (counter_of c) (counters_of z) (counters_of o)
