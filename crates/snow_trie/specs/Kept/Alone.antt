-- The counters of an identifier that stands alone: one for all its bits.
use Rattle.std.specs.Prelude.{ℕ, List, [], ◌∷◌}
use Rattle.snow_flake.specs.Model.Parameters.{Parameters}
use Rattle.snow_flake.specs.Kept.Instance.{Single}
use Rattle.snow_trie.specs.declared.run.Run.{Run}
use Rattle.snow_trie.specs.Kept.Tree.{Tree, Tip, Line}
use Rattle.snow_trie.specs.Kept.Stamped.{counters}
use Rattle.snow_trie.specs.Kept.Whole.{Compressed}

-- the node that it is, up to its end, as no poll came to it yet
abbrev pub run_of : List ℕ → Single → Run
run_of id counter = record { id = id; to = 256; counter = counter; seen = 0 }

-- a node that is a whole tree
abbrev pub last : Run → Tree
last run = Line run (Tip run.id)

-- what is seen of it
abbrev pub shown_alone : Parameters → List ℕ → Single → Compressed
shown_alone p id counter = record { parameters = p; ids = id ∷ []; counters = counters 0 0 (last (run_of id counter)); nodes = 1 }
