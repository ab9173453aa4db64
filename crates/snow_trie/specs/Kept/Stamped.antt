-- The counters of a conflict that a tree stands for.
use Rattle.std.specs.Prelude.{ℕ, zero, suc, ◌+◌, ◌-◌, Bool, true, false, List, [], ◌∷◌, if◌then◌else◌}
use Rattle.snow_base.specs.Model.Identifier.{bit}
use Rattle.snow_flake.specs.Model.Counter.{Counter, Decided, admits}
use Rattle.snow_board.specs.Model.Conflict.{Counters, Blank, At}
use Rattle.snow_trie.specs.Kept.Counted.{run_counter, fork_counter}
use Rattle.snow_trie.specs.Kept.Tree.{Tree, Tip, Line, Two}

-- some bits of an identifier, from a place on
abbrev pub span : List ℕ → ℕ → ℕ → List Bool
span id from zero = []
span id from (suc n) = bit id from ∷ span id (from + 1) n

-- those from a place up to, not including, another
abbrev pub between : List ℕ → ℕ → ℕ → List Bool
between id from to = span id from (to - from)

-- a counter with all that is below it on the side of a bit
abbrev pub linked : Bool → Counter → Counters → Counters
linked true c below = At c Blank below
linked false c below = At c below Blank

-- a counter for each of these bits, one below the other
abbrev pub strand : List Bool → (Bool → Counter) → Counters → Counters
strand [] c rest = rest
strand (b ∷ front) c rest = linked b (c b) (strand front c rest)

-- a counter with what is below it, where that is still possible
abbrev pub pruned : Counter → Counters → Counters → Counters
pruned c z o = At c (if admits c false then z else Blank) (if admits c true then o else Blank)

-- those of a tree that begins at a bit, after so many polls
abbrev pub counters : ℕ → ℕ → Tree → Counters
counters now from (Tip id) = Blank
counters now from (Line run below) = strand (between run.id from run.to) (run_counter now run) (counters now run.to below)
counters now from (Two fork z o) = pruned (fork_counter now fork) (counters now (from + 1) z) (counters now (from + 1) o)

-- with those of the decided prefix, which a leader's first bits say
abbrev pub whole : ℕ → ℕ → List ℕ → Tree → Counters
whole now decided leader tree = strand (between leader 0 decided) Decided (counters now decided tree)
