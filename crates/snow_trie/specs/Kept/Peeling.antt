-- A tree whose decided first nodes are taken off, and what it answers.
use Rattle.std.specs.Prelude.{ℕ, ◌+◌, List, if◌then◌else◌}
use Rattle.snow_flake.specs.Model.Rule.{Answer, answer_of}
use Rattle.snow_trie.specs.Kept.Counted.{fork_counter}
use Rattle.snow_trie.specs.Kept.Tree.{Tree, Tip, Line, Two}

-- what is left, with the bit at which it begins
abbrev pub peeled : ℕ → Tree → ℕ × Tree
peeled from (Tip id) = (from, Tip id)
peeled from (Line run below) = if run.counter.final then peeled run.to below else (from, Line run below)
peeled from (Two fork z o) =
    if fork.counter.final then (if fork.counter.standing.flake then peeled (from + 1) o else peeled (from + 1) z) else (from, Two fork z o)

-- the identifier to which the answers lead
abbrev pub preferred : Answer → Tree → List ℕ
preferred answer (Tip id) = id
preferred answer (Line run below) = preferred answer below
preferred answer (Two fork z o) = if answer_of answer (fork_counter 0 fork) then preferred answer o else preferred answer z

-- an identifier that stands in the tree
abbrev pub first_leaf : Tree → List ℕ
first_leaf (Tip id) = id
first_leaf (Line run below) = first_leaf below
first_leaf (Two fork z o) = first_leaf z
