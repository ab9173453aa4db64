-- What is true of each tree that is kept.
use Rattle.std.specs.Prelude.{◌≡◌, ℕ, ◌+◌, ◌<◌, ◌≤◌, Bool, true, false, ⊤}
use Rattle.snow_flake.specs.Model.Counter.{Counter}
use Rattle.snow_board.specs.Model.Conflict.{Counters, Blank, At}
use Rattle.snow_board.specs.Laws.ConfidenceLaw.{Bounds}
use Rattle.snow_trie.specs.Kept.Tree.{Tree, Tip, Line, Two}

-- the nodes cover the bits from a place to the end, without a gap
abbrev pub IsPlaced : ℕ → Tree → Type 0
IsPlaced from (Tip id) = from ≡ 256
IsPlaced from (Line run below) = (from < run.to) × (run.to ≤ 256) × IsPlaced run.to below
IsPlaced from (Two fork z o) = (from < 256) × IsPlaced (from + 1) z × IsPlaced (from + 1) o

-- no node was seen by a poll that is still to come
abbrev pub IsStamped : ℕ → Tree → Type 0
IsStamped now (Tip id) = ⊤
IsStamped now (Line run below) = (run.seen ≤ now) × IsStamped now below
IsStamped now (Two fork z o) = (fork.seen ≤ now) × IsStamped now z × IsStamped now o

-- the first node isn't decided
abbrev pub IsOpenFirst : Tree → Type 0
IsOpenFirst (Tip id) = ⊤
IsOpenFirst (Line run below) = run.counter.final ≡ false
IsOpenFirst (Two fork z o) = fork.counter.final ≡ false

-- no node is decided
abbrev pub IsOpen : Tree → Type 0
IsOpen (Tip id) = ⊤
IsOpen (Line run below) = (run.counter.final ≡ false) × IsOpen below
IsOpen (Two fork z o) = (fork.counter.final ≡ false) × IsOpen z × IsOpen o

-- a counter bounds all of these on one of its sides
abbrev pub IsBelow : Counter → Bool → Counters → Type 0
IsBelow upper side Blank = ⊤
IsBelow upper side (At c z o) = Bounds upper side c × IsBelow upper side z × IsBelow upper side o

-- the confidence law in one conflict: each counter bounds those to which it leads
abbrev pub IsOrdered : Counters → Type 0
IsOrdered Blank = ⊤
IsOrdered (At c z o) = IsBelow c false z × IsBelow c true o × IsOrdered z × IsOrdered o
