-- A tree to which an identifier is added.
use Rattle.std.specs.Prelude.{ℕ, zero, suc, ◌+◌, ◌-◌, Bool, false, List, Option, Some, None, nat_lt, if◌then◌else◌}
use Rattle.std.specs.Bool.{beq}
use Rattle.snow_base.specs.Model.Identifier.{bit}
use Rattle.snow_flake.specs.Kept.Instance.{at_bit}
use Rattle.snow_trie.specs.declared.run.Run.{Run}
use Rattle.snow_trie.specs.declared.fork.Fork.{Fork}
use Rattle.snow_trie.specs.Kept.Tree.{Tree, Tip, Line, Two}

-- the first of some bits, from a place on, in which two identifiers differ
abbrev pub differs_at : List ℕ → List ℕ → ℕ → ℕ → Option ℕ
differs_at a b from zero = None
differs_at a b from (suc n) = if beq (bit a from) (bit b from) then differs_at a b (from + 1) n else Some from

-- the first bit of a unary node in which an identifier differs
abbrev pub parting : ℕ → List ℕ → Tree → Option ℕ
parting from id (Line run below) = differs_at run.id id from (run.to - from)
parting from id _ = None

-- the unary node of an identifier that was just added
abbrev pub fresh_run : List ℕ → Run
fresh_run id = record { id = id; to = 256; counter = record { strength = 0; confidence = 0; final = false }; seen = 0 }

-- what stands from a bit on for an identifier that was just added
abbrev pub branch : List ℕ → ℕ → Tree
branch id at = if nat_lt at 256 then Line (fresh_run id) (Tip id) else Tip id

-- what is left of a unary node behind a bit, with what is below it
abbrev pub after : ℕ → Run → Tree → Tree
after at run below = if nat_lt (at + 1) run.to then Line run below else below

-- and what is left of it before
abbrev pub before : ℕ → ℕ → Run → Tree → Tree
before from at run below = if nat_lt from at then Line (record run { to = at }) below else below

-- the counter of a unary node as that of one bit
abbrev pub fork_of : Run → Bool → Fork
fork_of run side = record { counter = at_bit run.counter side; seen = run.seen }

-- what the node has on the side of this bit, and a new branch on the other
abbrev pub joined : Bool → Fork → Tree → Tree → Tree
joined side fork old new = if side then Two fork new old else Two fork old new

-- a unary node parts at a bit; the old pieces carry its counter and its stamp
abbrev pub parted : ℕ → ℕ → Tree → Tree → Tree
parted from at new (Line run below) =
    before from at run (joined (bit run.id at) (fork_of run (bit run.id at)) (after at run below) new)
parted from at new tree = tree

-- the first where there is no place to part, else what is made of that place
abbrev pub or_parted : Option ℕ → Tree → (ℕ → Tree) → Tree
or_parted None grown part = grown
or_parted (Some at) grown part = part at

-- an identifier goes down by its bits; where it differs inside a unary node, that node parts
abbrev pub grown : ℕ → List ℕ → Tree → Tree
grown from id (Tip other) = Tip other
grown from id (Line run below) =
    or_parted (parting from id (Line run below)) (Line run (grown run.to id below)) (λ at. parted from at (branch id (at + 1)) (Line run below))
grown from id (Two fork z o) = if bit id from then Two fork z (grown (from + 1) id o) else Two fork (grown (from + 1) id z) o
