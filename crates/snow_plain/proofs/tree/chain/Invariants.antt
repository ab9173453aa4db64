use Rattle.std.proofs.Common.{◌≡◌, ◌≤◌, drop}
use Rattle.snow_base.specs.Model.Identifier.{bits}
use Rattle.snow_board.specs.Model.Conflict.{Blank, with_child}
use Rattle.snow_plain.specs.Kept.Trees.{counters_of}
use Rattle.snow_plain.proofs.tree.chain.Given as goal

-- the counters from bit `at` on stand
abbrev pub invariant-loop-at : goal.invariant-loop-at
invariant-loop-at l = (l.bit ≤ l.at) × (counters_of l.tree ≡ with_child (drop l.at (bits l.child)) Blank)
