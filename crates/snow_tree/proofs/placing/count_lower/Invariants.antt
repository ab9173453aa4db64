use Rattle.std.proofs.Common.{◌≡◌, ℕ, ◌-◌, ◌<◌, ◌≤◌, List, Some, slice_get}
use Rattle.snow_tree.specs.declared.node.Node.{Node}
use Rattle.snow_tree.proofs.placing.count_lower.Given as goal

-- the numbers before the span that is left are lower, and those behind it aren't
abbrev pub invariant-loop-low : goal.invariant-loop-low
invariant-loop-low g l = record {
  within : l.low ≤ l.high;
  most : l.high ≤ l.len;
  below : (i : ℕ) (e : List ℕ × Node g.row.T.Denot) → i < l.low → slice_get l.entries.items i ≡ Some e → e.1.number < l.number;
  above : (i : ℕ) (e : List ℕ × Node g.row.T.Denot) → l.high ≤ i → i < l.len → slice_get l.entries.items i ≡ Some e → l.number ≤ e.1.number;
}

abbrev pub decreases-loop-low : goal.decreases-loop-low
decreases-loop-low g l = l.high - l.low
