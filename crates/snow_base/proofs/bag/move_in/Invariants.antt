use Rattle.std.proofs.Common.{◌≡◌, ◌-◌, ◌+◌, ◌≤◌, length, take, insert, get_or}
use Rattle.snow_base.proofs.bag.move_in.Given as goal

-- those behind the free place have moved up
abbrev pub invariant-loop-free : goal.invariant-loop-free
invariant-loop-free l = record {
  low : l.at ≤ l.free;
  high : l.free + 1 ≤ length l.row;
  long : length l.row ≡ length l.initial.row;
  moved : l.row ≡ insert (take (length l.initial.row - 1) l.initial.row) l.free (get_or l.row l.free (record { id = l.id; count = l.n }));
}

abbrev pub decreases-loop-free : goal.decreases-loop-free
decreases-loop-free l = l.free - l.at
