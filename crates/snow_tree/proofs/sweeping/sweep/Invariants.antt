use Rattle.std.proofs.Common.{◌≡◌, ◌+◌, ◌-◌, ◌≤◌, length, bytes_eq, vec_len, vec_capacity}
use Rattle.std.specs.HashMap.{get}
use Rattle.snow_tree.proofs.Passed.{HasPassed}
use Rattle.snow_tree.proofs.sweeping.sweep.Given as goal

abbrev pub invariant-loop-place : goal.invariant-loop-place
invariant-loop-place g l = record {
  passed : HasPassed l.initial.entries.items l.entries.items l.number l.kept l.place l.initial.rejected.items l.rejected.items (get bytes_eq l.initial.numbers.map) (get bytes_eq l.numbers.map) l.initial.numbers.hints;
  hints : l.numbers.hints ≡ l.initial.numbers.hints;
  few : l.kept ≤ l.place;
  room : vec_len l.rejected + (length l.initial.entries.items - l.place) ≤ vec_capacity l.rejected;
  same : vec_capacity l.rejected ≡ vec_capacity l.initial.rejected;
}
