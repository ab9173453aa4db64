use Rattle.std.proofs.Common.{◌≡◌, length, take}
use Rattle.snow_base.proofs.items.write_over.Given as goal

-- the first ones are written
abbrev pub invariant-loop-at : goal.invariant-loop-at
invariant-loop-at l = record {
  long : length l.ids ≡ length l.chunks;
  written : take l.at l.ids ≡ take l.at l.chunks;
}
