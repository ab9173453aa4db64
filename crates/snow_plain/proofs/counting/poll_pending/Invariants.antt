use Rattle.std.proofs.Common.{◌≡◌, ◌+◌, ◌≤◌, ◌++◌, length, map, take, drop}
use Rattle.snow_board.specs.Model.Board.{blocks_of}
use Rattle.snow_board.specs.Kept.Cursors.{moved_past, polled}
use Rattle.snow_plain.proofs.counting.poll_pending.Given as goal

abbrev pub invariant-loop-i : goal.invariant-loop-i
invariant-loop-i l = record {
  pending : l.pending ≡ take l.i l.initial.pending ++ polled l.params l.initial.cursors (drop l.i l.initial.pending);
  cursors : l.cursors ≡ map (moved_past (blocks_of (drop l.i l.initial.pending))) l.initial.cursors;
  places : l.initial.children.room + length l.initial.children.list ≤ l.children.room + length l.children.list;
}
