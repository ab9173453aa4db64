use Rattle.std.proofs.Common.{◌≡◌, ◌+◌, ◌≤◌, length, take}
use Rattle.snow_base.specs.Model.Votes.{total_count}
use Rattle.snow_board.specs.Model.Conflict.{votes_on}
use Rattle.snow_board.specs.Kept.Cursors.{votes_at, cursor_total}
use Rattle.snow_board.proofs.cursor.gather.Given as goal

abbrev pub invariant-loop-cursor : goal.invariant-loop-cursor
invariant-loop-cursor l = record {
  votes : votes_on l.children.list ≡ votes_at (take l.cursor-index l.cursors) l.parent;
  total : total_count l.children.list ≤ cursor_total (take l.cursor-index l.cursors);
  short : length l.children.list ≤ l.cursor-index;
  places : l.fn.children.room + length l.fn.children.list ≤ l.children.room + length l.children.list;
}
