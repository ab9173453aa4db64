-- The decisions so far are gone.
use Rattle.std.proofs.Common.{◌≡◌, take}
use Rattle.snow_board.specs.Model.Board.{Board}
use Rattle.snow_issue.specs.Kept.Known.{Knows, lists_of}
use Rattle.snow_node.specs.Model.Closing.{all_gone}
use Rattle.snow_node.proofs.running.closing.mark_gone.Given as goal

abbrev pub invariant-loop-decision : goal.invariant-loop-decision
invariant-loop-decision l = record {
  lists : lists_of l.queue ≡ all_gone (lists_of l.initial.queue) (take l.decision-index l.decisions);
  knows : (board : Board) → Knows l.initial.queue board → Knows l.queue board;
  seats : l.queue.seats ≡ l.initial.queue.seats;
}
