-- The polls so far have left, and what the node keeps holds.
use Rattle.std.proofs.Common.{length}
use Rattle.snow_issue.specs.Kept.Known.{lists_of}
use Rattle.snow_node.specs.Model.Closing.{running_polls, one_closed}
use Rattle.snow_node.specs.Model.Running.{Running}
use Rattle.snow_node.specs.Model.Supplying.{Serves}
use Rattle.snow_node.specs.Kept.QueueState.{IsInState}
use Rattle.snow_node.specs.Kept.Tied.{IsKept}
use Rattle.snow_node.proofs.Made.{Along}
use Rattle.snow_node.proofs.running.Running.close_polls.Given as goal

abbrev pub invariant-loop-closed : goal.invariant-loop-closed
invariant-loop-closed g l =
    let now : Running = record {
      board = g.B.Board.board l.self-inside.board;
      chain = g.C.Chain.held l.self-inside.chain;
      served = l.self-inside.served;
      roster = l.self-inside.roster;
      polls = l.self-inside.polls;
      queue = lists_of l.self-inside.queue;
      words = l.self-inside.words;
      last = l.self-inside.numbers;
      recorded = l.self-inside.recorded;
    } in
    Along Running running_polls (one_closed g.B.Board.answer) l.fn.self l.fn.log now l.log
    × IsKept l.self-inside.params now.board now.chain now.polls now.queue now.last
    × IsInState now.board l.self-inside.queue l.self-inside.queue_state
    × Serves now.board now.served

abbrev pub decreases-loop-closed : goal.decreases-loop-closed
decreases-loop-closed g l = length l.self-inside.polls.polls
