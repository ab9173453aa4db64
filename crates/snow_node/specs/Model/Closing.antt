-- Polls that are closed leave the table from its front, and their votes are recorded.
use Rattle.std.specs.Prelude.{ℕ, Bool, true, false, List, fold, length, Option, Some, None, Ok}
use Rattle.snow_base.specs.declared.block.Vote.{Vote}
use Rattle.snow_flake.specs.Model.Rule.{Answer}
use Rattle.snow_board.specs.declared.board.Decision.{Decision}
use Rattle.snow_board.specs.Model.Board.{Board}
use Rattle.snow_board.specs.Model.Poll.{poll}
use Rattle.snow_poll.specs.Model.Table.{finished, shortened, voted}
use Rattle.snow_issue.specs.Model.Lists.{Lists, after_gone, after_forgotten}
use Rattle.snow_node.specs.Model.Outcome.{Comes, quietly}
use Rattle.snow_node.specs.Model.Again.{all_made}
use Rattle.snow_node.specs.Model.Supplying as supply
use Rattle.snow_node.specs.Model.Telling.{told, with_decisions}
use Rattle.snow_node.specs.Model.Running.{Running}

-- each decided block is gone, without a parent
abbrev pub all_gone : Lists → List Decision → Lists
all_gone queue decisions = fold (λ lists d. after_gone lists (record { id = d.id; parent = None })) queue decisions

-- a poll came to this board with these decisions; the chain and the queue are told, and what peers are served follows
abbrev pub moved_on : Answer → Running → Board × List Decision → Comes (Running × Bool)
moved_on answer node after = (
  told answer node.board after,
  Ok (
    record node {
      board = after.0;
      chain = with_decisions node.chain after.1;
      served = supply.with_decisions node.served after.1;
      queue = all_gone node.queue after.1;
      recorded = true;
    },
    true,
  ),
)

-- the front poll has left with these votes, if it was closed; its held replies go with it
abbrev pub front_closed : Answer → Running → Option (ℕ × List Vote) → Comes (Running × Bool)
front_closed answer node None = quietly (node, false)
front_closed answer node (Some (number, votes)) =
    moved_on answer (record node { polls = shortened node.polls; queue = after_forgotten node.queue number }) (poll node.board votes)

-- the front poll leaves if it is closed, and whether it did
abbrev pub one_closed : Answer → Running → Comes (Running × Bool)
one_closed answer node = front_closed answer node (finished node.polls.parameters node.polls.polls)

-- how many polls run
abbrev pub running_polls : Running → ℕ
running_polls node = length node.polls.polls

-- polls leave while the front one is closed
abbrev pub closed_out : Answer → Running → Comes Running
closed_out answer node = all_made running_polls (one_closed answer) node

-- a peer's vote is counted, or that it gives none
abbrev pub with_vote : Running → ℕ → List ℕ → Option (List ℕ) → Running
with_vote node number peer vote = record node { polls = voted node.polls number peer vote }

-- and closed polls leave
abbrev pub tallied : Answer → Running → ℕ → List ℕ → Option (List ℕ) → Comes Running
tallied answer node number peer vote = closed_out answer (with_vote node number peer vote)
