use Rattle.std.proofs.Common.{◌≡◌, ◌+◌, ◌≤◌, drop}
use Rattle.snow_topo.specs.Laws.Costs.{replayed, replay_steps}
use Rattle.snow_topo.proofs.replaying.replay_counted.Given as goal

abbrev pub invariant-loop-votes : goal.invariant-loop-votes
invariant-loop-votes g l = record {
  board : replayed l.board (drop l.votes-index l.polls) ≡ replayed l.fn.board l.polls;
  parameters : l.board.board.parameters ≡ l.fn.board.board.parameters;
  steps : l.steps + replay_steps l.board.board (drop l.votes-index l.polls) ≤ l.fn.steps + replay_steps l.fn.board.board l.polls;
}
