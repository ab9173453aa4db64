use Rattle.std.proofs.Common.{◌≡◌}
use Rattle.topo_tests.proofs.counted.one_by_one.Given as goal

abbrev pub invariant-loop-votes : goal.invariant-loop-votes
invariant-loop-votes g l = (g.B.Board.board l.board).parameters ≡ (g.B.Board.board l.fn.board).parameters
