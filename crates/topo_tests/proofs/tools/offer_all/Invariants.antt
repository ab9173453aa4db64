use Rattle.std.proofs.Common.{◌≡◌}
use Rattle.topo_tests.proofs.tools.offer_all.Given as goal

abbrev pub invariant-loop-number : goal.invariant-loop-number
invariant-loop-number g l = (g.B.Board.board l.board).parameters ≡ (g.B.Board.board l.fn.board).parameters
