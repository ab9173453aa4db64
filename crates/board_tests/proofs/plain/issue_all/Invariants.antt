use Rattle.std.proofs.Common.{◌≡◌}
use Rattle.board_tests.proofs.plain.issue_all.Given as goal

abbrev pub invariant-loop-id : goal.invariant-loop-id
invariant-loop-id g l = (g.B.Board.board l.board).parameters ≡ (g.B.Board.board l.fn.board).parameters
