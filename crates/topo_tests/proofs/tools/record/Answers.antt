use Rattle.std.proofs.Common.{ap, ◌∙◌}
use Rattle.snow_board.specs.Model.Board.{Board}
use Rattle.snow_board.proofs.Polled.{poll_parameters}
use Rattle.topo_tests.proofs.tools.record.Goals as goal

pub returns : goal.returns
returns g c = ap (λ (b : Board). b.parameters) c.apply_poll.ensures.board ∙ poll_parameters (g.B.Board.board c.args.board.now) c.args.votes.now.list
