use Rattle.snow_board.proofs.Same.{gives_all}
use Rattle.snow_topo.proofs.topo.TopoBoard.apply_poll.Goals as goal

pub returns-clause-alike : goal.returns-clause-alike
returns-clause-alike g c =
    gives_all c.args.self.now.board c.args.votes.now.list c.record_alone.new.board.board c.record_alone.new.board.decided c.record_alone.ensures.board c.record_alone.ensures.decided
