-- The chain can be told the decisions, and then belongs to the board.
use Rattle.std.proofs.Common.{◌∙◌}
use Rattle.snow_node.proofs.Recorded.{may_be_told, steady_told}
use Rattle.snow_node.proofs.admitting.apply.Goals as goal

pub notify_chain-requires : goal.notify_chain-requires
notify_chain-requires g c =
    may_be_told (g.B.Board.board c.args.board.now) (g.C.Chain.held c.args.chain.now) c.args.votes.now.list c.decisions.result.now c.requires.steady c.requires.few
    (c.decisions.ensures ∙ c.apply_poll.ensures.decided)

pub returns-clause-steady : goal.returns-clause-steady
returns-clause-steady g c =
    steady_told (g.B.Board.board c.args.board.now) (g.B.Board.board c.apply_poll.new.self) (g.C.Chain.held c.args.chain.now) (g.C.Chain.held c.notify_chain.new.chain)
    c.args.votes.now.list c.decisions.result.now c.requires.steady c.requires.few
    (c.decisions.ensures ∙ c.apply_poll.ensures.decided) c.apply_poll.ensures.board c.notify_chain.ensures
