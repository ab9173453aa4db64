-- The chain can be told the decisions, and then belongs to the board.
use Rattle.std.proofs.Common.{◌≤◌, ◌∙◌, arith}
use Rattle.snow_base.specs.Clauses.Gathered.{one_each}
use Rattle.snow_base.specs.Model.Votes.{total_count}
use Rattle.snow_board.proofs.OneEach.{total_each}
use Rattle.snow_node.proofs.Recorded.{may_be_told, steady_told}
use Rattle.snow_node.proofs.admitting.apply_votes.Goals as goal

pub notify_chain-requires : goal.notify_chain-requires
notify_chain-requires g c =
    let votes = one_each c.args.ids.now in
    let few : total_count votes ≤ (g.B.Board.board c.args.board.now).parameters.k = omega (arith, total_each c.args.ids.now, c.requires.few) in
    may_be_told (g.B.Board.board c.args.board.now) (g.C.Chain.held c.args.chain.now) votes c.decisions.result.now c.requires.steady few
    (c.decisions.ensures ∙ c.in_ok-apply_votes.ensures.decided)

pub returns-clause-steady : goal.returns-clause-steady
returns-clause-steady g c =
    let votes = one_each c.args.ids.now in
    let few : total_count votes ≤ (g.B.Board.board c.args.board.now).parameters.k = omega (arith, total_each c.args.ids.now, c.requires.few) in
    steady_told (g.B.Board.board c.args.board.now) (g.B.Board.board c.apply_votes.new.self) (g.C.Chain.held c.args.chain.now) (g.C.Chain.held c.notify_chain.new.chain)
    votes c.decisions.result.now c.requires.steady few
    (c.decisions.ensures ∙ c.in_ok-apply_votes.ensures.decided) c.in_ok-apply_votes.ensures.board c.notify_chain.ensures
