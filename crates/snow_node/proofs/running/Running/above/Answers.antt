-- A node that begins to run has nothing that could be at odds.
use Rattle.std.proofs.Common.{◌∙◌, ap}
use Rattle.snow_chain.specs.Model.Chain.{begun}
use Rattle.snow_chain.specs.Kept.Alone.{last_state}
use Rattle.snow_issue.specs.Kept.Known.{lists_of}
use Rattle.snow_node.proofs.Keeping.{kept_new}
use Rattle.snow_node.proofs.Supplying.{serves_new}
use Rattle.snow_node.proofs.running.Running.above.Goals as goal

pub invariant_of-result : goal.invariant_of-result
invariant_of-result g c = (
  kept_new c.args.params c.args.last c.args.height (last_state (g.C.Chain.held c.args.chain)) (g.B.Board.board c.in-Ok.board) (g.C.Chain.held c.args.chain)
      c.new.result (lists_of c.in-Ok.queue) c.args.numbers c.requires.good
      c.in-Ok.ensures.board (c.requires.alone ∙ ap (λ id. begun id (last_state (g.C.Chain.held c.args.chain))) c.requires.last) c.new.ensures c.in-Ok.ensures.lists c.requires.small,
  tt,
  serves_new c.args.params c.args.last c.args.height (g.B.Board.board c.in-Ok.board) c.in-Ok.served c.in-Ok.ensures.board c.in-Ok.ensures.served,
)
