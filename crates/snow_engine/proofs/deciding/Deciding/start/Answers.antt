-- A board with nothing pending belongs to a chain that holds one state.
use Rattle.std.proofs.Common.{ap}
use Rattle.snow_board.specs.Model.Board.{Board, begin}
use Rattle.snow_chain.specs.Model.Chain.{begun}
use Rattle.snow_node.proofs.Following.{begun_steady}
use Rattle.snow_node.proofs.Offers.{steady_as}
use Rattle.snow_engine.proofs.deciding.Deciding.start.Goals as goal

pub invariant_of-result : goal.invariant_of-result
invariant_of-result g c = (
  ap (λ (b : Board). b.parameters) c.in_ok-board.ensures.board,
  steady_as (g.B.Board.board c.in_ok-board.board) (begin c.args.params c.args.first.now.last c.args.first.now.height)
      (g.C.Chain.held c.in_ok-chain.chain) (begun c.args.first.now.last c.list.result.now)
      c.in_ok-board.ensures.board c.in_ok-chain.ensures.held
      (begun_steady c.args.params c.args.first.now.last c.args.first.now.height c.list.result.now c.requires),
)
