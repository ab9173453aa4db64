-- A block that is gone leaves what waits, and nothing more to do.
use Rattle.std.proofs.Common.{Some, sym, subst}
use Rattle.snow_issue.specs.Kept.Known.{lists_of}
use Rattle.snow_issue.specs.Model.Lists.{Lists, after_gone}
use Rattle.snow_issue.specs.Model.Settling.{IsIdle}
use Rattle.snow_node.proofs.Keeping.{kept_queue_as}
use Rattle.snow_node.proofs.QueueState.{kept_seats}
use Rattle.snow_node.proofs.running.Running.refuse.Goals as goal

pub invariant_of-self : goal.invariant_of-self
invariant_of-self g c = (
  kept_queue_as c.self.inside.params (g.B.Board.board c.self.inside.board) (g.C.Chain.held c.self.inside.chain) c.self.inside.polls (lists_of c.self.inside.queue) c.self.inside.numbers c.self.invariant.0
      (after_gone (lists_of c.self.inside.queue) (record { id = c.args.block.now.id; parent = Some c.args.block.now.parent })) (lists_of c.gone.new.self) c.gone.ensures.lists c.self.invariant.0.waiting c.self.invariant.0.gets,
  kept_seats (g.B.Board.board c.self.inside.board) c.self.inside.queue c.gone.new.self c.self.inside.queue_state c.gone.ensures.knows c.gone.ensures.seats
      (λ idle. subst (λ (q : Lists). IsIdle q (g.B.Board.board c.self.inside.board)) (sym c.gone.ensures.lists) idle) c.self.invariant.1,
  c.self.invariant.2,
)
