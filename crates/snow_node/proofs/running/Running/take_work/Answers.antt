-- What was taken out can be done, and what is known of the queue's memory is known anew.
use Rattle.std.proofs.Common.{sym, subst}
use Rattle.snow_issue.specs.Kept.Known.{lists_of}
use Rattle.snow_node.specs.declared.running.queue_state.QueueState.{QueueState}
use Rattle.snow_node.specs.Kept.QueueState.{IsInState}
use Rattle.snow_node.proofs.Keeping.{kept_taken_out}
use Rattle.snow_node.proofs.QueueState.{kept_taken}
use Rattle.snow_node.proofs.running.Running.take_work.Goals as goal

pub invariant_of-self : goal.invariant_of-self
invariant_of-self g c = (
  (kept_taken_out c.self.inside.params (g.B.Board.board c.self.inside.board) (g.C.Chain.held c.self.inside.chain) c.self.inside.polls (lists_of c.self.inside.queue) c.self.inside.numbers c.self.invariant.0 c.take_next-work.result (lists_of c.take_next-work.new.queue) c.take_next-work.ensures.work c.take_next-work.ensures.lists).0,
  subst (λ (k : QueueState). IsInState (g.B.Board.board c.self.inside.board) c.take_next-work.new.queue k) (sym c.taken-self-inside.ensures)
      (kept_taken (g.B.Board.board c.self.inside.board) (lists_of c.self.inside.queue) c.take_next-work.new.queue c.take_next-work.result c.take_next-work.ensures.work c.take_next-work.ensures.lists c.take_next-work.ensures.knows c.take_next-work.ensures.marks),
  c.self.invariant.2,
)

pub returns-clause-may : goal.returns-clause-may
returns-clause-may g c =
    (kept_taken_out c.self.inside.params (g.B.Board.board c.self.inside.board) (g.C.Chain.held c.self.inside.chain) c.self.inside.polls (lists_of c.self.inside.queue) c.self.inside.numbers c.self.invariant.0 c.take_next-work.result (lists_of c.take_next-work.new.queue) c.take_next-work.ensures.work c.take_next-work.ensures.lists).1
