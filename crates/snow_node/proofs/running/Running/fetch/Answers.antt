-- The number is new, and no get has a greater one.
use Rattle.std.proofs.Common.{sym, ap, subst}
use Rattle.snow_issue.specs.Kept.Known.{lists_of}
use Rattle.snow_issue.specs.Model.Lists.{Lists}
use Rattle.snow_issue.specs.Model.Settling.{IsIdle}
use Rattle.snow_issue.proofs.Idle.{idle_asked}
use Rattle.snow_node.proofs.Keeping.{kept_numbered, kept_asked, kept_unasked, new_to_gets}
use Rattle.snow_node.proofs.QueueState.{kept_seats, kept_seen}
use Rattle.snow_node.proofs.running.Running.fetch.Goals as goal

pub invariant_of-self : goal.invariant_of-self
invariant_of-self g c = (kept_numbered c.self.inside.params (g.B.Board.board c.self.inside.board) (g.C.Chain.held c.self.inside.chain) c.self.inside.polls (lists_of c.self.inside.queue) c.self.inside.numbers c.self.invariant.0 c.draw.new.self c.draw.ensures.last, c.self.invariant.1, c.self.invariant.2)

pub asked-requires-clause-number : goal.asked-requires-clause-number
asked-requires-clause-number g c = new_to_gets c.self.inside.params (g.B.Board.board c.self.inside.board) (g.C.Chain.held c.self.inside.chain) c.self.inside.polls (lists_of c.self.inside.queue) c.self.inside.numbers c.self.invariant.0 c.in-Some.number c.draw.new.self c.in-Some.ensures.number c.draw.ensures.last

pub invariant_of-self-in_err-asked : goal.invariant_of-self-in_err-asked
invariant_of-self-in_err-asked g c = (
  kept_unasked c.self.inside.params (g.B.Board.board c.self.inside.board) (g.C.Chain.held c.self.inside.chain) c.self.inside.polls (lists_of c.self.inside.queue) c.self.inside.numbers c.self.invariant.0 c.draw.new.self (lists_of c.asked.new.self) c.draw.ensures.last (ap lists_of c.in_err-asked.ensures.err),
  kept_seen (g.B.Board.board c.self.inside.board) c.self.inside.queue c.asked.new.self c.self.inside.queue_state c.in_err-asked.ensures.err c.self.invariant.1,
  c.self.invariant.2,
)

pub invariant_of-self-in_err-push : goal.invariant_of-self-in_err-push
invariant_of-self-in_err-push g c = (
  kept_asked c.self.inside.params (g.B.Board.board c.self.inside.board) (g.C.Chain.held c.self.inside.chain) c.self.inside.polls (lists_of c.self.inside.queue) c.self.inside.numbers c.self.invariant.0 c.in-Some.number c.draw.new.self c.args.peer.now c.args.id (lists_of c.asked.new.self)
      c.in-Some.ensures.number c.draw.ensures.last c.in_ok-asked.ensures.lists,
  kept_seats (g.B.Board.board c.self.inside.board) c.self.inside.queue c.asked.new.self c.self.inside.queue_state c.asked.ensures.knows c.asked.ensures.seats
      (λ idle. subst (λ (q : Lists). IsIdle q (g.B.Board.board c.self.inside.board)) (sym c.in_ok-asked.ensures.lists)
      (idle_asked (lists_of c.self.inside.queue) (g.B.Board.board c.self.inside.board) (record { number = c.in-Some.number; node = c.args.peer.now; id = c.args.id }) idle)) c.self.invariant.1,
  c.self.invariant.2,
)

pub invariant_of-self-2 : goal.invariant_of-self-2
invariant_of-self-2 g c = (
  kept_asked c.self.inside.params (g.B.Board.board c.self.inside.board) (g.C.Chain.held c.self.inside.chain) c.self.inside.polls (lists_of c.self.inside.queue) c.self.inside.numbers c.self.invariant.0 c.in-Some.number c.draw.new.self c.args.peer.now c.args.id (lists_of c.asked.new.self)
      c.in-Some.ensures.number c.draw.ensures.last c.in_ok-asked.ensures.lists,
  kept_seats (g.B.Board.board c.self.inside.board) c.self.inside.queue c.asked.new.self c.self.inside.queue_state c.asked.ensures.knows c.asked.ensures.seats
      (λ idle. subst (λ (q : Lists). IsIdle q (g.B.Board.board c.self.inside.board)) (sym c.in_ok-asked.ensures.lists)
      (idle_asked (lists_of c.self.inside.queue) (g.B.Board.board c.self.inside.board) (record { number = c.in-Some.number; node = c.args.peer.now; id = c.args.id }) idle)) c.self.invariant.1,
  c.self.invariant.2,
)
