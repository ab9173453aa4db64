-- Each arm does what its work asks for.
use Rattle.std.proofs.Common.{◌≡◌, sym, ap, ◌∙◌, subst}
use Rattle.snow_issue.specs.declared.work.Work.{Work}
use Rattle.snow_issue.specs.Model.Bubbling.{bubbled}
use Rattle.snow_node.specs.Model.Running.{Running}
use Rattle.snow_node.specs.Model.Closing.{with_vote, closed_out}
use Rattle.snow_node.specs.Model.Settling.{done}
use Rattle.snow_node.specs.Clauses.Stepping.{Tells, Turns}
use Rattle.snow_issue.specs.Kept.Known.{lists_of}
use Rattle.snow_node.proofs.AtOnce.{with_vote_is}
use Rattle.snow_node.proofs.Keeping.{kept_voted}
use Rattle.snow_node.proofs.running.Running.work.Goals as goal

pub invariant_of-self : goal.invariant_of-self
invariant_of-self g c = (
  kept_voted c.self.inside.params (g.B.Board.board c.self.inside.board) (g.C.Chain.held c.self.inside.chain) c.self.inside.polls (lists_of c.self.inside.queue) c.self.inside.numbers c.self.invariant.0 c.vote.new.self
      c.in-Vote.reply.number c.in-Vote.reply.node c.bubble-vote.result c.vote.ensures.table,
  c.self.invariant.1,
  c.self.invariant.2,
)

pub returns-in-Ready-clause-answer : goal.returns-in-Ready-clause-answer
returns-in-Ready-clause-answer g c =
    subst (λ (w : Work). Turns c.place.result c.place.new.self (done g.C.Chain.rules g.B.Board.answer c.args.self.now w).1) (sym c.in-Ready.is) c.place.ensures.answer

pub returns-in-Ready-clause-lines : goal.returns-in-Ready-clause-lines
returns-in-Ready-clause-lines g c =
    subst (λ (w : Work). Tells c.place.result c.args.log.now c.place.new.log (done g.C.Chain.rules g.B.Board.answer c.args.self.now w).0) (sym c.in-Ready.is) c.place.ensures.lines

pub returns-in-Vote-clause-answer : goal.returns-in-Vote-clause-answer
returns-in-Vote-clause-answer g c =
    subst (λ (w : Work). Turns c.close_polls.result c.close_polls.new.self (done g.C.Chain.rules g.B.Board.answer c.args.self.now w).1) (sym c.in-Vote.is)
    (subst (λ (n : Running). Turns c.close_polls.result c.close_polls.new.self (closed_out g.B.Board.answer n).1)
    (with_vote_is _ c.args.self.now c.vote.new.self c.in-Vote.reply.number c.in-Vote.reply.node c.bubble-vote.result c.self.view_is c.vote.ensures.table
    ∙ ap (with_vote c.args.self.now c.in-Vote.reply.number c.in-Vote.reply.node)
    (subst (λ (n : Running). c.bubble-vote.result ≡ bubbled n.queue n.board c.in-Vote.reply.id) c.self.view_is c.bubble-vote.ensures))
    c.close_polls.ensures.answer)

pub returns-in-Vote-clause-lines : goal.returns-in-Vote-clause-lines
returns-in-Vote-clause-lines g c =
    subst (λ (w : Work). Tells c.close_polls.result c.args.log.now c.close_polls.new.log (done g.C.Chain.rules g.B.Board.answer c.args.self.now w).0) (sym c.in-Vote.is)
    (subst (λ (n : Running). Tells c.close_polls.result c.args.log.now c.close_polls.new.log (closed_out g.B.Board.answer n).0)
    (with_vote_is _ c.args.self.now c.vote.new.self c.in-Vote.reply.number c.in-Vote.reply.node c.bubble-vote.result c.self.view_is c.vote.ensures.table
    ∙ ap (with_vote c.args.self.now c.in-Vote.reply.number c.in-Vote.reply.node)
    (subst (λ (n : Running). c.bubble-vote.result ≡ bubbled n.queue n.board c.in-Vote.reply.id) c.self.view_is c.bubble-vote.ensures))
    c.close_polls.ensures.lines)
