-- A vote that was counted was awaited, and nothing was to be done before it.
use Rattle.std.proofs.Common.{◌≡◌, ◌++◌, append-nil, false, Err, ap, ◌∙◌, sym, subst, rules}
use Rattle.std.proofs.lemmas.Result.{err_from_is_err_and}
use Rattle.snow_held.specs.Model.Replies.{holds_in}
use Rattle.snow_poll.specs.Model.Table.{answer, finished}
use Rattle.snow_issue.specs.Kept.Known.{lists_of}
use Rattle.snow_node.specs.Model.Outcome.{Comes}
use Rattle.snow_node.specs.Model.Running.{Running}
use Rattle.snow_node.specs.Model.Settling.{settled}
use Rattle.snow_node.specs.Clauses.Stepping.{HaltsAs, Tells, Turns}
use Rattle.snow_node.proofs.AtOnce.{open_front, with_vote_is, counted_first, counted_alone}
use Rattle.snow_node.proofs.Keeping.{kept_voted}
use Rattle.snow_node.proofs.Sequel.{stop_first, lines_first, then_is, lines_then}
use Rattle.snow_node.proofs.running.Running.count.Goals as goal

pub invariant_of-self-in-Counted : goal.invariant_of-self-in-Counted
invariant_of-self-in-Counted g c = (
  kept_voted c.self.inside.params (g.B.Board.board c.self.inside.board) (g.C.Chain.held c.self.inside.chain) c.self.inside.polls (lists_of c.self.inside.queue) c.self.inside.numbers c.self.invariant.0 c.vote.new.self
      c.args.number c.args.peer.now c.args.vote c.in-Counted.ensures.table,
  c.self.invariant.1,
  c.self.invariant.2,
)

pub returns-in_err-close_polls-in-Counted-clause-answer : goal.returns-in_err-close_polls-in-Counted-clause-answer
returns-in_err-close_polls-in-Counted-clause-answer g c =
    let free : holds_in c.args.self.now.queue.held c.args.number c.args.peer.now ≡ false = search rules in
    let p = err_from_is_err_and c.from_residual.result c.from_residual.ensures.1 in
    let s = c.in_err-close_polls-in-Counted.field-0.0 in
    rw (p.1, p.2) (subst (λ (all : Comes Running). HaltsAs s all.1)
    (counted_first g.C.Chain.rules g.B.Board.answer c.args.self.now _ c.args.number c.args.peer.now c.args.id.now c.args.vote c.requires free
    (c.in-Counted.ensures.answer ∙ ap (λ (n : Running). answer n.polls.polls c.args.number c.args.peer.now) c.self.view_is)
    (with_vote_is _ c.args.self.now c.vote.new.self c.args.number c.args.peer.now c.args.vote c.self.view_is c.in-Counted.ensures.table))
    (stop_first Running Running _ (settled g.C.Chain.rules g.B.Board.answer) s c.in_err-close_polls-in-Counted.ensures.answer))

pub returns-in_err-close_polls-in-Counted-clause-lines : goal.returns-in_err-close_polls-in-Counted-clause-lines
returns-in_err-close_polls-in-Counted-clause-lines g c =
    let free : holds_in c.args.self.now.queue.held c.args.number c.args.peer.now ≡ false = search rules in
    let p = err_from_is_err_and c.from_residual.result c.from_residual.ensures.1 in
    let s = c.in_err-close_polls-in-Counted.field-0.0 in
    rw (p.1, p.2) (subst (λ (all : Comes Running). Tells {T = Unit {0}} (Err s) c.args.log.now c.close_polls.new.log all.0)
    (counted_first g.C.Chain.rules g.B.Board.answer c.args.self.now _ c.args.number c.args.peer.now c.args.id.now c.args.vote c.requires free
    (c.in-Counted.ensures.answer ∙ ap (λ (n : Running). answer n.polls.polls c.args.number c.args.peer.now) c.self.view_is)
    (with_vote_is _ c.args.self.now c.vote.new.self c.args.number c.args.peer.now c.args.vote c.self.view_is c.in-Counted.ensures.table))
    (lines_first Running Running _ (settled g.C.Chain.rules g.B.Board.answer) (Unit {0}) (Unit {0}) s c.args.log.now c.close_polls.new.log
    c.in_err-close_polls-in-Counted.ensures.answer c.in_err-close_polls-in-Counted.ensures.lines))

pub returns-in_ok-close_polls-in-Counted-clause-answer : goal.returns-in_ok-close_polls-in-Counted-clause-answer
returns-in_ok-close_polls-in-Counted-clause-answer g c =
    let free : holds_in c.args.self.now.queue.held c.args.number c.args.peer.now ≡ false = search rules in
    subst (λ (all : Comes Running). Turns c.settle.result c.settle.new.self all.1)
    (sym (then_is Running Running _ (settled g.C.Chain.rules g.B.Board.answer) c.close_polls.new.self c.in_ok-close_polls-in-Counted.ensures.answer)
    ∙ counted_first g.C.Chain.rules g.B.Board.answer c.args.self.now _ c.args.number c.args.peer.now c.args.id.now c.args.vote c.requires free
    (c.in-Counted.ensures.answer ∙ ap (λ (n : Running). answer n.polls.polls c.args.number c.args.peer.now) c.self.view_is)
    (with_vote_is _ c.args.self.now c.vote.new.self c.args.number c.args.peer.now c.args.vote c.self.view_is c.in-Counted.ensures.table))
    c.settle.ensures.answer

pub returns-in_ok-close_polls-in-Counted-clause-lines : goal.returns-in_ok-close_polls-in-Counted-clause-lines
returns-in_ok-close_polls-in-Counted-clause-lines g c =
    let free : holds_in c.args.self.now.queue.held c.args.number c.args.peer.now ≡ false = search rules in
    subst (λ (all : Comes Running). Tells c.settle.result c.args.log.now c.settle.new.log all.0)
    (counted_first g.C.Chain.rules g.B.Board.answer c.args.self.now _ c.args.number c.args.peer.now c.args.id.now c.args.vote c.requires free
    (c.in-Counted.ensures.answer ∙ ap (λ (n : Running). answer n.polls.polls c.args.number c.args.peer.now) c.self.view_is)
    (with_vote_is _ c.args.self.now c.vote.new.self c.args.number c.args.peer.now c.args.vote c.self.view_is c.in-Counted.ensures.table))
    (lines_then Running Running _ (settled g.C.Chain.rules g.B.Board.answer) (Unit {0}) c.settle.result c.close_polls.new.self
    c.args.log.now c.close_polls.new.log c.settle.new.log c.in_ok-close_polls-in-Counted.ensures.answer c.in_ok-close_polls-in-Counted.ensures.lines c.settle.ensures.lines)

pub invariant_of-self-then-not-has_finished : goal.invariant_of-self-then-not-has_finished
invariant_of-self-then-not-has_finished g c = (
  kept_voted c.self.inside.params (g.B.Board.board c.self.inside.board) (g.C.Chain.held c.self.inside.chain) c.self.inside.polls (lists_of c.self.inside.queue) c.self.inside.numbers c.self.invariant.0 c.vote.new.self
      c.args.number c.args.peer.now c.args.vote c.in-Counted.ensures.table,
  c.self.invariant.1,
  c.self.invariant.2,
)

pub returns-then-not-has_finished-clause-answer : goal.returns-then-not-has_finished-clause-answer
returns-then-not-has_finished-clause-answer g c =
    let free : holds_in c.args.self.now.queue.held c.args.number c.args.peer.now ≡ false = search rules in
    sym (ap (λ (all : Comes Running). all.1)
    (counted_alone g.C.Chain.rules g.B.Board.answer c.args.self.now _ c.args.number c.args.peer.now c.args.id.now c.args.vote c.requires free
    (c.in-Counted.ensures.answer ∙ ap (λ (n : Running). answer n.polls.polls c.args.number c.args.peer.now) c.self.view_is)
    (with_vote_is _ c.args.self.now c.vote.new.self c.args.number c.args.peer.now c.args.vote c.self.view_is c.in-Counted.ensures.table)
    (open_front (finished c.vote.new.self.parameters c.vote.new.self.polls) c.has_finished.result c.has_finished.ensures.finished c.if-not-has_finished.true)))

pub returns-then-not-has_finished-clause-lines : goal.returns-then-not-has_finished-clause-lines
returns-then-not-has_finished-clause-lines g c =
    let free : holds_in c.args.self.now.queue.held c.args.number c.args.peer.now ≡ false = search rules in
    sym (append-nil c.args.log.now) ∙ ap (λ (all : Comes Running). c.args.log.now ++ all.0)
    (counted_alone g.C.Chain.rules g.B.Board.answer c.args.self.now _ c.args.number c.args.peer.now c.args.id.now c.args.vote c.requires free
    (c.in-Counted.ensures.answer ∙ ap (λ (n : Running). answer n.polls.polls c.args.number c.args.peer.now) c.self.view_is)
    (with_vote_is _ c.args.self.now c.vote.new.self c.args.number c.args.peer.now c.args.vote c.self.view_is c.in-Counted.ensures.table)
    (open_front (finished c.vote.new.self.parameters c.vote.new.self.polls) c.has_finished.result c.has_finished.ensures.finished c.if-not-has_finished.true))
