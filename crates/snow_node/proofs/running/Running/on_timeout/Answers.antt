-- A vote changes no number. A get or a vote is given up, and then all is settled.
use Rattle.std.proofs.Common.{◌≡◌, true, false, None, Err, ◌∙◌, sym, subst, rules}
use Rattle.std.proofs.lemmas.Result.{err_from_is_err_and}
use Rattle.snow_held.specs.Model.Replies.{holds_in}
use Rattle.snow_poll.specs.Model.Table.{is_awaited}
use Rattle.snow_issue.specs.Kept.Known.{lists_of}
use Rattle.snow_node.specs.Model.Outcome.{Comes, then_comes}
use Rattle.snow_node.specs.Model.Running.{Running}
use Rattle.snow_node.specs.Model.Hearing.{asked_by}
use Rattle.snow_node.specs.Model.Settling.{settled}
use Rattle.snow_node.specs.Clauses.Stepping.{Tells}
use Rattle.snow_node.proofs.AtOnce.{with_vote_is, lost_if_awaited}
use Rattle.snow_node.proofs.Keeping.{kept_voted}
use Rattle.snow_node.proofs.Sequel.{lines_first, lines_then}
use Rattle.snow_node.proofs.running.Running.on_timeout.Goals as goal

pub invariant_of-self : goal.invariant_of-self
invariant_of-self g c = (
  kept_voted c.self-2.inside.params (g.B.Board.board c.self-2.inside.board) (g.C.Chain.held c.self-2.inside.chain) c.self-2.inside.polls (lists_of c.self-2.inside.queue) c.self-2.inside.numbers c.self-2.invariant.0 c.vote.new.self
      c.args.timeout.request c.from_bytes-peer.result None c.vote.ensures.table,
  c.self-2.invariant.1,
  c.self-2.invariant.2,
)

pub returns-in_err-close_polls-clause-lines : goal.returns-in_err-close_polls-clause-lines
returns-in_err-close_polls-clause-lines g c =
    let none : c.close_get.result ≡ None = search rules in
    let same : c.close_get.new.self ≡ c.args.self.now = c.close_get.ensures.none none in
    let is_now = c.self-2.view_is ∙ same in
    let asked : asked_by c.args.self.now.queue c.args.timeout.request c.from_bytes-peer.result ≡ None = sym c.close_get.ensures.found ∙ none in
    let awaited : is_awaited c.args.self.now.polls.polls c.args.timeout.request c.from_bytes-peer.result ≡ true = search rules in
    let free : holds_in c.args.self.now.queue.held c.args.timeout.request c.from_bytes-peer.result ≡ false = search rules in
    let lost = lost_if_awaited g.B.Board.answer c.args.self.now _ c.args.timeout.request c.from_bytes-peer.result asked awaited free
    (with_vote_is _ c.args.self.now c.vote.new.self c.args.timeout.request c.from_bytes-peer.result None is_now c.vote.ensures.table) in
    let p = err_from_is_err_and c.from_residual.result c.from_residual.ensures.1 in
    let s = c.in_err-close_polls.field-0.0 in
    rw (p.1, p.2, sym c.from_bytes-peer.ensures)
    (subst (λ (first : Comes Running). Tells {T = Unit {0}} (Err s) c.args.log.now c.close_polls.new.log (then_comes first (settled g.C.Chain.rules g.B.Board.answer)).0) lost
    (lines_first Running Running _ (settled g.C.Chain.rules g.B.Board.answer) (Unit {0}) (Unit {0}) s c.args.log.now c.close_polls.new.log c.in_err-close_polls.ensures.answer c.in_err-close_polls.ensures.lines))

pub returns-clause-lines : goal.returns-clause-lines
returns-clause-lines g c =
    let none : c.close_get.result ≡ None = search rules in
    let same : c.close_get.new.self ≡ c.args.self.now = c.close_get.ensures.none none in
    let is_now = c.self-2.view_is ∙ same in
    let asked : asked_by c.args.self.now.queue c.args.timeout.request c.from_bytes-peer.result ≡ None = sym c.close_get.ensures.found ∙ none in
    let awaited : is_awaited c.args.self.now.polls.polls c.args.timeout.request c.from_bytes-peer.result ≡ true = search rules in
    let free : holds_in c.args.self.now.queue.held c.args.timeout.request c.from_bytes-peer.result ≡ false = search rules in
    let lost = lost_if_awaited g.B.Board.answer c.args.self.now _ c.args.timeout.request c.from_bytes-peer.result asked awaited free
    (with_vote_is _ c.args.self.now c.vote.new.self c.args.timeout.request c.from_bytes-peer.result None is_now c.vote.ensures.table) in
    rw (sym c.from_bytes-peer.ensures)
    (subst (λ (first : Comes Running). Tells c.settle-2.result c.args.log.now c.settle-2.new.log (then_comes first (settled g.C.Chain.rules g.B.Board.answer)).0) lost
    (lines_then Running Running _ (settled g.C.Chain.rules g.B.Board.answer) (Unit {0}) c.settle-2.result c.close_polls.new.self
    c.args.log.now c.close_polls.new.log c.settle-2.new.log c.in_ok-close_polls.ensures.answer c.in_ok-close_polls.ensures.lines c.settle-2.ensures.lines))
