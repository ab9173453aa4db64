-- A reply that is held was awaited. Its block is asked for, and then all is settled.
use Rattle.std.proofs.Common.{◌≡◌, not, Err, if◌then◌else◌, ap, subst}
use Rattle.std.proofs.lemmas.Result.{err_from_is_err_and}
use Rattle.snow_held.specs.Model.Replies.{holds_in}
use Rattle.snow_issue.specs.Kept.Known.{lists_of}
use Rattle.snow_issue.specs.Model.Lists.{after_held}
use Rattle.snow_node.specs.Model.Outcome.{Comes}
use Rattle.snow_node.specs.Model.Running.{Running}
use Rattle.snow_node.specs.Model.Hearing.{fetched_unknown}
use Rattle.snow_node.specs.Model.Settling.{settled}
use Rattle.snow_node.specs.Clauses.Stepping.{Tells}
use Rattle.snow_node.proofs.AtOnce.{held_first}
use Rattle.snow_node.proofs.Sequel.{lines_first, lines_then}
use Rattle.snow_node.proofs.running.Running.hold.Goals as goal

pub returns-in_err-fetch_unknown-clause-lines : goal.returns-in_err-fetch_unknown-clause-lines
returns-in_err-fetch_unknown-clause-lines g c =
    let p = err_from_is_err_and c.from_residual-in_err-fetch_unknown.result c.from_residual-in_err-fetch_unknown.ensures.1 in
    let s = c.in_err-fetch_unknown.field-0.0 in
    let after : Running = record {
      board = g.B.Board.board c.self.inside.board;
      chain = g.C.Chain.held c.self.inside.chain;
      served = c.self.inside.served;
      roster = c.self.inside.roster;
      polls = c.self.inside.polls;
      queue = lists_of c.hold_once.new.self;
      words = c.self.inside.words;
      last = c.self.inside.numbers;
      recorded = c.self.inside.recorded;
    } in
    rw (p.1, p.2) (subst (λ (all : Comes Running). Tells {T = Unit {0}} (Err s) c.args.log.now c.fetch_unknown.new.log all.0)
    (held_first g.C.Chain.rules g.B.Board.answer c.args.self.now after after.queue c.args.number c.args.peer.now c.args.id.now c.in_ok-hold_once.field-0 c.requires c.if-not-branch.false
    (subst (λ (n : Running). c.in_ok-hold_once.field-0 ≡ not (holds_in n.queue.held c.args.number c.args.peer.now)) c.self.view_is c.in_ok-hold_once.ensures.is_new)
    (subst (λ (n : Running). after.queue ≡ (if c.in_ok-hold_once.field-0 then after_held n.queue (record { number = c.args.number; node = c.args.peer.now; id = c.args.id.now }) else n.queue)) c.self.view_is c.in_ok-hold_once.ensures.lists)
    (ap (λ (n : Running). record n { queue = after.queue }) c.self.view_is))
    (lines_first Running Running (fetched_unknown after c.args.peer.now c.args.id.now) (settled g.C.Chain.rules g.B.Board.answer) (Unit {0}) (Unit {0}) s c.args.log.now c.fetch_unknown.new.log
    c.in_err-fetch_unknown.ensures.answer c.in_err-fetch_unknown.ensures.lines))

pub returns-clause-lines : goal.returns-clause-lines
returns-clause-lines g c =
    let after : Running = record {
      board = g.B.Board.board c.self.inside.board;
      chain = g.C.Chain.held c.self.inside.chain;
      served = c.self.inside.served;
      roster = c.self.inside.roster;
      polls = c.self.inside.polls;
      queue = lists_of c.hold_once.new.self;
      words = c.self.inside.words;
      last = c.self.inside.numbers;
      recorded = c.self.inside.recorded;
    } in
    subst (λ (all : Comes Running). Tells c.settle.result c.args.log.now c.settle.new.log all.0)
    (held_first g.C.Chain.rules g.B.Board.answer c.args.self.now after after.queue c.args.number c.args.peer.now c.args.id.now c.in_ok-hold_once.field-0 c.requires c.if-not-branch.false
    (subst (λ (n : Running). c.in_ok-hold_once.field-0 ≡ not (holds_in n.queue.held c.args.number c.args.peer.now)) c.self.view_is c.in_ok-hold_once.ensures.is_new)
    (subst (λ (n : Running). after.queue ≡ (if c.in_ok-hold_once.field-0 then after_held n.queue (record { number = c.args.number; node = c.args.peer.now; id = c.args.id.now }) else n.queue)) c.self.view_is c.in_ok-hold_once.ensures.lists)
    (ap (λ (n : Running). record n { queue = after.queue }) c.self.view_is))
    (lines_then Running Running (fetched_unknown after c.args.peer.now c.args.id.now) (settled g.C.Chain.rules g.B.Board.answer) (Unit {0}) c.settle.result c.fetch_unknown.new.self
    c.args.log.now c.fetch_unknown.new.log c.settle.new.log c.in_ok-fetch_unknown.ensures.answer c.in_ok-fetch_unknown.ensures.lines c.settle.ensures.lines)
