-- A block that waits now is apart from all others.
use Rattle.std.proofs.Common.{sym, ap, ◌∙◌, subst}
use Rattle.snow_issue.specs.declared.work.Waiting.{Waiting}
use Rattle.snow_issue.specs.Kept.Known.{lists_of}
use Rattle.snow_issue.specs.Model.Offering.{after_offer}
use Rattle.snow_node.specs.declared.running.queue_state.QueueState.{QueueState}
use Rattle.snow_node.specs.Kept.QueueState.{IsInState}
use Rattle.snow_node.proofs.Keeping.{kept_same, kept_waiting, offered_apart}
use Rattle.snow_node.proofs.QueueState.{kept_woken}
use Rattle.snow_node.proofs.running.Running.offer.Goals as goal

pub invariant_of-self-in-Waits : goal.invariant_of-self-in-Waits
invariant_of-self-in-Waits g c =
    let block : Waiting = record { node = c.args.peer.now; header = c.args.header.now; bytes = c.args.bytes.now } in
    let queue = lists_of c.self.inside.queue in (
      kept_waiting c.self.inside.params (g.B.Board.board c.self.inside.board) (g.C.Chain.held c.self.inside.chain) c.self.inside.polls (lists_of c.self.inside.queue) c.self.inside.numbers c.self.invariant.0 block (lists_of c.bring.new.self)
          (offered_apart queue (g.B.Board.board c.self.inside.board) block c.in-Waits.ask (sym c.in-Waits.is ∙ c.in_ok-bring.ensures.answer))
          (c.in_ok-bring.ensures.lists ∙ ap (after_offer queue block) c.in-Waits.is),
      subst (λ (k : QueueState). IsInState (g.B.Board.board c.self.inside.board) c.bring.new.self k) (sym c.woken-self-inside.ensures)
          (kept_woken (g.B.Board.board c.self.inside.board) c.self.inside.queue c.bring.new.self c.self.inside.queue_state c.bring.ensures.knows c.bring.ensures.ripe c.self.invariant.1),
      c.self.invariant.2,
    )

pub invariant_of-self-in-Known : goal.invariant_of-self-in-Known
invariant_of-self-in-Known g c =
    let block : Waiting = record { node = c.args.peer.now; header = c.args.header.now; bytes = c.args.bytes.now } in
    let queue = lists_of c.self.inside.queue in (
      kept_same c.self.inside.params (g.B.Board.board c.self.inside.board) (g.C.Chain.held c.self.inside.chain) c.self.inside.polls (lists_of c.self.inside.queue) c.self.inside.numbers c.self.invariant.0 (lists_of c.bring.new.self) (c.in_ok-bring.ensures.lists ∙ ap (after_offer queue block) c.in-Known.is),
      subst (λ (k : QueueState). IsInState (g.B.Board.board c.self.inside.board) c.bring.new.self k) (sym c.woken-self-inside.ensures)
          (kept_woken (g.B.Board.board c.self.inside.board) c.self.inside.queue c.bring.new.self c.self.inside.queue_state c.bring.ensures.knows c.bring.ensures.ripe c.self.invariant.1),
      c.self.invariant.2,
    )

pub invariant_of-self-in-Invalid : goal.invariant_of-self-in-Invalid
invariant_of-self-in-Invalid g c =
    let block : Waiting = record { node = c.args.peer.now; header = c.args.header.now; bytes = c.args.bytes.now } in
    let queue = lists_of c.self.inside.queue in (
      kept_same c.self.inside.params (g.B.Board.board c.self.inside.board) (g.C.Chain.held c.self.inside.chain) c.self.inside.polls (lists_of c.self.inside.queue) c.self.inside.numbers c.self.invariant.0 (lists_of c.bring.new.self) (c.in_ok-bring.ensures.lists ∙ ap (after_offer queue block) c.in-Invalid.is),
      subst (λ (k : QueueState). IsInState (g.B.Board.board c.self.inside.board) c.bring.new.self k) (sym c.woken-self-inside.ensures)
          (kept_woken (g.B.Board.board c.self.inside.board) c.self.inside.queue c.bring.new.self c.self.inside.queue_state c.bring.ensures.knows c.bring.ensures.ripe c.self.invariant.1),
      c.self.invariant.2,
    )

pub invariant_of-self-in-Old : goal.invariant_of-self-in-Old
invariant_of-self-in-Old g c =
    let block : Waiting = record { node = c.args.peer.now; header = c.args.header.now; bytes = c.args.bytes.now } in
    let queue = lists_of c.self.inside.queue in (
      kept_same c.self.inside.params (g.B.Board.board c.self.inside.board) (g.C.Chain.held c.self.inside.chain) c.self.inside.polls (lists_of c.self.inside.queue) c.self.inside.numbers c.self.invariant.0 (lists_of c.bring.new.self) (c.in_ok-bring.ensures.lists ∙ ap (after_offer queue block) c.in-Old.is),
      subst (λ (k : QueueState). IsInState (g.B.Board.board c.self.inside.board) c.bring.new.self k) (sym c.woken-self-inside.ensures)
          (kept_woken (g.B.Board.board c.self.inside.board) c.self.inside.queue c.bring.new.self c.self.inside.queue_state c.bring.ensures.knows c.bring.ensures.ripe c.self.invariant.1),
      c.self.invariant.2,
    )

pub invariant_of-self-in-Full : goal.invariant_of-self-in-Full
invariant_of-self-in-Full g c =
    let block : Waiting = record { node = c.args.peer.now; header = c.args.header.now; bytes = c.args.bytes.now } in
    let queue = lists_of c.self.inside.queue in (
      kept_same c.self.inside.params (g.B.Board.board c.self.inside.board) (g.C.Chain.held c.self.inside.chain) c.self.inside.polls (lists_of c.self.inside.queue) c.self.inside.numbers c.self.invariant.0 (lists_of c.bring.new.self) (c.in_ok-bring.ensures.lists ∙ ap (after_offer queue block) c.in-Full.is),
      subst (λ (k : QueueState). IsInState (g.B.Board.board c.self.inside.board) c.bring.new.self k) (sym c.woken-self-inside.ensures)
          (kept_woken (g.B.Board.board c.self.inside.board) c.self.inside.queue c.bring.new.self c.self.inside.queue_state c.bring.ensures.knows c.bring.ensures.ripe c.self.invariant.1),
      c.self.invariant.2,
    )
