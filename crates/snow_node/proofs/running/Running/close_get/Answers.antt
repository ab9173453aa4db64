-- A get is closed, or there is none.
use Rattle.std.proofs.Common.{◌≡◌, false, ◌∙◌, sym, ap, subst, rules}
use Rattle.snow_gets.specs.Model.Gets.{has_number}
use Rattle.snow_issue.specs.Model.Lists.{Lists, after_closed}
use Rattle.snow_issue.specs.Kept.Known.{lists_of}
use Rattle.snow_node.specs.declared.running.queue_state.QueueState.{QueueState}
use Rattle.snow_node.specs.Kept.QueueState.{IsInState}
use Rattle.snow_node.proofs.Keeping.{kept_queue_as, same_lists}
use Rattle.snow_node.proofs.QueueState.{kept_woken}
use Rattle.snow_node.proofs.Working.{none_closed, none_numbered, closed_gets}
use Rattle.snow_node.proofs.running.Running.close_get.Goals as goal

pub returns-then-not-has_number-clause-found : goal.returns-then-not-has_number-clause-found
returns-then-not-has_number-clause-found g c =
    let none : has_number c.args.self.now.queue.gets c.args.number ≡ false = search rules in
    none_numbered c.args.self.now.queue.gets c.args.number c.args.peer.now none

pub returns-then-not-has_number-clause-node : goal.returns-then-not-has_number-clause-node
returns-then-not-has_number-clause-node g c =
    let node = c.args.self.now in
    let none : has_number node.queue.gets c.args.number ≡ false = search rules in
    sym (ap (λ (queue : Lists). record node { queue = queue })
    (none_closed node.queue c.args.number c.args.peer.now (none_numbered node.queue.gets c.args.number c.args.peer.now none)))

pub invariant_of-self : goal.invariant_of-self
invariant_of-self g c = (
  kept_queue_as c.self.inside.params (g.B.Board.board c.self.inside.board) (g.C.Chain.held c.self.inside.chain) c.self.inside.polls (lists_of c.self.inside.queue) c.self.inside.numbers c.self.invariant.0 (after_closed (lists_of c.self.inside.queue) c.args.number c.args.peer.now) (lists_of c.close_get.new.self)
      c.close_get.ensures.lists c.self.invariant.0.waiting
      (closed_gets c.self.inside.numbers c.args.number c.args.peer.now c.self.inside.queue.gets c.self.invariant.0.gets),
  subst (λ (k : QueueState). IsInState (g.B.Board.board c.self.inside.board) c.close_get.new.self k) (sym c.woken-self-inside.ensures)
      (kept_woken (g.B.Board.board c.self.inside.board) c.self.inside.queue c.close_get.new.self c.self.inside.queue_state c.close_get.ensures.knows c.close_get.ensures.ripe c.self.invariant.1),
  c.self.invariant.2,
)

pub returns-clause-none : goal.returns-clause-none
returns-clause-none g c = λ none.
    same_lists (c.close_get.ensures.lists ∙ none_closed (lists_of c.self.inside.queue) c.args.number c.args.peer.now (sym none ∙ c.close_get.ensures.answer)) c.self.view_is
