-- What is looked at leaves the lists as they are, and what is remembered of them stays true.
use Rattle.std.proofs.Common.{ℕ, List, Option, Ok, sym, ap, ◌∙◌, subst}
use Rattle.snow_board.specs.Model.Board.{Board}
use Rattle.snow_issue.specs.Kept.Known.{lists_of}
use Rattle.snow_node.specs.declared.running.queue_state.QueueState.{QueueState}
use Rattle.snow_node.specs.Model.Running.{Running}
use Rattle.snow_node.specs.Model.Hearing.{fetched_if}
use Rattle.snow_node.specs.Kept.Tied.{AreBothOff}
use Rattle.snow_node.specs.Kept.QueueState.{IsInState}
use Rattle.snow_node.proofs.Keeping.{kept_same, same_lists}
use Rattle.snow_node.proofs.QueueState.{kept_looked}
use Rattle.snow_node.proofs.running.Running.fetch_parent.Goals as goal

pub invariant_of-self : goal.invariant_of-self
invariant_of-self g c =
    let board = g.B.Board.board c.self.inside.board in
    let off = subst (λ (b : Board). AreBothOff b c.args.block.now) (sym (ap (λ (n : Running). n.board) c.self.view_is ∙ c.in_ok-fetch.ensures.board)) (rw c.in-Some.is at c.requires.off) in (
      kept_same c.self.inside.params board (g.C.Chain.held c.self.inside.chain) c.self.inside.polls (lists_of c.self.inside.queue) c.self.inside.numbers c.self.invariant.0 (lists_of c.mark_quiet-idle.new.self) c.mark_quiet-idle.ensures.lists,
      subst (λ (k : QueueState). IsInState board c.mark_quiet-idle.new.self k) (sym c.looked-self-inside.ensures)
          (kept_looked board c.self.inside.queue c.mark_quiet-idle.new.self c.self.inside.queue_state c.mark_quiet-idle.result (c.mark_quiet-idle.ensures.knows board off.0 off.1)
          c.mark_quiet-idle.ensures.ripe c.mark_quiet-idle.ensures.calm (c.mark_quiet-idle.ensures.idle board) c.self.invariant.1),
      c.self.invariant.2,
    )

pub returns-clause-answer : goal.returns-clause-answer
returns-clause-answer g c =
    ap (λ (o : Option (List ℕ)). (fetched_if c.args.self.now c.args.peer.now o).1) c.in-Some.is
    ∙ c.in_ok-fetch.ensures.answer
    ∙ ap (λ (n : Running). Ok n) (sym (same_lists c.mark_quiet-idle.ensures.lists c.self.view_is))
