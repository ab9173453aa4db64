-- This decision is gone behind those before it.
use Rattle.std.proofs.Common.{◌∙◌, sym, ap, take, None}
use Rattle.std.proofs.lemmas.List.Sums.{fold_more}
use Rattle.snow_board.specs.declared.board.Decision.{Decision}
use Rattle.snow_issue.specs.Kept.Known.{lists_of}
use Rattle.snow_issue.specs.Model.Lists.{Lists, after_gone}
use Rattle.snow_node.specs.Model.Closing.{all_gone}
use Rattle.snow_node.proofs.running.closing.mark_gone.Goals as goal

abbrev one_gone : Lists → Decision → Lists
one_gone lists d = after_gone lists (record { id = d.id; parent = None })

pub loop-decision-preserved : goal.loop-decision-preserved
loop-decision-preserved c =
    let first = lists_of c.args.queue.now in
    let i = c.loop-decision.decision-index in
    record {
      lists = c.gone.ensures.lists
          ∙ ap (λ (q : Lists). one_gone q c.decision-item.result) c.loop-decision.invariant.lists
          ∙ ap (one_gone (all_gone first (take i c.args.decisions.now))) c.decision-item.is
          ∙ sym (fold_more one_gone first c.args.decisions.now i c.decision-item.result c.loop-decision-test.true);
      knows = λ board h. c.gone.ensures.knows board (c.loop-decision.invariant.knows board h);
      seats = c.gone.ensures.seats ∙ c.loop-decision.invariant.seats;
    }
