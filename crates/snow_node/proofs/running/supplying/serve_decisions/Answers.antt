-- One decision more was followed.
use Rattle.std.proofs.Common.{◌∙◌, sym, ap, take}
use Rattle.std.proofs.lemmas.List.Sums.{fold_more}
use Rattle.snow_getter.specs.Model.Serving.{Serving}
use Rattle.snow_node.specs.Model.Supplying.{with_decision, with_decisions}
use Rattle.snow_node.proofs.running.supplying.serve_decisions.Goals as goal

pub loop-decision-preserved : goal.loop-decision-preserved
loop-decision-preserved c =
    let first = c.args.served.now in
    let i = c.loop-decision.decision-index in
    c.serve_decision.ensures
    ∙ ap (λ (s : Serving). with_decision s c.decision-item.result) c.loop-decision.invariant
    ∙ ap (with_decision (with_decisions first (take i c.args.decisions.now))) c.decision-item.is
    ∙ sym (fold_more with_decision first c.args.decisions.now i c.decision-item.result c.loop-decision-test.true)
