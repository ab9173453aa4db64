-- The lines of the decisions so far are a front of all.
use Rattle.std.proofs.Common.{◌∙◌}
use Rattle.std.proofs.lemmas.Result.{err_from_is_err_and}
use Rattle.snow_node.specs.Model.Telling.{decision_line}
use Rattle.snow_node.proofs.Logs.{logs_some}
use Rattle.snow_node.proofs.reporting.tell_decisions.Goals as goal

pub returns-in_err-push-clause-err : goal.returns-in_err-push-clause-err
returns-in_err-push-clause-err c =
    let p = err_from_is_err_and c.from_residual.result c.from_residual.ensures.1 in
    rw p.1 (logs_some decision_line c.args.decisions.now c.loop-decision.decision-index c.args.log.now c.push.new.self (c.in_err-push.ensures.err ∙ c.loop-decision.invariant))
