-- The lines of the decisions so far were appended.
use Rattle.std.proofs.Common.{◌≡◌, ◌++◌, take, map}
use Rattle.snow_node.specs.Model.Telling.{decision_line}
use Rattle.snow_node.proofs.reporting.tell_decisions.Given as goal

abbrev pub invariant-loop-decision : goal.invariant-loop-decision
invariant-loop-decision l = l.log ≡ l.initial.log ++ map decision_line (take l.decision-index l.decisions)
