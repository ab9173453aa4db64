-- What peers are served followed the decisions so far.
use Rattle.std.proofs.Common.{◌≡◌, take}
use Rattle.snow_node.specs.Model.Supplying.{with_decisions}
use Rattle.snow_node.proofs.running.supplying.serve_decisions.Given as goal

abbrev pub invariant-loop-decision : goal.invariant-loop-decision
invariant-loop-decision l = l.served ≡ with_decisions l.initial.served (take l.decision-index l.decisions)
