-- The chain was told the decisions so far, and may be told the rest.
use Rattle.std.proofs.Common.{◌≡◌, take, drop}
use Rattle.snow_node.specs.Clauses.Matching.{MayFollow}
use Rattle.snow_node.specs.Model.Telling.{with_decisions}
use Rattle.snow_node.proofs.telling.notify_chain.Given as goal

abbrev pub invariant-loop-decision : goal.invariant-loop-decision
invariant-loop-decision g l = record {
  told : g.C.Chain.held l.chain ≡ with_decisions (g.C.Chain.held l.initial.chain) (take l.decision-index l.decisions);
  rest : MayFollow (g.C.Chain.held l.chain) (drop l.decision-index l.decisions);
}
