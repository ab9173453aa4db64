-- The next decision may be told, and then the rest.
use Rattle.snow_node.proofs.Told.{next_may, next_told}
use Rattle.snow_node.proofs.telling.notify_chain.Goals as goal

pub notify_of_one-requires : goal.notify_of_one-requires
notify_of_one-requires g c =
    (next_may (g.C.Chain.held c.loop-decision.chain) c.args.decisions.now c.loop-decision.decision-index c.decision-item.result
    c.loop-decision-test.true c.decision-item.is c.loop-decision.invariant.rest).0

pub loop-decision-preserved : goal.loop-decision-preserved
loop-decision-preserved g c =
    let held = g.C.Chain.held c.loop-decision.chain in
    let rest = (next_may held c.args.decisions.now c.loop-decision.decision-index c.decision-item.result
    c.loop-decision-test.true c.decision-item.is c.loop-decision.invariant.rest).1 in
    record {
      told = next_told (g.C.Chain.held c.args.chain.now) held (g.C.Chain.held c.notify_of_one.new.chain) c.args.decisions.now c.loop-decision.decision-index
          c.decision-item.result c.loop-decision-test.true c.decision-item.is c.loop-decision.invariant.told c.notify_of_one.ensures;
      rest = rw c.notify_of_one.ensures rest;
    }
