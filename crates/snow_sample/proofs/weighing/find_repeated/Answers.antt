-- The next node was seen, or is new.
use Rattle.std.proofs.Common.{sym, ◌∙◌}
use Rattle.snow_sample.proofs.Weights.{repeats, sees}
use Rattle.snow_sample.proofs.weighing.find_repeated.Goals as goal

pub returns-then-not-branch : goal.returns-then-not-branch
returns-then-not-branch c =
    repeats c.args.nodes.now c.loop-node.node-index c.node-item.result c.loop-node.earlier c.loop-node-test.true c.node-item.is c.loop-node.invariant
    (sym c.in_ok-insert.ensures.added ∙ c.if-not-branch.true)

pub loop-node-preserved : goal.loop-node-preserved
loop-node-preserved c =
    sees c.args.nodes.now c.loop-node.node-index c.node-item.result c.loop-node.earlier c.insert.new.self c.loop-node-test.true c.node-item.is
    c.loop-node.invariant (sym c.in_ok-insert.ensures.added ∙ c.if-not-branch.false) c.in_ok-insert.ensures.updates
