-- A node runs at once, above the block with which its chain begins.
use Rattle.snow_engine.proofs.Beginning.{begun_alone, runs}
use Rattle.snow_engine.proofs.engine.begin_on.Goals as goal

pub above-requires-clause-alone : goal.above-requires-clause-alone
above-requires-clause-alone g c = begun_alone (g.C.Chain.held c.args.chain) c.args.first.now.last c.args.first.now.state c.requires.chain

pub returns-clause-answer : goal.returns-clause-answer
returns-clause-answer g c =
    runs c.args.first.now c.args.params c.args.roster c.new.result c.new-2.result (g.C.Chain.held c.args.chain) c.in_ok-node.node
    c.if-first.false c.requires.roster c.new.ensures c.new-2.ensures c.requires.chain c.in_ok-node.ensures
