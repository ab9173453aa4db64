-- The run goes on, or begins here.
use Rattle.std.proofs.Common.{◌∙◌, sym}
use Rattle.snow_interval.specs.Clauses.Listed.{listed}
use Rattle.snow_interval.proofs.Running.{run_on, run_begins, run_ends}
use Rattle.snow_interval.proofs.list.KeptListKept.lowest.Goals as goal

pub loop-low-preserved : goal.loop-low-preserved
loop-low-preserved c = run_on (listed c.args.self.now.heights) c.loop-low.low c.loop-low-test.true (sym c.if-contains.ensures.held) ∙ c.loop-low.invariant

pub returns-else-contains : goal.returns-else-contains
returns-else-contains c = run_begins (listed c.args.self.now.heights) c.loop-low.low c.loop-low-test.true (sym c.if-contains.ensures.held) ∙ c.loop-low.invariant

pub returns-after-loop-low : goal.returns-after-loop-low
returns-after-loop-low c = run_ends (listed c.args.self.now.heights) c.loop-low.low c.loop-low-test.false ∙ c.loop-low.invariant
