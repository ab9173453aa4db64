-- One height after another is executed.
use Rattle.std.proofs.Common.{arith, subst}
use Rattle.std.specs.Prelude.{Ok, Err}
use Rattle.snow_boot.specs.Clauses.Accepting.{Executes}
use Rattle.snow_boot.proofs.Accepted.{left_of, executes_on, execution_stops, execution_ends}
use Rattle.snow_boot.proofs.executing.execute.Goals as goal

pub returns-in-Err : goal.returns-in-Err
returns-in-Err g c =
    let s = c.args.store.now.store in
    let old = g.C.Chain.held c.loop-height.chain in
    let now = g.C.Chain.held c.execute_at.new.chain in
    let begun = g.C.Chain.held c.args.chain.now in
    subst (λ i. Executes (Err c.in-Err.stop) c.args.log.now c.execute_at.new.log now (left_of g.C.Chain.rules s.kept begun i s.height c.args.top)) c.last-below.ensures
    (subst (λ n. Executes (Err c.in-Err.stop) c.args.log.now c.execute_at.new.log now (left_of g.C.Chain.rules s.kept begun c.last-below.result n c.args.top)) c.height-height.ensures
    (execution_stops g.C.Chain.rules s.kept old now c.loop-height.below c.loop-height.height c.args.top c.args.log.now c.loop-height.log c.execute_at.new.log
    (left_of g.C.Chain.rules s.kept begun c.last-below.result c.height-height.result c.args.top) c.in-Err.stop c.loop-height-test.true c.loop-height.invariant.1 c.loop-height.invariant.0
    c.in-Err.ensures))

pub loop-height-preserved : goal.loop-height-preserved
loop-height-preserved g c =
    let s = c.args.store.now.store in
    let old = g.C.Chain.held c.loop-height.chain in
    let now = g.C.Chain.held c.execute_at.new.chain in
    let begun = g.C.Chain.held c.args.chain.now in (
      executes_on g.C.Chain.rules s.kept old now c.loop-height.below c.in-Ok.next c.loop-height.height c.args.top c.args.log.now c.loop-height.log c.execute_at.new.log
          (left_of g.C.Chain.rules s.kept begun c.last-below.result c.height-height.result c.args.top) c.loop-height-test.true c.loop-height.invariant.1 c.loop-height.invariant.0
          c.in-Ok.ensures,
      c.in-Ok.ensures.1,
      c.in-Ok.ensures.2,
    )

pub returns : goal.returns
returns g c =
    let s = c.args.store.now.store in
    let old = g.C.Chain.held c.loop-height.chain in
    let begun = g.C.Chain.held c.args.chain.now in
    subst (λ i. Executes (Ok c.loop-height.below) c.args.log.now c.loop-height.log old (left_of g.C.Chain.rules s.kept begun i s.height c.args.top)) c.last-below.ensures
    (subst (λ n. Executes (Ok c.loop-height.below) c.args.log.now c.loop-height.log old (left_of g.C.Chain.rules s.kept begun c.last-below.result n c.args.top)) c.height-height.ensures
    (execution_ends g.C.Chain.rules s.kept old c.loop-height.below c.loop-height.height c.args.top c.args.log.now c.loop-height.log
    (left_of g.C.Chain.rules s.kept begun c.last-below.result c.height-height.result c.args.top) (omega (arith, c.loop-height-test.false)) c.loop-height.invariant.1
    c.loop-height.invariant.2 c.loop-height.invariant.0))
