-- There is a block, which is accepted or refused.
use Rattle.snow_boot.proofs.Accepted.{refuses_at, accepts_at}
use Rattle.snow_store.specs.Model.Keeping.{held}
use Rattle.snow_boot.proofs.executing.execute_at.Goals as goal

pub returns-in-Ok : goal.returns-in-Ok
returns-in-Ok g c =
    accepts_at g.C.Chain.rules c.args.log.now c.execute_one.new.log (g.C.Chain.held c.args.chain.now) (g.C.Chain.held c.execute_one.new.chain) c.in-Some.block.now
    (held c.args.store.now.store.kept c.args.height) c.in-Some.ensures c.in-Ok.ensures

pub returns-in-Err : goal.returns-in-Err
returns-in-Err g c =
    refuses_at g.C.Chain.rules c.args.log.now c.execute_one.new.log (g.C.Chain.held c.args.chain.now) (g.C.Chain.held c.execute_one.new.chain) c.in-Some.block.now
    (held c.args.store.now.store.kept c.args.height) c.in-Err.stop c.in-Some.ensures c.in-Err.ensures
