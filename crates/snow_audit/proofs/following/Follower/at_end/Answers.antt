-- Lines are owed, or none.
use Rattle.snow_audit.specs.Kept.Following.{between}
use Rattle.snow_audit.proofs.Owing.{owing_end}
use Rattle.snow_audit.proofs.following.Follower.at_end.Goals as goal

pub returns-then-is_owing : goal.returns-then-is_owing
returns-then-is_owing g c =
    owing_end (between c.args.self.now.stop c.args.self.now.runner.engine c.args.self.now.events c.args.self.now.lines c.args.self.now.at c.args.self.now.runner.log)
    c.args.self.now.at c.args.self.now.runner.log c.args.stream c.at_end_owing.result (c.is_owing.ensures.some c.if-is_owing.true) (λ first others. c.at_end_owing.ensures)
