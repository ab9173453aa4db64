use Rattle.std.proofs.Common.{rules}
use Rattle.snow_drill.proofs.Firsts.{first_placed}
use Rattle.snow_drill.proofs.made.Made.push.Goals as goal

pub invariant_of-self-2 : goal.invariant_of-self-2
invariant_of-self-2 c = first_placed _ _ c.args.block _ _ c.self.invariant (search rules) (λ id. search rules)
