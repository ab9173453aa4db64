use Rattle.std.proofs.Common.{arith}
use Rattle.snow_held.proofs.Ranged.{few}
use Rattle.snow_held.proofs.roll.Roll.len.Goals as goal

pub returns-clause-few : goal.returns-clause-few
returns-clause-few c = omega (arith, c.self.invariant.count, few c.self.inside.places.items, c.self.inside.places.ok.0)
