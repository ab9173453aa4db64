use Rattle.std.proofs.Common.{arith}
use Rattle.snow_climb.proofs.naming.small.Goals as goal

pub returns : goal.returns
returns c = λ i. omega (arith, c.type_inv.bytes i)
