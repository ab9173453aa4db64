use Rattle.std.proofs.Common.{arith}
use Rattle.snow_wire.proofs.Events.{is_found, is_given}
use Rattle.snow_wire.proofs.decoding.decode.Goals as goal

pub returns-clause-found : goal.returns-clause-found
returns-clause-found c = is_found c.args.payload.now c.whole.result (λ i. omega (arith, c.type_inv.payload i)) c.whole.ensures

pub returns-clause-only : goal.returns-clause-only
returns-clause-only c = is_given c.args.payload.now c.whole.result c.whole.ensures
