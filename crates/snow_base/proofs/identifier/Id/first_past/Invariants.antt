use Rattle.std.proofs.Common.{◌*◌}
use Rattle.snow_base.specs.Model.Identifier.{AgreeFrom}
use Rattle.snow_base.proofs.identifier.Id.first_past.Given as goal

-- the bits so far agree
abbrev pub invariant-loop-at : goal.invariant-loop-at
invariant-loop-at l = AgreeFrom (64 * l.from) (64 * l.at) l.self l.other
