use Rattle.std.proofs.Common.{All, take}
use Rattle.snow_base.specs.Clauses.Gathered.{IsNamed}
use Rattle.snow_climb.proofs.naming.all_named.Given as goal

abbrev pub invariant-loop-id : goal.invariant-loop-id
invariant-loop-id l = All IsNamed (take l.id-index l.ids)
