use Rattle.std.proofs.Common.{◌≡◌, ◌++◌, map, take, vec_capacity}
use Rattle.snow_topo.specs.Clauses.Told.{rejection}
use Rattle.snow_topo.proofs.accepting.reject.Given as goal

abbrev pub invariant-loop-id : goal.invariant-loop-id
invariant-loop-id l = (l.decisions.items ≡ l.fn.decisions.items ++ map rejection (take l.id-index l.rejected)) × (vec_capacity l.decisions ≡ vec_capacity l.fn.decisions)
