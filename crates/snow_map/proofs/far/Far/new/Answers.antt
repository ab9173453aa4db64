use Rattle.std.proofs.Common.{ap}
use Rattle.std.specs.Map.{keys_of}
use Rattle.snow_map.specs.Clauses.Entries.{value_of}
use Rattle.snow_map.proofs.Lists.{once_in_order}
use Rattle.snow_map.proofs.far.Far.new.Goals as goal

pub invariant_of-result : goal.invariant_of-result
invariant_of-result g c = record {
  once = once_in_order (keys_of c.new.result.entries) c.new.ensures.ordered;
  noted = λ id none. ap (λ l. value_of l id) c.new.ensures.empty;
}
