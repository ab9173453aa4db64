use Rattle.snow_map.proofs.Kept.{none_kept}
use Rattle.snow_map.proofs.id_map.IdMap.new.Goals as goal

pub invariant_of-result : goal.invariant_of-result
invariant_of-result g c = none_kept c.new.result.entries c.new-2.result c.new.ensures.empty c.new-2.ensures
