use Rattle.snow_lineup.proofs.Tagged.{indexed_nothing}
use Rattle.snow_lineup.proofs.Windowed.{within_nothing}
use Rattle.snow_lineup.proofs.lineup.Lineup.new.Goals as goal

pub invariant_of-result : goal.invariant_of-result
invariant_of-result g c = rw (c.new.ensures.items, c.empty.ensures) (indexed_nothing c.new-2.result.rows c.new-2.ensures, within_nothing)
