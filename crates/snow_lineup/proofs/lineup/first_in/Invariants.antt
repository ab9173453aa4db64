use Rattle.std.proofs.Common.{map}
use Rattle.snow_lineup.specs.Kept.Index.{seat_of}
use Rattle.snow_lineup.proofs.Windowed.{NoneBelow}
use Rattle.snow_lineup.proofs.lineup.first_in.Given as goal

abbrev pub invariant-loop-at : goal.invariant-loop-at
invariant-loop-at g l = NoneBelow l.mark (map seat_of l.slots) l.at
