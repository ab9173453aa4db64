use Rattle.std.proofs.Common.{◌≡◌, ◌++◌, map, take, drop}
use Rattle.snow_lineup.specs.Kept.Index.{reset}
use Rattle.snow_lineup.proofs.lineup.forget_all.Given as goal

abbrev pub invariant-loop-slot : goal.invariant-loop-slot
invariant-loop-slot g l = l.slots ≡ map reset (take l.slot-index l.initial.slots) ++ drop l.slot-index l.initial.slots
