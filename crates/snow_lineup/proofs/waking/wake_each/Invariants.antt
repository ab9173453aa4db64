use Rattle.std.proofs.Common.{◌≡◌, map, take}
use Rattle.snow_lineup.specs.Kept.Index.{seat_of, woken_at}
use Rattle.snow_lineup.specs.Kept.Windows.{AreWithin}
use Rattle.snow_lineup.proofs.waking.wake_each.Given as goal

abbrev pub invariant-loop-place : goal.invariant-loop-place
invariant-loop-place g l =
    (l.slots ≡ map (woken_at (take l.place-index l.places)) l.initial.slots) × AreWithin (map seat_of l.slots) l.windows
