-- Those that are left are chained, whatever the mask by which all were.
use Rattle.std.proofs.Common.{◌≡◌, ℕ, length, vec_capacity}
use Rattle.snow_poll.specs.Kept.Awaited.{AreWaits}
use Rattle.snow_poll.proofs.awaited.leave_all.Given as goal

abbrev pub invariant-loop-wait : goal.invariant-loop-wait
invariant-loop-wait l = ((mask : ℕ) → AreWaits mask l.initial.waits.items l.initial.lasts.items → AreWaits mask l.waits.items l.lasts.items) × (vec_capacity l.waits ≡ vec_capacity l.initial.waits)

abbrev pub decreases-loop-wait : goal.decreases-loop-wait
decreases-loop-wait l = length l.waits.items
