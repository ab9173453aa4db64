use Rattle.std.proofs.Common.{◌≡◌, map, drop}
use Rattle.snow_held.specs.Kept.Arrivals.{woken_among}
use Rattle.snow_held.proofs.arrivals.wake_each.Given as goal

abbrev pub invariant-loop-arrival : goal.invariant-loop-arrival
invariant-loop-arrival l = map (woken_among (drop l.arrival-index l.numbers) l.id) l.backlog ≡ map (woken_among l.numbers l.id) l.initial.backlog
