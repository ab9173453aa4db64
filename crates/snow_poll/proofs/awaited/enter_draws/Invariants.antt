-- The nodes so far have their draws.
use Rattle.std.proofs.Common.{◌≡◌, map, take, vec_capacity}
use Rattle.snow_poll.specs.Kept.Awaited.{counts_at, draw_of, AreWaits}
use Rattle.snow_poll.specs.Kept.Tallied.{HasTimes}
use Rattle.snow_poll.proofs.awaited.enter_draws.Given as goal

abbrev pub invariant-loop-draw : goal.invariant-loop-draw
invariant-loop-draw l = AreWaits l.mask l.waits.items l.lasts.items × HasTimes (counts_at l.waits.items) (take l.draw-index l.draws)
    × (map draw_of l.waits.items ≡ take l.draw-index l.draws) × (vec_capacity l.waits ≡ vec_capacity l.initial.waits)
