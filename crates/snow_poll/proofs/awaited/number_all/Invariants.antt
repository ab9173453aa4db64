-- The nodes so far have their numbers.
use Rattle.std.proofs.Common.{◌≡◌, ℕ, List}
use Rattle.snow_poll.specs.Kept.Awaited.{number_in}
use Rattle.snow_poll.proofs.Waiting.{IsNumberAmong}
use Rattle.snow_poll.proofs.awaited.number_all.Given as goal

abbrev pub invariant-loop-wait : goal.invariant-loop-wait
invariant-loop-wait l = (l.number ≡ l.wait-index) × ((node : List ℕ) → IsNumberAmong l.waits l.wait-index node (number_in l.numbers node))
