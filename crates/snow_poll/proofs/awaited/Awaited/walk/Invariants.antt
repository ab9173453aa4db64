-- No entry of a greater number is the node's.
use Rattle.snow_poll.proofs.Waiting.{IsWalkFor}
use Rattle.snow_poll.proofs.awaited.Awaited.walk.Given as goal

abbrev pub invariant-loop-number : goal.invariant-loop-number
invariant-loop-number l = IsWalkFor l.self.mask l.self.waits.items l.node l.number

abbrev pub decreases-loop-number : goal.decreases-loop-number
decreases-loop-number l = l.number
