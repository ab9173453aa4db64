-- No move of a greater number is to the position.
use Rattle.snow_sample.proofs.Moves.{IsWalkTo}
use Rattle.snow_sample.proofs.shuffle.Shuffle.walk.Given as goal

abbrev pub invariant-loop-number : goal.invariant-loop-number
invariant-loop-number l = IsWalkTo l.self.mask l.self.moved.items l.place l.number

abbrev pub decreases-loop-number : goal.decreases-loop-number
decreases-loop-number l = l.number
