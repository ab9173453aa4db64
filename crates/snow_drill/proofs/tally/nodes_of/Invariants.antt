-- The nodes so far.
use Rattle.std.proofs.Common.{◌≡◌, map, take}
use Rattle.snow_drill.proofs.tally.nodes_of.Given as goal

abbrev pub invariant-loop-draw : goal.invariant-loop-draw
invariant-loop-draw l = l.nodes ≡ map (λ draw. draw.node) (take l.draw-index l.draw-items)
