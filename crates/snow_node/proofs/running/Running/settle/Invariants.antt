-- The steps so far were done.
use Rattle.snow_node.specs.Model.Settling.{left_to_do, one_settled}
use Rattle.snow_node.specs.Model.Running.{Running}
use Rattle.snow_node.proofs.Made.{Along}
use Rattle.snow_node.proofs.running.Running.settle.Given as goal

abbrev pub invariant-loop-work : goal.invariant-loop-work
invariant-loop-work g l = Along Running left_to_do (one_settled g.C.Chain.rules g.B.Board.answer) l.initial.self l.initial.log l.self l.log

abbrev pub decreases-loop-work : goal.decreases-loop-work
decreases-loop-work g l = left_to_do l.self
