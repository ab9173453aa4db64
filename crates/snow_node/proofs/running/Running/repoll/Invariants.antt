-- The queries so far were made.
use Rattle.snow_node.specs.Model.Querying.{lacking, one_repolled}
use Rattle.snow_node.specs.Model.Running.{Running}
use Rattle.snow_node.proofs.Made.{Along}
use Rattle.snow_node.proofs.running.Running.repoll.Given as goal

abbrev pub invariant-loop-self : goal.invariant-loop-self
invariant-loop-self g l = Along Running lacking (one_repolled g.B.Board.answer) l.initial.self l.initial.log l.self l.log

abbrev pub decreases-loop-self : goal.decreases-loop-self
decreases-loop-self g l = lacking l.self
