-- Settling, closing and repolls: the count from which each is made is never what ends it.
use Rattle.std.proofs.Common.{◌≡◌, ℕ, suc, ◌<◌, arith}
use Rattle.snow_flake.specs.Model.Rule.{Answer}
use Rattle.snow_chain.specs.Model.Chain.{Rules}
use Rattle.snow_node.specs.Model.Again.{again}
use Rattle.snow_node.specs.Model.Running.{Running}
use Rattle.snow_node.specs.Model.Querying.{one_repolled, lacking, repolled}
use Rattle.snow_node.specs.Model.Closing.{one_closed, running_polls, closed_out}
use Rattle.snow_node.specs.Model.Settling.{one_settled, left_to_do, settled}
use Rattle.snow_node.proofs.Made.{enough}
use Rattle.snow_node.proofs.Looping.{repolls_fall, polls_fall, settling_falls}

-- steps of settling
pub settling_ends : (rules : Rules) (answer : Answer) (node : Running) (n : ℕ) → left_to_do node < n → again n (one_settled rules answer) node ≡ settled rules answer node
settling_ends rules answer node n h = enough Running left_to_do (one_settled rules answer) (settling_falls rules answer) n (suc (left_to_do node)) node h (omega arith)

-- closed polls
pub closing_ends : (answer : Answer) (node : Running) (n : ℕ) → running_polls node < n → again n (one_closed answer) node ≡ closed_out answer node
closing_ends answer node n h = enough Running running_polls (one_closed answer) (polls_fall answer) n (suc (running_polls node)) node h (omega arith)

-- repolls
pub repolls_end : (answer : Answer) (node : Running) (n : ℕ) → lacking node < n → again n (one_repolled answer) node ≡ repolled answer node
repolls_end answer node n h = enough Running lacking (one_repolled answer) (repolls_fall answer) n (suc (lacking node)) node h (omega arith)
