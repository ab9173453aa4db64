-- Settling, closing and repolls end because there is nothing left to do: the count from which each is made is never what ends it.
use Rattle.std.specs.Prelude.{◌≡◌, ℕ, ◌<◌}
use Rattle.snow_flake.specs.Model.Rule.{Answer}
use Rattle.snow_chain.specs.Model.Chain.{Rules}
use Rattle.snow_node.specs.Model.Again.{again}
use Rattle.snow_node.specs.Model.Running.{Running}
use Rattle.snow_node.specs.Model.Querying.{one_repolled, lacking, repolled}
use Rattle.snow_node.specs.Model.Closing.{one_closed, running_polls, closed_out}
use Rattle.snow_node.specs.Model.Settling.{one_settled, left_to_do, settled}

-- more steps of settling than may be left to do come to the same
abbrev pub SettlingEnds : Type 0
SettlingEnds = (rules : Rules) (answer : Answer) (node : Running) (n : ℕ) → left_to_do node < n → again n (one_settled rules answer) node ≡ settled rules answer node

-- so do more closings than polls run
abbrev pub ClosingEnds : Type 0
ClosingEnds = (answer : Answer) (node : Running) (n : ℕ) → running_polls node < n → again n (one_closed answer) node ≡ closed_out answer node

-- and more repolls than polls are lacking
abbrev pub RepollsEnd : Type 0
RepollsEnd = (answer : Answer) (node : Running) (n : ℕ) → lacking node < n → again n (one_repolled answer) node ≡ repolled answer node
