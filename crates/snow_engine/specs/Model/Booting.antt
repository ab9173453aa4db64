-- A node that bootstraps before it runs: all that it knows between two events.
use Rattle.std.specs.Prelude.{ℕ, ◌-◌, ◌^◌, ◌≤◌, List}
use Rattle.snow_flake.specs.Model.Parameters.{Parameters, AreGood}
use Rattle.snow_chain.specs.Model.Chain.{Held}
use Rattle.snow_sample.specs.declared.roster.Node.{Node as Member}
use Rattle.snow_boot.specs.Model.Booting.{Boot}
use Rattle.snow_boot.specs.Clauses.Calling.{Course, MayGoOn}

-- the parameters, the roster, how far bootstrapping is, the state of the last accepted block, the random words, and the last number
-- drawn
pub record Booting : Type 0 where
  pub parameters : Parameters
  pub roster : List Member
  pub boot : Boot
  pub state : List ℕ
  pub words : List ℕ
  pub last : ℕ

-- what ties a node that bootstraps: its parameters are good, bootstrapping may go on over its chain, and the last number drawn is one
-- of 32 bits
pub record IsCatchingUp (p : Parameters) (course : Course) (held : Held) (drawn : ℕ) : Type 0 where
  pub good : AreGood p
  pub may : MayGoOn course held drawn
  pub small : drawn ≤ 2 ^ 32 - 1
