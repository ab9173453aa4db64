-- The Start of a drill.
use Rattle.std.specs.Prelude.{ℕ, zero, suc, ◌^◌, false, List, [], ◌∷◌, ◌++◌, replicate}
use Rattle.snow_wire.specs.declared.event.Start.{Start}
use Rattle.snow_drill.specs.Kept.Told.{nobody}

-- a node: 20 bytes, all equal to its number
abbrev pub node : ℕ → List ℕ
node i = replicate 20 i

-- so many nodes, numbered from 1, each of weight 1
unfoldable pub nodes : ℕ → List (List ℕ × ℕ)
nodes zero = []
nodes (suc n) = nodes n ++ (node (suc n), 1) ∷ []

-- AvalancheGo's parameters, and 25 nodes; nothing was spent of a large cap
abbrev pub first : Start
first = record {
  k = 20;
  alpha_preference = 15;
  alpha_confidence = 15;
  beta = 20;
  repolls = 4;
  boot = false;
  last = nobody;
  height = 0;
  state = 0 ∷ 2 ^ 63 ∷ [];
  nodes = nodes 25;
}
