-- The nodes that are sampled: their weight, what is wrong with them, and which of them has a unit of weight.
use Rattle.std.specs.Prelude.{◌≡◌, ℕ, ◌+◌, ◌-◌, ◌^◌, Bool, List, [], ◌∷◌, ◌++◌, Option, Some, None, Result, Ok, Err, nat_lt, ◌==◌, find, sum_by, if◌then◌else◌}
use Rattle.std.specs.List.{list_any}
use Rattle.std.specs.Option.{option_map, option_or}
use Rattle.std.specs.Str.{bytes_eq}
use Rattle.snow_sample.specs.declared.roster.Node.{Node}
use Rattle.snow_sample.specs.declared.roster.RosterFault.{RosterFault}
use Rattle.snow_sample.specs.declared.roster.RosterFault.TheVariants as faults

-- how many units of weight the nodes have in all
abbrev pub total_weight : List Node → ℕ
total_weight nodes = sum_by (λ n. n.weight) nodes

-- whether a node stands among these
abbrev pub has_node : List Node → List ℕ → Bool
has_node nodes id = list_any (λ n. bytes_eq n.id id) nodes

-- the first node, from the second list on, that stands earlier too
abbrev pub repeated_behind : List Node → List Node → Option (List ℕ)
repeated_behind earlier [] = None
repeated_behind earlier (n ∷ nodes) = if has_node earlier n.id then Some n.id else repeated_behind (earlier ++ n ∷ []) nodes

-- the first node that stands earlier too
abbrev pub first_repeated : List Node → Option (List ℕ)
first_repeated nodes = repeated_behind [] nodes

-- the first node that has no weight
abbrev pub first_weightless : List Node → Option (List ℕ)
first_weightless nodes = option_map (λ n. n.id) (find (λ n. n.weight == 0) nodes)

-- whether there is no node
abbrev pub none_fault : List Node → Option RosterFault
none_fault [] = Some faults.Empty
none_fault (n ∷ nodes) = None

-- whether there are too many units
abbrev pub heavy_fault : List Node → Option RosterFault
heavy_fault nodes = if nat_lt (2 ^ 63 - 1) (total_weight nodes) then Some faults.TooHeavy else None

-- the first thing that is wrong with the nodes
abbrev pub first_fault : List Node → Option RosterFault
first_fault nodes =
    option_or (none_fault nodes)
    (option_or (option_map faults.Duplicate (first_repeated nodes))
    (option_or (option_map faults.ZeroWeight (first_weightless nodes))
    (heavy_fault nodes)))

-- the answer to these nodes: the same nodes, or the first thing that is wrong with them; want of memory says nothing
abbrev pub IsRosterOf : List Node → Result (List Node) RosterFault → Type 0
IsRosterOf nodes (Ok roster) = (first_fault nodes ≡ None) × (roster ≡ nodes)
IsRosterOf nodes (Err faults.Empty) = first_fault nodes ≡ Some faults.Empty
IsRosterOf nodes (Err (faults.Duplicate node)) = first_fault nodes ≡ Some (faults.Duplicate node)
IsRosterOf nodes (Err (faults.ZeroWeight node)) = first_fault nodes ≡ Some (faults.ZeroWeight node)
IsRosterOf nodes (Err faults.TooHeavy) = first_fault nodes ≡ Some faults.TooHeavy
IsRosterOf nodes (Err faults.Memory) = Unit {0}

-- where each node's units end, the first node's beginning here
abbrev pub ends_from : ℕ → List Node → List ℕ
ends_from start [] = []
ends_from start (n ∷ nodes) = (start + n.weight) ∷ ends_from (start + n.weight) nodes

-- the nodes of a roster, with where their units end and how many units there are
pub record IsRoster (nodes : List Node) (ends : List ℕ) (units : ℕ) : Type 0 where
  pub good : first_fault nodes ≡ None
  pub in_turn : ends ≡ ends_from 0 nodes
  pub total : units ≡ total_weight nodes

-- the node that has a unit: the units, counted from 0, belong to the nodes in order
abbrev pub owner : List Node → ℕ → List ℕ
owner [] unit = []
owner (n ∷ nodes) unit = if nat_lt unit n.weight then n.id else owner nodes (unit - n.weight)
