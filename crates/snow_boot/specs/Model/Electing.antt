-- Which identifiers become targets: what the nodes name is collected, and what more than half of the weight backs is a target.
use Rattle.std.specs.Prelude.{ℕ, ◌+◌, ◌*◌, Bool, not, List, [], ◌∷◌, ◌++◌, Option, map, find, nat_lt, bytes_eq, if◌then◌else◌}
use Rattle.std.specs.List.{list_any, filter}
use Rattle.snow_sample.specs.declared.roster.Node.{Node}
use Rattle.snow_boot.specs.declared.question.Candidate.{Candidate}
use Rattle.snow_store.specs.Model.Paths.{has_id}

-- a node whose answer is awaited
abbrev pub awaits : List Node → List ℕ → Option Node
awaits awaited node = find (λ n. bytes_eq n.id node) awaited

-- the nodes whose answer is still awaited once this one has answered
abbrev pub still_awaited : List Node → List ℕ → List Node
still_awaited awaited node = filter (λ n. not (bytes_eq n.id node)) awaited

-- whether an identifier was collected
abbrev pub is_collected : List Candidate → List ℕ → Bool
is_collected candidates id = list_any (λ c. bytes_eq c.id id) candidates

-- an identifier is collected, each once and in order
abbrev pub collected : List Candidate → List ℕ → List Candidate
collected candidates id = if is_collected candidates id then candidates else candidates ++ record { id = id; weight = 0 } ∷ []

-- a node backs those that its answer names, each once
abbrev pub backed_by : ℕ → List (List ℕ) → Candidate → Candidate
backed_by weight ids c = if has_id ids c.id then record { id = c.id; weight = c.weight + weight } else c

abbrev pub backed : ℕ → List (List ℕ) → List Candidate → List Candidate
backed weight ids candidates = map (backed_by weight ids) candidates

-- whether the weight behind a candidate is more than half of all
abbrev pub is_target : ℕ → Candidate → Bool
is_target total c = nat_lt total (2 * c.weight)

-- the targets, in the order in which they were collected
abbrev pub majority : ℕ → List Candidate → List (List ℕ)
majority total candidates = map (λ c. c.id) (filter (is_target total) candidates)
