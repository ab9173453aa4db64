-- What all nodes are being asked, and how much weight may back an identifier.
use Rattle.std.specs.Prelude.{◌≡◌, ℕ, ◌-◌, ◌^◌, ◌<◌, ◌≤◌, List, [], ◌∷◌, length, map, bytes_eq, is_some, ⊤, if◌then◌else◌}
use Rattle.std.specs.BTreeMap.{BTreeMap, get}
use Rattle.std.specs.Cmp.Lexicographic.{slice_cmp}
use Rattle.std.specs.List.{filter, IsDistinct}
use Rattle.std.specs.Option.{option_map}
use Rattle.std.specs.Ordering.{nat_cmp}
use Rattle.snow_sample.specs.declared.roster.Node.{Node}
use Rattle.snow_sample.specs.Model.Roster.{total_weight}
use Rattle.snow_boot.specs.declared.question.Candidate.{Candidate}
use Rattle.snow_boot.specs.declared.question.Question.{Question}
use Rattle.snow_boot.specs.declared.question.Question.TheVariants as question
use Rattle.snow_boot.specs.Model.Electing.{awaits}

-- the nodes; what all of them are being asked, with which number, and whose answer is awaited; and what was collected, with the
-- weight behind it
pub record Surveyed : Type 0 where
  pub nodes : List Node
  pub question : Question
  pub number : ℕ
  pub awaited : List Node
  pub candidates : List Candidate

-- the nodes of a table of weights, in the order of the roster
abbrev pub nodes_in : BTreeMap (List ℕ) ℕ → List Node → List Node
nodes_in weights nodes = filter (λ n. is_some (get (slice_cmp nat_cmp) weights n.id)) nodes

-- a table has the weight of each of these nodes, and no more
abbrev pub HasWeights : BTreeMap (List ℕ) ℕ → List Node → Type 0
HasWeights weights nodes = (id : List ℕ) → get (slice_cmp nat_cmp) weights id ≡ option_map (λ n. n.weight) (awaits nodes id)

-- what all nodes are being asked, where a table has the weights of those whose answer is awaited
abbrev pub surveyed : List Node → Question → ℕ → BTreeMap (List ℕ) ℕ → List Candidate → Surveyed
surveyed nodes question number weights candidates = record {
  nodes = nodes;
  question = question;
  number = number;
  awaited = nodes_in weights nodes;
  candidates = candidates;
}

-- the identifiers are those of the candidates, and none stands twice
pub record AreListed (ids : List (List ℕ)) (candidates : List Candidate) : Type 0 where
  pub same : map (λ c. c.id) candidates ≡ ids
  pub unique : IsDistinct bytes_eq ids

-- the weight that backs an identifier, and 0 where it isn't a candidate
abbrev pub weight_of : List Candidate → List ℕ → ℕ
weight_of [] id = 0
weight_of (c ∷ candidates) id = if bytes_eq id c.id then c.weight else weight_of candidates id

-- no candidate is backed by more than this weight
abbrev pub AreWithin : ℕ → List Candidate → Type 0
AreWithin most [] = ⊤
AreWithin most (c ∷ candidates) = (c.weight ≤ most) × AreWithin most candidates

-- there is a node; no candidate is backed by more than the weight of the nodes that have answered, and by none while the frontier is
-- asked for
pub record IsSurvey (s : Surveyed) (weight : ℕ) : Type 0 where
  pub some : 0 < length s.nodes
  pub total : weight ≡ total_weight s.nodes
  pub small : weight < 2 ^ 63
  pub waits : total_weight s.awaited ≤ weight
  pub backed : AreWithin (weight - total_weight s.awaited) s.candidates
  pub fresh : s.question ≡ question.Frontier → AreWithin 0 s.candidates

-- and the table is that of the awaited nodes
abbrev pub IsKnown : List Node → Question → ℕ → BTreeMap (List ℕ) ℕ → List Candidate → ℕ → Type 0
IsKnown nodes question number weights candidates weight =
    IsSurvey (surveyed nodes question number weights candidates) weight × HasWeights weights (nodes_in weights nodes)
