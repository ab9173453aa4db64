-- How much weight may back a candidate while the nodes answer.
use Rattle.std.proofs.Common.{◌≡◌, ℕ, ◌+◌, ◌-◌, ◌^◌, ◌<◌, ◌≤◌, Bool, true, false, not, List, [], ◌∷◌, ◌++◌, length, None, Some, bytes_eq, if◌then◌else◌, refl, sym, ap, subst, ◌∙◌, arith}
use Rattle.std.specs.Option.{option_map}
use Rattle.std.proofs.lemmas.List.Sums.{sum_by-cons}
use Rattle.snow_sample.specs.declared.roster.Node.{Node}
use Rattle.snow_sample.specs.Model.Roster.{total_weight, first_fault}
use Rattle.snow_boot.specs.declared.question.Candidate.{Candidate}
use Rattle.snow_boot.specs.declared.question.Question.TheVariants as question
use Rattle.snow_boot.specs.Model.Electing.{awaits, still_awaited, is_collected, collected, backed}
use Rattle.snow_store.specs.Model.Paths.{has_id}
use Rattle.snow_boot.specs.Kept.Surveying.{Surveyed, AreWithin, IsSurvey}
use Rattle.snow_store.proofs.Cases.{none_not, same_some}

-- a higher bound
pub within_more : (most more : ℕ) (candidates : List Candidate) → most ≤ more → AreWithin most candidates → AreWithin more candidates
within_more most more [] le are = tt
within_more most more (c ∷ candidates) le are = (omega (arith, le, are.0), within_more most more candidates le are.1)

-- one candidate more, which nothing backs
within_last : (most : ℕ) (candidates : List Candidate) (id : List ℕ) → AreWithin most candidates → AreWithin most (candidates ++ record { id = id; weight = 0 } ∷ [])
within_last most [] id are = (omega arith, tt)
within_last most (c ∷ candidates) id are = (are.0, within_last most candidates id are.1)

pub within_collected : (most : ℕ) (candidates : List Candidate) (id : List ℕ) → AreWithin most candidates → AreWithin most (collected candidates id)
within_collected most candidates id are = by_test (is_collected candidates id)
  where
    by_test : (t : Bool) → AreWithin most (if t then candidates else candidates ++ record { id = id; weight = 0 } ∷ [])
    by_test true = are
    by_test false = within_last most candidates id are

-- some are backed by more
pub within_backed : (most weight : ℕ) (ids : List (List ℕ)) (candidates : List Candidate) → AreWithin most candidates → AreWithin (most + weight) (backed weight ids candidates)
within_backed most weight ids [] are = tt
within_backed most weight ids (c ∷ candidates) are = (by_test (has_id ids c.id), within_backed most weight ids candidates are.1)
  where
    by_test : (t : Bool) → (if t then record { id = c.id; weight = c.weight + weight } else c).weight ≤ most + weight
    by_test true = omega (arith, are.0)
    by_test false = omega (arith, are.0)

-- by which identifiers doesn't matter, where the same are among them
pub backed_same : (weight : ℕ) (some others : List (List ℕ)) (candidates : List Candidate) → ((id : List ℕ) → has_id some id ≡ has_id others id) → backed weight some candidates ≡ backed weight others candidates
backed_same weight some others [] same = refl
backed_same weight some others (c ∷ candidates) same =
    ap (λ (t : Bool). (if t then record { id = c.id; weight = c.weight + weight } else c) ∷ backed weight some candidates) (same c.id)
    ∙ ap (λ l. (if has_id others c.id then record { id = c.id; weight = c.weight + weight } else c) ∷ l) (backed_same weight some others candidates same)

-- the weight of a node and of others
weighs : (n : Node) (nodes : List Node) → total_weight (n ∷ nodes) ≡ n.weight + total_weight nodes
weighs n nodes = sum_by-cons (λ (m : Node). m.weight) n nodes

-- nodes that have answered aren't awaited
pub fewer : (awaited : List Node) (node : List ℕ) → total_weight (still_awaited awaited node) ≤ total_weight awaited
fewer [] node = omega arith
fewer (n ∷ awaited) node = by_test (not (bytes_eq n.id node)) (fewer awaited node)
  where
    by_test : (t : Bool) → total_weight (still_awaited awaited node) ≤ total_weight awaited
        → total_weight (if t then n ∷ still_awaited awaited node else still_awaited awaited node) ≤ total_weight (n ∷ awaited)
    by_test true less =
        let g : total_weight (n ∷ still_awaited awaited node) ≤ total_weight (n ∷ awaited) = omega (arith, less, weighs n (still_awaited awaited node), weighs n awaited) in g
    by_test false less = let g : total_weight (still_awaited awaited node) ≤ total_weight (n ∷ awaited) = omega (arith, less, weighs n awaited) in g

pub lighter : (awaited : List Node) (node : List ℕ) (weight : ℕ) → Some weight ≡ option_map (λ n. n.weight) (awaits awaited node) → total_weight (still_awaited awaited node) + weight ≤ total_weight awaited
lighter [] node weight e = none_not weight (sym e)
lighter (n ∷ awaited) node weight e = by_test (bytes_eq n.id node) (fewer awaited node) (lighter awaited node weight) e
  where
    by_test : (t : Bool) → total_weight (still_awaited awaited node) ≤ total_weight awaited
        → (Some weight ≡ option_map (λ n. n.weight) (awaits awaited node) → total_weight (still_awaited awaited node) + weight ≤ total_weight awaited)
        → Some weight ≡ option_map (λ n. n.weight) (if t then Some n else awaits awaited node)
        → total_weight (if not t then n ∷ still_awaited awaited node else still_awaited awaited node) + weight ≤ total_weight (n ∷ awaited)
    by_test true less more e =
        let is : weight ≡ n.weight = same_some weight n.weight e in
        let g : total_weight (still_awaited awaited node) + weight ≤ total_weight (n ∷ awaited) = omega (arith, less, is, weighs n awaited) in g
    by_test false less more e =
        let g : total_weight (n ∷ still_awaited awaited node) + weight ≤ total_weight (n ∷ awaited) = omega (arith, more e, weighs n (still_awaited awaited node), weighs n awaited) in g

abbrev heard : Surveyed → List ℕ → List Candidate → Surveyed
heard s node candidates = record { nodes = s.nodes; question = s.question; number = s.number; awaited = still_awaited s.awaited node; candidates = candidates }

-- nothing is asked yet
some_nodes : (nodes : List Node) → first_fault nodes ≡ None → 0 < length nodes
some_nodes [] good = absurd (bad good)
  where
    bad : first_fault [] ≡ None → ⊥
    bad e = cc
some_nodes (n ∷ nodes) good = omega arith

pub survey_begun : (nodes : List Node) (total number : ℕ) → first_fault nodes ≡ None → total ≡ total_weight nodes → total < 2 ^ 63
    → IsSurvey record { nodes = nodes; question = question.Nothing; number = number; awaited = []; candidates = [] } total
survey_begun nodes total number good is small = record { some = some_nodes nodes good; total = is; small = small; waits = omega arith; backed = tt; fresh = λ e. tt }

-- all nodes are asked for their frontier
pub survey_frontier : (s : Surveyed) (total number : ℕ) → IsSurvey s total → IsSurvey record { nodes = s.nodes; question = question.Frontier; number = number; awaited = s.nodes; candidates = [] } total
survey_frontier s total number is = record { some = is.some; total = is.total; small = is.small; waits = (let same = is.total in omega (arith, same)); backed = tt; fresh = λ e. tt }

-- or what they hold accepted
pub survey_accepted : (s : Surveyed) (total number : ℕ) → s.question ≡ question.Frontier → IsSurvey s total
    → IsSurvey record { nodes = s.nodes; question = question.Accepted; number = number; awaited = s.nodes; candidates = s.candidates } total
survey_accepted s total number asks is = record {
  some = is.some;
  total = is.total;
  small = is.small;
  waits = let same = is.total in omega (arith, same);
  backed = within_more 0 (total - total_weight s.nodes) s.candidates (omega arith) (is.fresh asks);
  fresh = λ e. absurd (other e);
}
  where
    other : question.Accepted ≡ question.Frontier → ⊥
    other e = cc

-- a node has answered
pub survey_heard : (s : Surveyed) (total : ℕ) (node : List ℕ) → IsSurvey s total → IsSurvey (heard s node s.candidates) total
survey_heard s total node is =
    let less = fewer s.awaited node in
    let waits = is.waits in record {
      some = is.some;
      total = is.total;
      small = is.small;
      waits = omega (arith, less, waits);
      backed = within_more (total - total_weight s.awaited) (total - total_weight (still_awaited s.awaited node)) s.candidates (omega (arith, less, waits)) is.backed;
      fresh = is.fresh;
    }

-- a node has named its frontier
pub survey_collected : (s : Surveyed) (total : ℕ) (node id : List ℕ) → IsSurvey s total → IsSurvey (heard s node (collected s.candidates id)) total
survey_collected s total node id is =
    let h = survey_heard s total node is in record {
      some = h.some;
      total = h.total;
      small = h.small;
      waits = h.waits;
      backed = within_collected (total - total_weight (still_awaited s.awaited node)) s.candidates id h.backed;
      fresh = λ e. within_collected 0 s.candidates id (is.fresh e);
    }

-- a node has named what it holds accepted
pub survey_backed : (s : Surveyed) (total : ℕ) (node : List ℕ) (weight : ℕ) (ids : List (List ℕ)) → IsSurvey s total → Some weight ≡ option_map (λ n. n.weight) (awaits s.awaited node)
    → s.question ≡ question.Accepted → IsSurvey (heard s node (backed weight ids s.candidates)) total
survey_backed s total node weight ids is waits asks =
    let less = lighter s.awaited node weight waits in
    let most = is.waits in record {
      some = is.some;
      total = is.total;
      small = is.small;
      waits = omega (arith, less, most);
      backed = within_more ((total - total_weight s.awaited) + weight) (total - total_weight (still_awaited s.awaited node)) (backed weight ids s.candidates) (omega (arith, less, most))
          (within_backed (total - total_weight s.awaited) weight ids s.candidates is.backed);
      fresh = λ e. absurd (other (sym asks ∙ e));
    }
  where
    other : question.Accepted ≡ question.Frontier → ⊥
    other e = cc

-- nothing is asked any more
pub survey_closed : (s : Surveyed) (total : ℕ) → IsSurvey s total → IsSurvey record { nodes = s.nodes; question = question.Nothing; number = s.number; awaited = []; candidates = s.candidates } total
survey_closed s total is = record {
  some = is.some;
  total = is.total;
  small = is.small;
  waits = omega arith;
  backed =
      let e : total ≡ total - 0 = omega arith in
      subst (λ most. AreWithin most s.candidates) e (within_more (total - total_weight s.awaited) total s.candidates (omega arith) is.backed);
  fresh = λ e. absurd (other e);
}
  where
    other : question.Nothing ≡ question.Frontier → ⊥
    other e = cc

-- the weight of a node, and of what backs a candidate
pub small_weight : (s : Surveyed) (total : ℕ) (node : List ℕ) (weight : ℕ) → IsSurvey s total → Some weight ≡ option_map (λ n. n.weight) (awaits s.awaited node) → weight < 2 ^ 63
small_weight s total node weight is waits = let less = lighter s.awaited node weight waits in let most = is.waits in let small = is.small in omega (arith, less, most, small)

pub small_backing : (s : Surveyed) (total : ℕ) → IsSurvey s total → AreWithin (2 ^ 63) s.candidates
small_backing s total is = let small = is.small in within_more (total - total_weight s.awaited) (2 ^ 63) s.candidates (omega (arith, small)) is.backed
