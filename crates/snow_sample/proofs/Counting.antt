-- Lemmas on draws: where a node's are counted, and how many there are.
use Rattle.std.proofs.Common.{◌≡◌, ◌≢◌, ℕ, zero, suc, ◌+◌, ◌<◌, ◌≤◌, Bool, true, false, cond, List, [], ◌∷◌, ◌++◌, length, get_or, set, None, Some, Option, All, refl, sym, ap, ◌∙◌, arith, inl, inr}
use Rattle.std.specs.Option.{option_map}
use Rattle.std.specs.Str.{bytes_eq}
use Rattle.std.proofs.lemmas.Bool.{both_ways, cases_Bool}
use Rattle.std.proofs.lemmas.List.Elements.{All-cons, All-head, All-tail}
use Rattle.std.proofs.lemmas.List.Kept.{AllPairs-cons}
use Rattle.std.proofs.lemmas.List.Sums.{sum_by-cons}
use Rattle.std.proofs.lemmas.Slice.Eq.{bytes_eq-Decides}
use Rattle.snow_sample.specs.declared.draws.Draw.{Draw}
use Rattle.snow_sample.specs.Kept.Drawn.{place, is_at, one_more}
use Rattle.snow_sample.specs.Model.Sampling.{counted, draw_count, AreOfDistinctNodes}

-- ---- one draw more

-- a count that is written back, one greater
pub written : (draws : List Draw) (at : ℕ) (d : Draw) → at < length draws → d ≡ get_or draws at d
    → set draws at (record { node = d.node; count = d.count + 1 }) ≡ one_more draws at
written [] at d h is = absurd (omega arith)
written (e ∷ draws) zero d h is = ap (λ (x : Draw). record { node = x.node; count = x.count + 1 } ∷ draws) is
written (e ∷ draws) (suc at) d h is = ap (λ l. e ∷ l) (written draws at d (omega arith) is)

-- the same draws as a step of the definition
abbrev pub first_counted : Bool → Draw → List Draw → List ℕ → List Draw
first_counted same d draws node = cond same (record { node = d.node; count = d.count + 1 } ∷ draws) (d ∷ counted draws node)

-- the place in a list, if the first draw is of the node or not
abbrev pub first_place : Bool → Option ℕ → Option ℕ
first_place same later = cond same (Some 0) (option_map suc later)

-- a node that was drawn is counted at its place
pub counted_at : (draws : List Draw) (node : List ℕ) (at : ℕ) → place draws node ≡ Some at → (at < length draws) × (counted draws node ≡ one_more draws at)
counted_at [] node at is = absurd (cc)
counted_at (d ∷ draws) node at is =
    let Goal : Bool → Type 0 = λ same. first_place same (place draws node) ≡ Some at
    → (at < suc (length draws)) × (first_counted same d draws node ≡ one_more (d ∷ draws) at) in
    let later : (o : Option ℕ) → place draws node ≡ o → option_map suc o ≡ Some at → (at < suc (length draws)) × (d ∷ counted draws node ≡ one_more (d ∷ draws) at) =
    λ o. elim o as (λ o. place draws node ≡ o → option_map suc o ≡ Some at → (at < suc (length draws)) × (d ∷ counted draws node ≡ one_more (d ∷ draws) at)) [
      | None ↦ λ was now. absurd (cc)
      | Some p ↦ λ was now.
          let rest = counted_at draws node p was in
          let next : suc p ≡ at = cc in
          rw (← next) (omega (arith, rest.0), ap (λ l. d ∷ l) rest.1)
    ] in
    elim (bytes_eq d.node node) as Goal [
      | true ↦ λ here. let first : zero ≡ at = cc in rw (← first) (omega arith, refl)
      | false ↦ λ there. later (place draws node) refl there
    ] is

-- where a draw of a node stands somewhere, the node has a place there or before
pub place_there : (draws : List Draw) (at : ℕ) (node : List ℕ) → is_at draws at node ≡ true → (first : ℕ) × (place draws node ≡ Some first) × (first ≤ at)
place_there [] at node is = absurd (cc)
place_there (d ∷ draws) zero node is = (0, ap (λ same. first_place same (place draws node)) is, omega arith)
place_there (d ∷ draws) (suc at) node is =
    let rest = place_there draws at node is in
    elim (cases_Bool (bytes_eq d.node node)) [
      | inl same ↦ (0, ap (λ same. first_place same (place draws node)) same, omega arith)
      | inr differ ↦ (suc rest.0, ap (λ same. first_place same (place draws node)) differ ∙ ap (option_map suc) rest.1, omega (arith, rest.2))
    ]

-- a draw of it stands at that place
at_place : (draws : List Draw) (at : ℕ) (node : List ℕ) → place draws node ≡ Some at → is_at draws at node ≡ true
at_place [] at node is = absurd (cc)
at_place (d ∷ draws) at node is =
    let later : (o : Option ℕ) → place draws node ≡ o → option_map suc o ≡ Some at → is_at (d ∷ draws) at node ≡ true =
    λ o. elim o as (λ o. place draws node ≡ o → option_map suc o ≡ Some at → is_at (d ∷ draws) at node ≡ true) [
      | None ↦ λ was now. absurd (cc)
      | Some p ↦ λ was now.
          let next : suc p ≡ at = cc in
          rw (← next) (at_place draws p node was)
    ] in
    elim (cases_Bool (bytes_eq d.node node)) [
      | inl same ↦
          let here : Some zero ≡ Some at = sym (ap (λ same. first_place same (place draws node)) same) ∙ is in
          let first : zero ≡ at = cc in
          rw (← first) same
      | inr differ ↦ later (place draws node) refl (sym (ap (λ same. first_place same (place draws node)) differ) ∙ is)
    ]

-- where none stands at a place, and a place of the node would be that one, it has none
pub no_place : (draws : List Draw) (at : ℕ) (node : List ℕ) → is_at draws at node ≡ false → ((p : ℕ) → place draws node ≡ Some p → at ≡ p)
    → place draws node ≡ None
no_place draws at node other only =
    let each : (o : Option ℕ) → place draws node ≡ o → o ≡ None = λ o. elim o as (λ o. place draws node ≡ o → o ≡ None) [
      | None ↦ λ was. refl
      | Some p ↦ λ was. absurd (both_ways (is_at draws at node) other (ap (λ q. is_at draws q node) (only p was) ∙ at_place draws p node was))
    ] in
    each (place draws node) refl

-- counting at a place changes no place
pub place_kept : (draws : List Draw) (at : ℕ) (node : List ℕ) → place (one_more draws at) node ≡ place draws node
place_kept [] at node = refl
place_kept (d ∷ draws) zero node = refl
place_kept (d ∷ draws) (suc at) node = ap (first_place (bytes_eq d.node node)) (place_kept draws at node)

-- ---- a node's first draw

-- a node without a place is not the first of these, and has none behind it
apart : (d : Draw) (draws : List Draw) (node : List ℕ) → place (d ∷ draws) node ≡ None → (bytes_eq d.node node ≡ false) × (place draws node ≡ None)
apart d draws node none =
    let later : (o : Option ℕ) → option_map suc o ≡ None → o ≡ None = λ o. elim o as (λ o. option_map suc o ≡ None → o ≡ None) [ None ↦ λ h. refl | Some p ↦ λ h. absurd (cc) ] in
    elim (bytes_eq d.node node) as (λ same. first_place same (place draws node) ≡ None → (same ≡ false) × (place draws node ≡ None)) [
      | true ↦ λ h. absurd (cc)
      | false ↦ λ h. (refl, later (place draws node) h)
    ] none

-- a node that was not drawn is counted at the end
pub counted_new : (draws : List Draw) (node : List ℕ) → place draws node ≡ None → counted draws node ≡ draws ++ record { node = node; count = 1 } ∷ []
counted_new [] node none = refl
counted_new (d ∷ draws) node none =
    let parts = apart d draws node none in
    ap (λ same. first_counted same d draws node) parts.0 ∙ ap (λ l. d ∷ l) (counted_new draws node parts.1)

-- the end is then its place
pub place_new : (draws : List Draw) (node other : List ℕ) → place draws node ≡ None
    → place (draws ++ record { node = node; count = 1 } ∷ []) other ≡ cond (bytes_eq node other) (Some (length draws)) (place draws other)
place_new [] node other none = refl
place_new (d ∷ draws) node other none =
    let parts = apart d draws node none in
    ap (first_place (bytes_eq d.node other)) (place_new draws node other parts.1)
    ∙ moved (bytes_eq d.node other) (bytes_eq node other) (length draws) (place draws other)
    (λ first second.
    let one : d.node ≡ node = (bytes_eq-Decides d.node other).0 first ∙ sym ((bytes_eq-Decides node other).0 second) in
    both_ways (bytes_eq d.node node) parts.0 ((bytes_eq-Decides d.node node).1 one))
  where
    moved : (first same : Bool) (end : ℕ) (o : Option ℕ) → (first ≡ true → same ≡ true → ⊥)
        → first_place first (cond same (Some end) o) ≡ cond same (Some (suc end)) (first_place first o)
    moved true true end o differ = absurd (differ refl refl)
    moved true false end o differ = refl
    moved false true end o differ = refl
    moved false false end o differ = refl

-- ---- how many draws, and of which nodes

-- the count of a draw
abbrev count_of : Draw → ℕ
count_of d = d.count

-- a draw more is one more in all
pub count_more : (draws : List Draw) (node : List ℕ) → draw_count (counted draws node) ≡ draw_count draws + 1
count_more [] node = omega arith
count_more (d ∷ draws) node =
    elim (bytes_eq d.node node) as (λ same. draw_count (first_counted same d draws node) ≡ draw_count (d ∷ draws) + 1) [
      | true ↦ omega (arith, sum_by-cons count_of (record { node = d.node; count = d.count + 1 }) draws, sum_by-cons count_of d draws)
      | false ↦ omega (arith, sum_by-cons count_of d (counted draws node), sum_by-cons count_of d draws, count_more draws node)
    ]

-- the first is of another node than all others
first_differs : (d : Draw) (draws : List Draw) → AreOfDistinctNodes (d ∷ draws) → All (λ e. d.node ≢ e.node) draws
first_differs d draws h = λ k e p. h 0 (suc k) e (omega arith) (omega arith)

-- the others are of distinct nodes
others : (d : Draw) (draws : List Draw) → AreOfDistinctNodes (d ∷ draws) → AreOfDistinctNodes draws
others d draws h = λ i j e p q. h (suc i) (suc j) e (omega arith) (omega arith)

-- two draws are of different nodes
abbrev Differ : Draw → Draw → Type 0
Differ d e = d.node ≢ e.node

-- a node that differs from all that were drawn, and from the next, differs from all then
differs_more : (other : List ℕ) (draws : List Draw) (node : List ℕ) → other ≢ node → All (λ e. other ≢ e.node) draws → All (λ e. other ≢ e.node) (counted draws node)
differs_more other [] node h all = All-cons (λ (e : Draw). other ≢ e.node) _ [] h all
differs_more other (d ∷ draws) node h all =
    let head = All-head (λ (e : Draw). other ≢ e.node) d draws all in
    let tail = All-tail (λ (e : Draw). other ≢ e.node) d draws all in
    elim (bytes_eq d.node node) as (λ same. All (λ e. other ≢ e.node) (first_counted same d draws node)) [
      | true ↦ All-cons (λ (e : Draw). other ≢ e.node) _ draws head tail
      | false ↦ All-cons (λ (e : Draw). other ≢ e.node) d _ head (differs_more other draws node h tail)
    ]

-- nodes stay distinct
pub distinct_more : (draws : List Draw) (node : List ℕ) → AreOfDistinctNodes draws → AreOfDistinctNodes (counted draws node)
distinct_more [] node h = AllPairs-cons Differ _ [] (λ k e p. absurd (omega arith)) h
distinct_more (d ∷ draws) node h =
    elim (bytes_eq d.node node) as (λ same. bytes_eq d.node node ≡ same → AreOfDistinctNodes (first_counted same d draws node)) [
      | true ↦ λ is. AllPairs-cons Differ _ draws (first_differs d draws h) (others d draws h)
      | false ↦ λ is. AllPairs-cons Differ d (counted draws node) (differs_more d.node draws node (λ one. both_ways (bytes_eq d.node node) is ((bytes_eq-Decides d.node node).1 one)) (first_differs d draws h)) (distinct_more draws node (others d draws h))
    ] refl
