-- Lemmas on the nodes of a roster: which stand twice, and where their units end.
use Rattle.std.proofs.Common.{◌≡◌, ℕ, zero, suc, ◌+◌, ◌-◌, ◌<◌, ◌≤◌, Bool, true, false, not, cond, ◌||◌, List, [], ◌∷◌, ◌++◌, length, get_or, take, drop, Some, refl, sym, ap, ◌∙◌, arith, nat_le}
use Rattle.std.specs.BTreeSet.{BTreeSet, contains, Updates}
use Rattle.std.specs.Cmp.Lexicographic.{slice_cmp}
use Rattle.std.specs.Ordering.{nat_cmp}
use Rattle.std.specs.List.Sorted.{IsPartitionedBy, IsPartitionPoint}
use Rattle.std.specs.Str.{bytes_eq}
use Rattle.std.proofs.lemmas.Bool.{not-true, not-false, cond-true, cond-false, leb-true, leb-false, le-leb, lt-ltb, le-ltb}
use Rattle.std.proofs.lemmas.List.{take_more, drop_more}
use Rattle.std.proofs.lemmas.List.Folds.{list_any_more}
use Rattle.std.proofs.lemmas.List.Sums.{sum_by-cons}
use Rattle.std.proofs.lemmas.Map.Text.{is_eq-slice_cmp}
use Rattle.snow_sample.specs.declared.roster.Node.{Node}
use Rattle.snow_sample.specs.Model.Roster.{total_weight, has_node, repeated_behind, first_repeated, ends_from, owner}

-- ---- nodes that stand twice

-- the first i nodes are distinct, and these are their identifiers
pub record HasSeen (nodes : List Node) (i : ℕ) (seen : BTreeSet (List ℕ)) : Type 0 where
  pub rest : repeated_behind (take i nodes) (drop i nodes) ≡ first_repeated nodes
  pub same : (id : List ℕ) → contains (slice_cmp nat_cmp) seen id ≡ has_node (take i nodes) id

-- the rest begins with the node that comes next
next : (nodes : List Node) (i : ℕ) (n : Node) → i < length nodes → n ≡ get_or nodes i n → drop i nodes ≡ n ∷ drop (i + 1) nodes
next nodes i n h is = drop_more nodes i n h ∙ ap (λ m. m ∷ drop (i + 1) nodes) (sym is)

-- either test
or_cond : (b c : Bool) → cond b true c ≡ (c || b)
or_cond true true = refl
or_cond true false = refl
or_cond false true = refl
or_cond false false = refl

-- the next node was seen
pub repeats : (nodes : List Node) (i : ℕ) (n : Node) (seen : BTreeSet (List ℕ)) → i < length nodes → n ≡ get_or nodes i n → HasSeen nodes i seen
    → not (contains (slice_cmp nat_cmp) seen n.id) ≡ false → Some n.id ≡ first_repeated nodes
repeats nodes i n seen h is has old =
    let stood : has_node (take i nodes) n.id ≡ true = sym (has.same n.id) ∙ not-false _ old in
    sym (cond-true _ (Some n.id) (repeated_behind (take i nodes ++ n ∷ []) (drop (i + 1) nodes)) stood)
    ∙ ap (repeated_behind (take i nodes)) (sym (next nodes i n h is)) ∙ has.rest

-- the next node is new
pub sees : (nodes : List Node) (i : ℕ) (n : Node) (seen more : BTreeSet (List ℕ)) → i < length nodes → n ≡ get_or nodes i n → HasSeen nodes i seen
    → not (contains (slice_cmp nat_cmp) seen n.id) ≡ true → Updates (slice_cmp nat_cmp) seen more n.id true → HasSeen nodes (i + 1) more
sees nodes i n seen more h is has new updates =
    let stood : has_node (take i nodes) n.id ≡ false = sym (has.same n.id) ∙ not-true _ new in
    let taken : take (i + 1) nodes ≡ take i nodes ++ n ∷ [] = take_more nodes i n h ∙ ap (λ m. take i nodes ++ m ∷ []) (sym is) in
    record {
      rest = ap (λ front. repeated_behind front (drop (i + 1) nodes)) taken
          ∙ sym (cond-false _ (Some n.id) (repeated_behind (take i nodes ++ n ∷ []) (drop (i + 1) nodes)) stood)
          ∙ ap (repeated_behind (take i nodes)) (sym (next nodes i n h is)) ∙ has.rest;
      same = λ id.
          updates.0 id ∙ ap (λ b. cond b true (contains (slice_cmp nat_cmp) seen id)) (is_eq-slice_cmp n.id id)
          ∙ ap (cond (bytes_eq n.id id) true) (has.same id) ∙ or_cond (bytes_eq n.id id) (has_node (take i nodes) id)
          ∙ ap (λ (m : Node). has_node (take i nodes) id || bytes_eq m.id id) is ∙ sym (list_any_more (λ m. bytes_eq m.id id) nodes i n h);
    }

-- ---- where units end

-- the end of the next node's units
pub ends_more : (nodes : List Node) (start i : ℕ) (n : Node) → i < length nodes → n ≡ get_or nodes i n
    → ends_from start (take (suc i) nodes) ≡ ends_from start (take i nodes) ++ (start + total_weight (take i nodes) + n.weight) ∷ []
ends_more [] start i n h is = absurd (omega arith)
ends_more (m ∷ nodes) start zero n h is =
    let end : start + m.weight ≡ start + 0 + n.weight = omega (arith, ap (λ (x : Node). x.weight) is) in
    ap (λ e. e ∷ []) end
ends_more (m ∷ nodes) start (suc i) n h is =
    let weight : Node → ℕ = λ x. x.weight in
    let end : start + m.weight + total_weight (take i nodes) + n.weight ≡ start + total_weight (m ∷ take i nodes) + n.weight =
    omega (arith, sum_by-cons weight m (take i nodes)) in
    ap (λ l. (start + m.weight) ∷ l)
    (ends_more nodes (start + m.weight) i n (omega arith) is ∙ ap (λ e. ends_from (start + m.weight) (take i nodes) ++ e ∷ []) end)

-- units end behind where they begin
begins : (nodes : List Node) (start i d : ℕ) → i < length nodes → start ≤ get_or (ends_from start nodes) i d
begins [] start i d h = absurd (omega arith)
begins (n ∷ nodes) start zero d h = omega arith
begins (n ∷ nodes) start (suc i) d h = omega (arith, begins nodes (start + n.weight) i d (omega arith))

-- later units end later
rising : (nodes : List Node) (start i j d : ℕ) → i ≤ j → j < length nodes → get_or (ends_from start nodes) i d ≤ get_or (ends_from start nodes) j d
rising [] start i j d p q = absurd (omega arith)
rising (n ∷ nodes) start zero zero d p q = omega arith
rising (n ∷ nodes) start zero (suc j) d p q = begins nodes (start + n.weight) j d (omega arith)
rising (n ∷ nodes) start (suc i) zero d p q = absurd (omega arith)
rising (n ∷ nodes) start (suc i) (suc j) d p q = rising nodes (start + n.weight) i j d (omega arith) (omega arith)

-- there are as many ends as nodes
pub length-ends : (nodes : List Node) (start : ℕ) → length (ends_from start nodes) ≡ length nodes
length-ends [] start = refl
length-ends (n ∷ nodes) start = ap suc (length-ends nodes (start + n.weight))

-- the ends that are at most a unit stand in front
pub ends_partitioned : (nodes : List Node) (unit : ℕ) → IsPartitionedBy (λ end. nat_le end unit) (ends_from 0 nodes)
ends_partitioned nodes unit i j d p q e =
    le-leb _ _ (omega (arith, leb-true _ _ e, rising nodes 0 i j d p (omega (arith, length-ends nodes 0))))

-- the number of ends that are at most a unit is the place of the unit's node
pub owned : (nodes : List Node) (start unit at : ℕ) → start ≤ unit → unit < start + total_weight nodes → at ≤ length nodes
    → IsPartitionPoint (λ end. nat_le end unit ≡ true) (λ end. nat_le end unit ≡ false) (ends_from start nodes) at
    → (at < length nodes) × ((n : Node) → n ≡ get_or nodes at n → n.id ≡ owner nodes (unit - start))
owned [] start unit at low high bound parts = absurd (omega arith)
owned (m ∷ nodes) start unit zero low high bound parts =
    let below : unit < start + m.weight = leb-false _ _ (parts.1 0 0 (omega arith) (omega arith)) in
    (omega arith, λ n is. ap (λ (x : Node). x.id) is ∙ sym (cond-true _ m.id (owner nodes (unit - start - m.weight)) (lt-ltb (unit - start) m.weight (omega arith))))
owned (m ∷ nodes) start unit (suc at) low high bound parts =
    let above : start + m.weight ≤ unit = leb-true _ _ (parts.0 0 0 (omega arith) (omega arith)) in
    let weight : Node → ℕ = λ x. x.weight in
    let later = owned nodes (start + m.weight) unit at above (omega (arith, sum_by-cons weight m nodes)) (omega arith)
    (λ k d p q. parts.0 (suc k) d (omega arith) (omega arith), λ k d p q. parts.1 (suc k) d (omega arith) (omega arith)) in
    let behind : unit - (start + m.weight) ≡ unit - start - m.weight = omega arith in (
      omega (arith, later.0),
      λ n is. later.1 n is ∙ ap (owner nodes) behind ∙ sym (cond-false _ m.id (owner nodes (unit - start - m.weight)) (le-ltb (unit - start) m.weight (omega arith))),
    )

-- the same for ends that begin at 0
pub owner_place : (nodes : List Node) (ends : List ℕ) (unit at : ℕ) → ends ≡ ends_from 0 nodes → unit < total_weight nodes → at ≤ length ends
    → IsPartitionPoint (λ end. nat_le end unit ≡ true) (λ end. nat_le end unit ≡ false) ends at
    → (at < length nodes) × ((n : Node) → n ≡ get_or nodes at n → n.id ≡ owner nodes unit)
owner_place nodes ends unit at is small bound parts =
    let within : at ≤ length nodes = omega (arith, length-ends nodes 0, ap (λ (l : List ℕ). length l) is) in
    let whole : unit - 0 ≡ unit = omega arith in
    let place = owned nodes 0 unit at (omega arith) (omega arith) within (rw is at parts) in
    (place.0, λ n same. place.1 n same ∙ ap (owner nodes) whole)
