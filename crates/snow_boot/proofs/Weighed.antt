-- The nodes whose answer is awaited, by a table of their weights.
use Rattle.std.proofs.Common.{◌≡◌, ℕ, ◌<◌, Bool, true, false, ◌==◌, not, cond, List, [], ◌∷◌, length, Option, Some, None, bytes_eq, if◌then◌else◌, refl, sym, ap, ◌∙◌, arith}
use Rattle.std.specs.Prelude.{is_some}
use Rattle.std.specs.BTreeMap.{BTreeMap, get, is_at, btree_map_len}
use Rattle.std.specs.Cmp.Lexicographic.{slice_cmp}
use Rattle.std.specs.Option.{option_map}
use Rattle.std.specs.Ordering.{nat_cmp}
use Rattle.std.proofs.lemmas.Bool.{ne_eqb}
use Rattle.std.proofs.lemmas.Map.Text.{is_eq-slice_cmp}
use Rattle.snow_sample.specs.declared.roster.Node.{Node}
use Rattle.snow_boot.specs.Model.Electing.{awaits, still_awaited}
use Rattle.snow_boot.specs.Kept.Surveying.{nodes_in, HasWeights}
use Rattle.snow_store.proofs.Cases.{clash, same_id, id_same, not_none, none_not, id_turned}

abbrev Weights : Type 0
Weights = BTreeMap (List ℕ) ℕ

abbrev weight : Node → ℕ
weight n = n.weight

-- ---- no node

none_there : (weights : Weights) → weights.entries ≡ [] → (id : List ℕ) → get (slice_cmp nat_cmp) weights id ≡ None
none_there weights none id = rw none refl

pub none_in : (weights : Weights) → weights.entries ≡ [] → (nodes : List Node) → nodes_in weights nodes ≡ []
none_in weights none [] = refl
none_in weights none (n ∷ nodes) = ap (λ o. cond (is_some o) (n ∷ nodes_in weights nodes) (nodes_in weights nodes)) (none_there weights none n.id) ∙ none_in weights none nodes

pub none_weigh : (weights : Weights) → weights.entries ≡ [] → HasWeights weights []
none_weigh weights none id = none_there weights none id

pub none_known : (weights : Weights) → weights.entries ≡ [] → (nodes : List Node) → HasWeights weights (nodes_in weights nodes)
none_known weights none nodes id = none_there weights none id ∙ sym (ap (λ l. option_map weight (awaits l id)) (none_in weights none nodes))

-- nothing has a weight just where there is no node
pub none_left : (weights : Weights) (nodes : List Node) → HasWeights weights nodes → (0 < btree_map_len weights → ⊥) → true ≡ (length nodes == 0)
none_left weights nodes has none = by weights.entries refl none nodes has
  where
    by : (es : List (List ℕ × ℕ)) → weights.entries ≡ es → (0 < length es → ⊥) → (nodes : List Node) → HasWeights weights nodes → true ≡ (length nodes == 0)
    by [] is none [] has = refl
    by [] is none (n ∷ nodes) has =
        not_none n.weight (sym (has n.id ∙ ap (λ (t : Bool). option_map weight (if t then Some n else awaits nodes n.id)) (id_same n.id n.id refl)) ∙ none_there weights is n.id)
    by (e ∷ es) is none nodes has = absurd (none (omega arith))

pub some_left : (weights : Weights) (nodes : List Node) (id : List ℕ) (w : ℕ) → HasWeights weights nodes → get (slice_cmp nat_cmp) weights id ≡ Some w → false ≡ (length nodes == 0)
some_left weights [] id w has is = none_not w (sym (has id) ∙ is)
some_left weights (n ∷ nodes) id w has is = sym (ne_eqb (length (n ∷ nodes)) 0 (λ e. omega (arith, e)))

-- ---- all nodes

-- one node more in front
pub more_weigh : (before now : Weights) (n : Node) (nodes : List Node)
    → ((q : List ℕ) → get (slice_cmp nat_cmp) now q ≡ cond (is_at (slice_cmp nat_cmp n.id) q) (Some n.weight) (get (slice_cmp nat_cmp) before q)) → HasWeights before nodes → HasWeights now (n ∷ nodes)
more_weigh before now n nodes change has q =
    change q ∙ ap (λ t. cond t (Some n.weight) (get (slice_cmp nat_cmp) before q)) (is_eq-slice_cmp n.id q)
    ∙ ap (cond (bytes_eq n.id q) (Some n.weight)) (has q) ∙ by (bytes_eq n.id q)
  where
    by : (t : Bool) → cond t (Some n.weight) (option_map weight (awaits nodes q)) ≡ option_map weight (if t then Some n else awaits nodes q)
    by true = refl
    by false = refl

-- the table of all nodes has each
pub all_in : (weights : Weights) (nodes : List Node) → HasWeights weights nodes → nodes_in weights nodes ≡ nodes
all_in weights nodes has = left nodes (λ id e. ap is_some (has id) ∙ some (awaits nodes id) e)
  where
    some : (o : Option Node) → is_some o ≡ true → is_some (option_map weight o) ≡ true
    some None e = clash true refl (sym e)
    some (Some n) e = refl

    or_more : (t : Bool) (n : Node) (o : Option Node) → is_some o ≡ true → is_some (if t then Some n else o) ≡ true
    or_more true n o e = refl
    or_more false n o e = e

    left : (l : List Node) → ((id : List ℕ) → is_some (awaits l id) ≡ true → is_some (get (slice_cmp nat_cmp) weights id) ≡ true) → nodes_in weights l ≡ l
    left [] there = refl
    left (n ∷ l) there =
        ap (λ t. cond t (n ∷ nodes_in weights l) (nodes_in weights l))
        (there n.id (ap (λ (t : Bool). is_some (if t then Some n else awaits l n.id)) (id_same n.id n.id refl)))
        ∙ ap (λ r. n ∷ r) (left l (λ id e. there id (or_more (bytes_eq n.id id) n (awaits l id) e)))

-- ---- a node has answered

abbrev pub IsWithout : Weights → List ℕ → Weights → Type 0
IsWithout before node now = (q : List ℕ) → get (slice_cmp nat_cmp) now q ≡ cond (is_at (slice_cmp nat_cmp node) q) None (get (slice_cmp nat_cmp) before q)

pub still_in : (before now : Weights) (node : List ℕ) → IsWithout before node now → (nodes : List Node) → nodes_in now nodes ≡ still_awaited (nodes_in before nodes) node
still_in before now node change [] = refl
still_in before now node change (n ∷ nodes) =
    ap (λ o. cond (is_some o) (n ∷ nodes_in now nodes) (nodes_in now nodes)) (change n.id ∙ ap (λ t. cond t None (get (slice_cmp nat_cmp) before n.id)) (is_eq-slice_cmp node n.id ∙ id_turned node n.id))
    ∙ by (bytes_eq n.id node) refl (get (slice_cmp nat_cmp) before n.id) (still_in before now node change nodes)
  where
    by : (t : Bool) → bytes_eq n.id node ≡ t → (o : Option ℕ) → nodes_in now nodes ≡ still_awaited (nodes_in before nodes) node
        → cond (is_some (cond t None o)) (n ∷ nodes_in now nodes) (nodes_in now nodes) ≡ still_awaited (cond (is_some o) (n ∷ nodes_in before nodes) (nodes_in before nodes)) node
    by true same None more = more
    by true same (Some w) more = more ∙ ap (λ t. cond (not t) (n ∷ still_awaited (nodes_in before nodes) node) (still_awaited (nodes_in before nodes) node)) (sym same)
    by false other None more = more
    by false other (Some w) more = ap (λ l. n ∷ l) more ∙ ap (λ t. cond (not t) (n ∷ still_awaited (nodes_in before nodes) node) (still_awaited (nodes_in before nodes) node)) (sym other)

-- another node is awaited as before
still_awaits : (nodes : List Node) (node id : List ℕ) → option_map weight (awaits (still_awaited nodes node) id) ≡ cond (bytes_eq node id) None (option_map weight (awaits nodes id))
still_awaits [] node id = by (bytes_eq node id)
  where
    by : (t : Bool) → None ≡ cond t None (option_map weight None)
    by true = refl
    by false = refl
still_awaits (n ∷ nodes) node id = by (bytes_eq n.id node) (bytes_eq n.id id) (bytes_eq node id) refl refl refl (still_awaits nodes node id)
  where
    by : (s t u : Bool) → bytes_eq n.id node ≡ s → bytes_eq n.id id ≡ t → bytes_eq node id ≡ u
        → option_map weight (awaits (still_awaited nodes node) id) ≡ cond u None (option_map weight (awaits nodes id))
        → option_map weight (awaits (cond (not s) (n ∷ still_awaited nodes node) (still_awaited nodes node)) id) ≡ cond u None (option_map weight (if t then Some n else awaits nodes id))
    by true t true is it both more = more
    by true true false is it both more = clash (bytes_eq node id) (id_same node id (sym (same_id n.id node is) ∙ same_id n.id id it)) both
    by true false false is it both more = more
    by false true true is it both more = clash (bytes_eq n.id node) (id_same n.id node (same_id n.id id it ∙ sym (same_id node id both))) is
    by false true false is it both more = ap (λ (t : Bool). option_map weight (if t then Some n else awaits (still_awaited nodes node) id)) it
    by false false u is it both more = ap (λ (t : Bool). option_map weight (if t then Some n else awaits (still_awaited nodes node) id)) it ∙ more

pub still_weigh : (before now : Weights) (node : List ℕ) (nodes : List Node) → IsWithout before node now → HasWeights before (nodes_in before nodes) → HasWeights now (nodes_in now nodes)
still_weigh before now node nodes change has q =
    change q ∙ ap (λ t. cond t None (get (slice_cmp nat_cmp) before q)) (is_eq-slice_cmp node q) ∙ ap (cond (bytes_eq node q) None) (has q)
    ∙ sym (still_awaits (nodes_in before nodes) node q)
    ∙ sym (ap (λ l. option_map weight (awaits l q)) (still_in before now node change nodes))
