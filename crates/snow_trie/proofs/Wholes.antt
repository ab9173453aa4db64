-- Lemmas on a tree behind a decided prefix: what each call leaves true of it, and what its counters are then.
use Rattle.std.proofs.Common.{◌≡◌, inl, inr, ℕ, ◌+◌, ◌-◌, ◌^◌, ◌<◌, ◌≤◌, ◌==◌, Bool, true, false, not, List, [], ◌∷◌, ◌++◌, length, drop, All, Contains, get_or, Option, Some, None, if◌then◌else◌, refl, sym, ap, ◌∙◌, subst, length-append, arith}
use Rattle.std.proofs.lemmas.Bool.{eqb-true, cases_lt}
use Rattle.std.proofs.lemmas.List.Elements.{All-contains, Contains-push, Contains-push_cases, Contains-append_left}
use Rattle.snow_base.specs.declared.block.Vote.{Vote}
use Rattle.snow_base.specs.Model.Identifier.{bit, bits, AgreeFrom}
use Rattle.snow_base.specs.Model.Votes.{total_count}
use Rattle.snow_flake.specs.Model.Parameters.{Parameters, AreGood}
use Rattle.snow_flake.specs.Model.Counter.{Decided, admits}
use Rattle.snow_board.specs.Model.Conflict.{Counters, Blank, with_child, all_polled, votes_on}
use Rattle.snow_board.specs.Laws.FailingLaw.{failed}
use Rattle.snow_board.specs.Kept.Walk.{votes_from}
use Rattle.snow_board.proofs.Failing.{few_fail}
use Rattle.snow_trie.specs.Kept.Tree.{Tree, Tip, Line, Two}
use Rattle.snow_trie.specs.Kept.Stamped.{between, linked, strand, counters, whole}
use Rattle.snow_trie.specs.Kept.Outline.{Outline, Leaf, Straight, Split, outline, size, Leads, IsLeaf, IsSorted}
use Rattle.snow_trie.specs.Kept.Shape.{IsPlaced, IsStamped, IsOrdered}
use Rattle.snow_trie.specs.Kept.Growing.{differs_at, or_parted, branch, grown}
use Rattle.snow_trie.specs.Kept.Peeling.{peeled, first_leaf}
use Rattle.snow_trie.specs.Kept.Polled.{IsPolled, IsRestamped, IsNarrowed}
use Rattle.snow_trie.specs.Kept.Whole.{added, next_leader, nodes_of, IsWhole, Compressed, HasFewNodes}
use Rattle.snow_trie.proofs.Strands.{between_split, between_first, between_same, strand-append, polled_linked, failed_strand, grown_strand, parted_strand, forked}
use Rattle.snow_trie.proofs.Stamps.{later, stamped_later}
use Rattle.snow_trie.proofs.Parting.{IsParting, agrees, parts}
use Rattle.snow_trie.proofs.Visited.{placed_within}
use Rattle.snow_trie.proofs.Narrowed.{fewer_votes}
use Rattle.snow_trie.proofs.Grown.{branch_counters, grown_counters}
use Rattle.snow_trie.proofs.Standing.{placed_branch, placed_grown, stamped_grown, open_grown, size_grown, leads_still, leads_added, leaf_grown, sorted_grown}
use Rattle.snow_trie.proofs.Ordered.{are_counts, no_counts, ordered_polled, ordered_grown, ordered_behind, open_all}
use Rattle.snow_trie.proofs.Peeled.{IsPeeled, is_peeled, first_stands}

-- ---- the prefix

pub own_side : (b : Bool) → admits (Decided b) b ≡ true
own_side true = refl
own_side false = refl

-- a poll leaves a prefix
polled_prefix : (p : Parameters) (votes : List Bool → ℕ) (front : List Bool) (rest : Counters)
    → all_polled p votes (strand front Decided rest) ≡ strand front Decided (all_polled p (λ more. votes (front ++ more)) rest)
polled_prefix p votes [] rest = refl
polled_prefix p votes (b ∷ front) rest =
    polled_linked p votes b (Decided b) (strand front Decided rest) (own_side b)
    ∙ ap (linked b (Decided b)) (polled_prefix p (λ more. votes (b ∷ more)) front rest)

-- beside a decided counter nothing is added
excluded_linked : (b : Bool) (old new : Counters) → forked b (Decided b) old new ≡ linked b (Decided b) old
excluded_linked true old new = refl
excluded_linked false old new = refl

-- an identifier that a prefix excludes adds nothing
excluded_prefix : (x id : List ℕ) (to at : ℕ) (rest : Counters) → to ≤ 256 → IsParting id x 0 to at
    → with_child (bits x) (strand (between id 0 to) Decided rest) ≡ strand (between id 0 to) Decided rest
excluded_prefix x id to at rest small part =
    let high = part.high in
    let below : Counters = strand (between id at to) Decided rest in
    let b = bit id at in
    let parted : strand (between id 0 to) Decided rest ≡ strand (between id 0 at) Decided below =
    ap (λ l. strand l Decided rest) (between_split id 0 at to (omega arith) (omega arith)) ∙ strand-append (between id 0 at) (between id at to) Decided rest
    in
    ap (with_child (bits x)) parted
    ∙ grown_strand x id 0 at Decided below (omega arith) (omega arith) part.agree own_side
    ∙ ap (strand (between id 0 at) Decided)
    (parted_strand x id at to Decided rest high small part.differ own_side
    ∙ excluded_linked b (strand (between id (at + 1) to) Decided rest) (with_child (drop (at + 1) (bits x)) Blank)
    ∙ ap (λ l. strand l Decided rest) (sym (between_first id at to high)))
    ∙ sym parted

-- ---- a new tree

pub whole_begun : (id : List ℕ) → IsWhole (id ∷ []) 0 0 id (branch id 0)
whole_begun id = record {
  placed = placed_branch id 0 (omega arith);
  stamped = (omega arith, tt);
  undecided = (refl, tt);
  ordered = subst IsOrdered (sym (branch_counters 0 0 id)) (ordered_grown (drop 0 (bits id)) Blank tt);
  sorted = (λ x leaf k p q. absurd (omega arith), (λ x leaf. subst (AgreeFrom 0 256 id) leaf (λ k p q. refl), tt));
  given = λ x leaf. subst (Contains (id ∷ [])) leaf (Contains-push [] id);
  known = λ x given agree. elim (Contains-push_cases [] id x given) [
    | inl none ↦ absurd (omega (arith, none.1))
    | inr is ↦ subst (Leads (outline 0 (branch id 0))) is (λ k p q. refl, tt)
  ];
  few = omega arith;
  fits = omega arith;
}

pub begun_counters : (id : List ℕ) → whole 0 0 id (branch id 0) ≡ with_child (bits id) Blank
begun_counters id = branch_counters 0 0 id

-- ---- an identifier is added

by_prefix : (P : Tree → Type 0) (decided : ℕ) (leader id : List ℕ) (t : Tree) → (AgreeFrom 0 decided leader id → P (grown decided id t))
    → ((at : ℕ) → IsParting leader id 0 decided at → P t) → P (added decided leader id t)
by_prefix P decided leader id t f g =
    let e : decided - 0 ≡ decided = omega arith in
    by_option (differs_at leader id 0 decided)
    (λ none. f (agrees leader id 0 decided (omega arith) (ap (differs_at leader id 0) e ∙ none)))
    (λ at some. g at (parts leader id 0 decided at (omega arith) (ap (differs_at leader id 0) e ∙ some)))
  where
    by_option : (o : Option ℕ) → (o ≡ None → P (grown decided id t)) → ((at : ℕ) → o ≡ Some at → P t) → P (or_parted o (grown decided id t) (λ at. t))
    by_option None f g = f refl
    by_option (Some at) f g = g at refl

pub added_counters : (ids : List (List ℕ)) (polls decided : ℕ) (leader id : List ℕ) (t : Tree) → IsWhole ids polls decided leader t
    → whole polls decided leader (added decided leader id t) ≡ with_child (bits id) (whole polls decided leader t)
added_counters ids polls decided leader id t h =
    let small = placed_within decided t h.placed in
    by_prefix (λ s. strand (between leader 0 decided) Decided (counters polls decided s) ≡ with_child (bits id) (whole polls decided leader t)) decided leader id t
    (λ agree. ap (strand (between leader 0 decided) Decided) (grown_counters polls decided id t h.placed)
    ∙ sym (grown_strand id leader 0 decided Decided (counters polls decided t) (omega arith) small agree own_side))
    (λ at part. sym (excluded_prefix id leader decided at (counters polls decided t) small part))

apart : (x y : Bool) → x ≡ y → y ≡ not x → ⊥
apart true true e f = cc
apart true false e f = cc
apart false true e f = cc
apart false false e f = cc

pub whole_added : (ids : List (List ℕ)) (polls decided : ℕ) (leader id : List ℕ) (t : Tree) → IsWhole ids polls decided leader t → length ids < 2 ^ 48
    → IsWhole (ids ++ id ∷ []) polls decided leader (added decided leader id t)
whole_added ids polls decided leader id t h room =
    let more : length (ids ++ id ∷ []) ≡ length ids + 1 = length-append ids (id ∷ []) in
    by_prefix (IsWhole (ids ++ id ∷ []) polls decided leader) decided leader id t
    (λ agree. record {
      placed = placed_grown decided id t h.placed;
      stamped = stamped_grown polls decided id t h.placed h.stamped;
      undecided = open_grown decided id t h.placed h.undecided;
      ordered = subst IsOrdered (sym (grown_counters polls decided id t h.placed)) (ordered_grown (drop decided (bits id)) (counters polls decided t) h.ordered);
      sorted = (
        λ x leaf. elim (leaf_grown decided id t x h.placed leaf) [ inl old ↦ h.sorted.0 x old | inr new ↦ subst (AgreeFrom 0 decided leader) new agree ],
        sorted_grown decided id t h.placed h.sorted.1,
      );
      given = λ x leaf. elim (leaf_grown decided id t x h.placed leaf) [
        | inl old ↦ Contains-append_left ids (id ∷ []) x (h.given x old)
        | inr new ↦ subst (Contains (ids ++ id ∷ [])) new (Contains-push ids id)
      ];
      known = λ x given agrees. elim (Contains-push_cases ids id x given) [
        | inl old ↦ leads_still decided id t x h.placed (h.known x old agrees)
        | inr new ↦ subst (Leads (outline decided (grown decided id t))) new (leads_added decided id t h.placed)
      ];
      few = let few = h.few in let fewer = size_grown decided id t h.placed in omega arith;
      fits = omega arith;
    })
    (λ at part. record {
      placed = h.placed;
      stamped = h.stamped;
      undecided = h.undecided;
      ordered = h.ordered;
      sorted = h.sorted;
      given = λ x leaf. Contains-append_left ids (id ∷ []) x (h.given x leaf);
      known = λ x given agrees. elim (Contains-push_cases ids id x given) [
        | inl old ↦ h.known x old agrees
        | inr new ↦ let agree = subst (AgreeFrom 0 decided leader) (sym new) agrees in absurd (apart (bit leader at) (bit id at) (agree at (omega arith) part.high) part.differ)
      ];
      few = let few = h.few in omega arith;
      fits = omega arith;
    })

pub few_added : (decided : ℕ) (leader id : List ℕ) (t : Tree) → IsPlaced decided t → nodes_of (added decided leader id t) ≤ nodes_of t + 3
few_added decided leader id t h =
    by_prefix (λ s. nodes_of s ≤ nodes_of t + 3) decided leader id t (λ agree. let fewer = size_grown decided id t h in omega arith) (λ at part. omega arith)

-- ---- the number of nodes

-- it is that of the outline
abbrev nodes_in : Outline → ℕ
nodes_in (Leaf id) = 0
nodes_in (Straight id from to below) = nodes_in below + 1
nodes_in (Split at z o) = nodes_in z + nodes_in o + 1

size_is : (from : ℕ) (t : Tree) → size t ≡ nodes_in (outline from t)
size_is from (Tip id) = refl
size_is from (Line run below) = ap (λ n. n + 1) (size_is run.to below)
size_is from (Two fork z o) = let zeros = size_is (from + 1) z in let ones = size_is (from + 1) o in λ i. zeros i + ones i + 1

-- so trees of one outline have the same
pub same_size : (from : ℕ) (old new : Tree) → outline from new ≡ outline from old → size new ≡ size old
same_size from old new e = size_is from new ∙ ap nodes_in e ∙ sym (size_is from old)

pub few_nodes : (ids : List (List ℕ)) (polls decided : ℕ) (leader : List ℕ) (t : Tree) (c : Compressed) → IsWhole ids polls decided leader t → c.ids ≡ ids → c.nodes ≡ nodes_of t → HasFewNodes c
few_nodes ids polls decided leader t c h same nodes =
    let few = h.few in
    let long = ap length same in
    record { least = omega arith; most = omega arith }

-- ---- stamps that begin anew

pub whole_restamped : (ids : List (List ℕ)) (polls now decided : ℕ) (leader : List ℕ) (old new : Tree) → IsWhole ids polls decided leader old → IsRestamped polls now old new
    → IsWhole ids now decided leader new
whole_restamped ids polls now decided leader old new h r = record {
  placed = r.placed decided h.placed;
  stamped = r.stamped h.stamped;
  undecided = r.undecided h.undecided;
  ordered = subst IsOrdered (sym (r.counters decided)) h.ordered;
  sorted = subst (λ s. ((x : List ℕ) → IsLeaf s x → AgreeFrom 0 decided leader x) × IsSorted s) (sym (r.outline decided)) h.sorted;
  given = λ x leaf. h.given x (subst (λ s. IsLeaf s x) (r.outline decided) leaf);
  known = λ x given agree. subst (λ s. Leads s x) (sym (r.outline decided)) (h.known x given agree);
  few = let before = h.few in let same = same_size decided old new (r.outline decided) in omega arith;
  fits = h.fits;
}

-- ---- a poll without votes

pub whole_failed : (ids : List (List ℕ)) (p : Parameters) (polls decided : ℕ) (leader : List ℕ) (t : Tree) → AreGood p → IsWhole ids polls decided leader t
    → IsWhole ids (polls + 1) decided leader t
whole_failed ids p polls decided leader t good h = record {
  placed = h.placed;
  stamped = stamped_later polls t h.stamped;
  undecided = h.undecided;
  ordered = subst IsOrdered (sym (later p polls decided t good h.stamped)) (ordered_polled p (λ front. 0) (counters polls decided t) good (no_counts p.k) h.ordered);
  sorted = h.sorted;
  given = h.given;
  known = h.known;
  few = h.few;
  fits = h.fits;
}

pub failed_counters : (p : Parameters) (polls decided : ℕ) (leader : List ℕ) (t : Tree) → AreGood p → IsStamped polls t
    → whole (polls + 1) decided leader t ≡ failed p (whole polls decided leader t)
failed_counters p polls decided leader t good stamped =
    ap (strand (between leader 0 decided) Decided) (later p polls decided t good stamped)
    ∙ sym (failed_strand p (between leader 0 decided) Decided (counters polls decided t) good own_side)

-- where few votes have the prefix, a poll is one without votes
pub few_whole : (p : Parameters) (polls decided : ℕ) (leader : List ℕ) (t : Tree) (votes : List Vote) (count : ℕ) → AreGood p → count < p.alpha_preference
    → ((front : List Bool) → votes_from 0 votes (between leader 0 decided ++ front) ≤ count)
    → all_polled p (votes_on votes) (whole polls decided leader t) ≡ failed p (whole polls decided leader t)
few_whole p polls decided leader t votes count good few h =
    let front = between leader 0 decided in
    polled_prefix p (votes_on votes) front (counters polls decided t)
    ∙ ap (strand front Decided)
    (few_fail p (λ more. votes_on votes (front ++ more)) (counters polls decided t)
    (λ more. let least : votes_on votes (front ++ more) ≤ count = h more in omega (arith, least, few)))
    ∙ sym (failed_strand p front Decided (counters polls decided t) good own_side)

-- ---- a poll

-- the votes that have the prefix go down the tree
pub all_lead : (ids : List (List ℕ)) (polls decided : ℕ) (leader : List ℕ) (t : Tree) (votes rest : List Vote) → IsWhole ids polls decided leader t
    → All (λ v. Contains ids v.id) votes → IsNarrowed leader decided votes rest → All (λ v. Leads (outline decided t) v.id) rest
all_lead ids polls decided leader t votes rest h given n k d q =
    let v : Vote = get_or rest k d in
    h.known v.id (All-contains (λ (v : Vote). Contains ids v.id) votes v given (n.among k d q)) (n.have k d q)

-- two identifiers that a third agrees with agree
agree_by : (a b c : List ℕ) (from to : ℕ) → AgreeFrom from to a b → AgreeFrom from to a c → AgreeFrom from to b c
agree_by a b c from to p q k low high = sym (p k low high) ∙ q k low high

agree_back : (a b : List ℕ) (from to : ℕ) → AgreeFrom from to a b → AgreeFrom from to b a
agree_back a b from to p k low high = sym (p k low high)

agree_both : (a b : List ℕ) (at to : ℕ) → AgreeFrom 0 at a b → AgreeFrom at to a b → AgreeFrom 0 to a b
agree_both a b at to low high k p q = elim (cases_lt k at) [ inl less ↦ low k p less | inr more ↦ high k more q ]

-- what is known of a poll on its way: before it, with its stamps made ready, and after its visits
pub record IsTaken (ids : List (List ℕ)) (p : Parameters) (polls before decided : ℕ) (leader : List ℕ) (votes rest : List Vote) (t t1 t2 : Tree) : Type 0 where
  pub good : AreGood p
  pub was : IsWhole ids polls decided leader t
  pub restamped : IsRestamped polls before t t1
  pub narrowed : IsNarrowed leader decided votes rest
  pub polled : IsPolled p rest before decided t1 t2
  pub most : total_count votes ≤ p.k

-- each identifier that stands in the tree has the prefix
sorted_on : (ids : List (List ℕ)) (p : Parameters) (polls before decided : ℕ) (leader : List ℕ) (votes rest : List Vote) (t t1 t2 : Tree)
    → IsTaken ids p polls before decided leader votes rest t t1 t2
    → ((x : List ℕ) → IsLeaf (outline decided t2) x → AgreeFrom 0 decided leader x) × IsSorted (outline decided t2)
sorted_on ids p polls before decided leader votes rest t t1 t2 h =
    subst (λ s. ((x : List ℕ) → IsLeaf s x → AgreeFrom 0 decided leader x) × IsSorted s) (sym (h.polled.outline ∙ h.restamped.outline decided)) h.was.sorted

-- what is left of the tree
pub left_over : (ids : List (List ℕ)) (p : Parameters) (polls before decided : ℕ) (leader : List ℕ) (votes rest : List Vote) (t t1 t2 : Tree)
    → IsTaken ids p polls before decided leader votes rest t t1 t2 → IsPeeled decided t2 (peeled decided t2).0 (peeled decided t2).1
left_over ids p polls before decided leader votes rest t t1 t2 h =
    is_peeled decided t2 h.polled.placed (sorted_on ids p polls before decided leader votes rest t t1 t2 h).1

by_leader : (to : ℕ) (leader first x : List ℕ) (b : Bool) → (b ≡ true → AgreeFrom 0 to leader x) → AgreeFrom 0 to first x → AgreeFrom 0 to (if b then leader else first) x
by_leader to leader first x true f g = f refl
by_leader to leader first x false f g = g

-- the leader after a poll has the bits of all that stand in what is left
leader_agrees : (decided : ℕ) (leader : List ℕ) (t : Tree) (to : ℕ) (rest : Tree) → ((x : List ℕ) → IsLeaf (outline decided t) x → AgreeFrom 0 decided leader x)
    → IsPeeled decided t to rest → (x : List ℕ) → IsLeaf (outline to rest) x → AgreeFrom 0 to (next_leader leader decided to rest) x
leader_agrees decided leader t to rest sorted h x leaf =
    let first = first_leaf rest in
    let stands = first_stands to rest in
    by_leader to leader first x (to == decided)
    (λ same. subst (λ k. AgreeFrom 0 k leader x) (sym (eqb-true to decided same)) (sorted x (h.leaf x leaf)))
    (agree_both first x decided to (agree_by leader first x 0 decided (sorted first (h.leaf first stands)) (sorted x (h.leaf x leaf))) (h.agree first x stands leaf))

-- the counters are those before anything was taken off
pub peeled_counters : (now decided : ℕ) (leader : List ℕ) (t : Tree) (to : ℕ) (rest : Tree) → ((x : List ℕ) → IsLeaf (outline decided t) x → AgreeFrom 0 decided leader x)
    → IsPeeled decided t to rest → whole now to (next_leader leader decided to rest) rest ≡ whole now decided leader t
peeled_counters now decided leader t to rest sorted h =
    let first = first_leaf rest in
    let stands = first_stands to rest in
    let later = h.later in
    let next = next_leader leader decided to rest in
    ap (λ l. strand l Decided (counters now to rest)) (between_same next first 0 to (leader_agrees decided leader t to rest sorted h first stands) ∙ between_split first 0 decided to (omega arith) later)
    ∙ strand-append (between first 0 decided) (between first decided to) Decided (counters now to rest)
    ∙ ap (λ l. strand l Decided (strand (between first decided to) Decided (counters now to rest))) (between_same first leader 0 decided (agree_back leader first 0 decided (sorted first (h.leaf first stands))))
    ∙ ap (strand (between leader 0 decided) Decided) (sym (h.counters now first stands))

-- the counters after a poll
pub polled_counters : (ids : List (List ℕ)) (p : Parameters) (polls before decided : ℕ) (leader : List ℕ) (votes rest : List Vote) (t t1 t2 : Tree)
    → IsTaken ids p polls before decided leader votes rest t t1 t2
    → whole (before + 1) (peeled decided t2).0 (next_leader leader decided (peeled decided t2).0 (peeled decided t2).1) (peeled decided t2).1
    ≡ all_polled p (votes_on votes) (whole polls decided leader t)
polled_counters ids p polls before decided leader votes rest t t1 t2 h =
    let front = between leader 0 decided in
    let left = left_over ids p polls before decided leader votes rest t t1 t2 h in
    peeled_counters (before + 1) decided leader t2 (peeled decided t2).0 (peeled decided t2).1 (sorted_on ids p polls before decided leader votes rest t t1 t2 h).0 left
    ∙ ap (strand front Decided) (
    h.polled.counters
    ∙ ap (all_polled p (votes_from decided rest)) (h.restamped.counters decided)
    ∙ (λ i. all_polled p (λ more. h.narrowed.counts more i) (counters polls decided t))
    )
    ∙ sym (polled_prefix p (votes_on votes) front (counters polls decided t))

-- and all stays true of the tree
pub whole_polled : (ids : List (List ℕ)) (p : Parameters) (polls before decided : ℕ) (leader : List ℕ) (votes rest : List Vote) (t t1 t2 : Tree)
    → IsTaken ids p polls before decided leader votes rest t t1 t2
    → IsWhole ids (before + 1) (peeled decided t2).0 (next_leader leader decided (peeled decided t2).0 (peeled decided t2).1) (peeled decided t2).1
whole_polled ids p polls before decided leader votes rest t t1 t2 h =
    let to = (peeled decided t2).0 in
    let left = (peeled decided t2).1 in
    let next = next_leader leader decided to left in
    let over = left_over ids p polls before decided leader votes rest t t1 t2 h in
    let sorted = (sorted_on ids p polls before decided leader votes rest t t1 t2 h).0 in
    let outlines = h.polled.outline ∙ h.restamped.outline decided in
    let first = first_leaf left in
    let stands = first_stands to left in
    let agree_first = leader_agrees decided leader t2 to left sorted over first stands in
    let later = over.later in
    let counts = are_counts p.k decided rest (omega (arith, fewer_votes leader decided votes rest h.narrowed, h.most)) in
    let before_ordered : IsOrdered (counters before decided t1) = subst IsOrdered (sym (h.restamped.counters decided)) h.was.ordered in
    let all_ordered : IsOrdered (counters (before + 1) decided t2) =
    subst IsOrdered (sym h.polled.counters) (ordered_polled p (votes_from decided rest) (counters before decided t1) h.good counts before_ordered)
    in
    let ordered : IsOrdered (counters (before + 1) to left) =
    ordered_behind (between first decided to) Decided (counters (before + 1) to left) (subst IsOrdered (over.counters (before + 1) first stands) all_ordered)
    in
    record {
      placed = over.placed;
      stamped = over.stamped (before + 1) h.polled.stamped;
      undecided = open_all (before + 1) to left over.placed ordered over.first;
      ordered = ordered;
      sorted = (leader_agrees decided leader t2 to left sorted over, over.sorted);
      given = λ x leaf. h.was.given x (subst (λ s. IsLeaf s x) outlines (over.leaf x leaf));
      known = λ x given agree.
          let by_first : AgreeFrom 0 to first x = agree_by next first x 0 to agree_first agree in
          let leads = h.was.known x given (λ k p q. sorted first (over.leaf first stands) k p q ∙ by_first k p (omega arith)) in
          over.leads first x stands (λ k p q. by_first k (omega arith) q) (subst (λ s. Leads s x) (sym outlines) leads);
      few = let few = over.few in let was = h.was.few in let same = same_size decided t t2 outlines in omega arith;
      fits = h.was.fits;
    }

-- the tree has no more nodes
pub fewer_nodes : (ids : List (List ℕ)) (p : Parameters) (polls before decided : ℕ) (leader : List ℕ) (votes rest : List Vote) (t t1 t2 : Tree)
    → IsTaken ids p polls before decided leader votes rest t t1 t2 → nodes_of (peeled decided t2).1 ≤ nodes_of t
fewer_nodes ids p polls before decided leader votes rest t t1 t2 h =
    let over = left_over ids p polls before decided leader votes rest t t1 t2 h in
    let few = over.few in
    let same = same_size decided t t2 (h.polled.outline ∙ h.restamped.outline decided) in
    omega arith
