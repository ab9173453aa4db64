-- Lemmas on a tree whose decided first nodes are taken off.
use Rattle.std.proofs.Common.{◌≡◌, inl, inr, ℕ, ◌+◌, ◌<◌, ◌≤◌, ◌==◌, Bool, true, false, List, if◌then◌else◌, refl, sym, ap, ◌∙◌, subst, arith}
use Rattle.std.proofs.lemmas.Bool.{cases_lt}
use Rattle.snow_base.specs.Model.Identifier.{bit, AgreeFrom}
use Rattle.snow_flake.specs.Model.Counter.{Decided}
use Rattle.snow_flake.specs.Model.Rule.{Answer, answer_of}
use Rattle.snow_flake.specs.Kept.Instance.{Instance, at_bit, counter_of}
use Rattle.snow_board.specs.Model.Conflict.{Counters}
use Rattle.snow_board.proofs.Cases.{split_on}
use Rattle.snow_trie.specs.declared.run.Run.{Run}
use Rattle.snow_trie.specs.declared.fork.Fork.{Fork}
use Rattle.snow_trie.specs.Kept.Counted.{standing_at, run_counter}
use Rattle.snow_trie.specs.Kept.Tree.{Tree, Tip, Line, Two}
use Rattle.snow_trie.specs.Kept.Stamped.{between, linked, strand, pruned, counters}
use Rattle.snow_trie.specs.Kept.Outline.{outline, size, Leads, IsLeaf, IsSorted}
use Rattle.snow_trie.specs.Kept.Shape.{IsPlaced, IsStamped, IsOpenFirst}
use Rattle.snow_trie.specs.Kept.Peeling.{peeled, preferred, first_leaf}
use Rattle.snow_trie.proofs.Strands.{between_split, between_none, between_first, between_same, strand-append, strand_same}

-- what is left of a tree
pub record IsPeeled (from : ℕ) (t : Tree) (to : ℕ) (rest : Tree) : Type 0 where
  pub later : from ≤ to
  pub placed : IsPlaced to rest
  pub stamped : (now : ℕ) → IsStamped now t → IsStamped now rest
  pub first : IsOpenFirst rest
  pub few : size rest ≤ size t
  pub leaf : (x : List ℕ) → IsLeaf (outline to rest) x → IsLeaf (outline from t) x
  pub sorted : IsSorted (outline to rest)
  pub agree : (x y : List ℕ) → IsLeaf (outline to rest) x → IsLeaf (outline to rest) y → AgreeFrom from to x y
  pub leads : (x y : List ℕ) → IsLeaf (outline to rest) x → AgreeFrom from to x y → Leads (outline from t) y → Leads (outline to rest) y
  pub counters : (now : ℕ) (x : List ℕ) → IsLeaf (outline to rest) x → counters now from t ≡ strand (between x from to) Decided (counters now to rest)
  pub preferred : (answer : Answer) → preferred answer rest ≡ preferred answer t

-- where nothing is taken off
stops : (from : ℕ) (t : Tree) → IsPlaced from t → IsSorted (outline from t) → IsOpenFirst t → IsPeeled from t from t
stops from t placed sorted first = record {
  later = omega arith;
  placed = placed;
  stamped = λ now h. h;
  first = first;
  few = omega arith;
  leaf = λ x h. h;
  sorted = sorted;
  agree = λ x y p q k low high. absurd (omega arith);
  leads = λ x y leaf agree leads. leads;
  counters = λ now x leaf. ap (λ l. strand l Decided (counters now from t)) (sym (between_none x from from (omega arith)));
  preferred = λ answer. refl;
}

-- two that agree up to a place and from there on agree
agree_both : (x y : List ℕ) (from at to : ℕ) → AgreeFrom from at x y → AgreeFrom at to x y → AgreeFrom from to x y
agree_both x y from at to low high k p q = elim (cases_lt k at) [ inl less ↦ low k p less | inr more ↦ high k more q ]

-- a final instance is decided with its flake
final_counter : (now seen : ℕ) (i : Instance) → i.final ≡ true → counter_of (standing_at now seen i) ≡ Decided i.standing.flake
final_counter now seen i h = split_on (seen == now) (λ t. rw (t, h) refl) (λ t. rw (t, h) refl)

-- a decided unary node is taken off
past_line : (from : ℕ) (run : Run) (below : Tree) (to : ℕ) (rest : Tree) → from < run.to → run.to ≤ 256 → IsSorted (outline from (Line run below))
    → run.counter.final ≡ true → IsPeeled run.to below to rest → IsPeeled from (Line run below) to rest
past_line from run below to rest less small sorted final h =
    let later = h.later in
    let agrees : (x : List ℕ) → IsLeaf (outline to rest) x → AgreeFrom from run.to run.id x = λ x leaf. sorted.0 x (h.leaf x leaf) in
    record {
      later = omega arith;
      placed = h.placed;
      stamped = λ now s. h.stamped now s.1;
      first = h.first;
      few = let few = h.few in omega arith;
      leaf = h.leaf;
      sorted = h.sorted;
      agree = λ x y p q. agree_both x y from run.to to (λ k low high. sym (agrees x p k low high) ∙ agrees y q k low high) (h.agree x y p q);
      leads = λ x y leaf agree leads. h.leads x y leaf (λ k low high. agree k (omega arith) high) leads.1;
      counters = λ now x leaf.
          (λ i. strand (between_same run.id x from run.to (agrees x leaf) i) (run_counter now run) (h.counters now x leaf i))
          ∙ strand_same (between x from run.to) (run_counter now run) Decided (strand (between x run.to to) Decided (counters now to rest))
          (λ b. final_counter now run.seen (at_bit run.counter b) final)
          ∙ sym (
          ap (λ l. strand l Decided (counters now to rest)) (between_split x from run.to to (omega arith) later)
          ∙ strand-append (between x from run.to) (between x run.to to) Decided (counters now to rest)
          );
      preferred = h.preferred;
    }

-- a decided counter leaves one side
one_side : (b : Bool) (z o : Counters) → pruned (Decided b) z o ≡ linked b (Decided b) (if b then o else z)
one_side true z o = refl
one_side false z o = refl

-- what one of two trees leads to
side_of : (answer : Answer) (z o : Tree) (b : Bool) → (if b then preferred answer o else preferred answer z) ≡ preferred answer (if b then o else z)
side_of answer z o true = refl
side_of answer z o false = refl

-- a decided binary node leads to the side of its flake
decided_side : (answer : Answer) (fork : Fork) (z o : Tree) (b : Bool) → fork.counter.final ≡ true → fork.counter.standing.flake ≡ b
    → preferred answer (Two fork z o) ≡ preferred answer (if b then o else z)
decided_side answer fork z o b final flake =
    ap (λ c. if answer_of answer c then preferred answer o else preferred answer z) (final_counter 0 fork.seen fork.counter final ∙ ap Decided flake) ∙ side_of answer z o b

-- a decided binary node is taken off, with the side that lost
past_fork : (from : ℕ) (fork : Fork) (z o : Tree) (to : ℕ) (rest : Tree) → from < 256 → IsSorted (outline from (Two fork z o))
    → fork.counter.final ≡ true → (b : Bool) → fork.counter.standing.flake ≡ b → (size (if b then o else z) ≤ size z + size o)
    → ((now : ℕ) → IsStamped now (Two fork z o) → IsStamped now (if b then o else z))
    → ((x : List ℕ) → IsLeaf (outline (from + 1) (if b then o else z)) x → IsLeaf (outline from (Two fork z o)) x × (bit x from ≡ b))
    → ((y : List ℕ) → bit y from ≡ b → Leads (outline from (Two fork z o)) y → Leads (outline (from + 1) (if b then o else z)) y)
    → ((now : ℕ) → (if b then counters now (from + 1) o else counters now (from + 1) z) ≡ counters now (from + 1) (if b then o else z))
    → IsPeeled (from + 1) (if b then o else z) to rest → IsPeeled from (Two fork z o) to rest
past_fork from fork z o to rest small sorted final b flake fewer stamps leaves leading chosen h =
    let later = h.later in
    let has : (x : List ℕ) → IsLeaf (outline to rest) x → bit x from ≡ b = λ x leaf. (leaves x (h.leaf x leaf)).1 in
    let one : (x y : List ℕ) → bit x from ≡ bit y from → AgreeFrom from (from + 1) x y =
    λ x y e k low high. let is : k ≡ from = omega arith in subst (λ j. bit x j ≡ bit y j) (sym is) e
    in
    record {
      later = omega arith;
      placed = h.placed;
      stamped = λ now s. h.stamped now (stamps now s);
      first = h.first;
      few = let few = h.few in omega arith;
      leaf = λ x leaf. (leaves x (h.leaf x leaf)).0;
      sorted = h.sorted;
      agree = λ x y p q. agree_both x y from (from + 1) to (one x y (has x p ∙ sym (has y q))) (h.agree x y p q);
      leads = λ x y leaf agree leads.
          h.leads x y leaf (λ k low high. agree k (omega arith) high) (leading y (sym (agree from (omega arith) (omega arith)) ∙ has x leaf) leads);
      counters = λ now x leaf.
          ap (λ c. pruned c (counters now (from + 1) z) (counters now (from + 1) o)) (final_counter now fork.seen fork.counter final ∙ ap Decided flake)
          ∙ one_side b (counters now (from + 1) z) (counters now (from + 1) o)
          ∙ ap (linked b (Decided b)) (chosen now ∙ h.counters now x leaf)
          ∙ ap (λ d. linked d (Decided d) (strand (between x (from + 1) to) Decided (counters now to rest))) (sym (has x leaf))
          ∙ ap (λ l. strand l Decided (counters now to rest)) (sym (between_first x from to (omega arith)));
      preferred = λ answer. h.preferred answer ∙ sym (decided_side answer fork z o b final flake);
    }

-- what is so on both sides of a test
by_test : (P : ℕ × Tree → Type 0) (b : Bool) (x y : ℕ × Tree) → (b ≡ true → P x) → (b ≡ false → P y) → P (if b then x else y)
by_test P true x y f g = f refl
by_test P false x y f g = g refl

-- peeling leaves what it should
pub is_peeled : (from : ℕ) (t : Tree) → IsPlaced from t → IsSorted (outline from t) → IsPeeled from t (peeled from t).0 (peeled from t).1
is_peeled from (Tip id) h s = stops from (Tip id) h s tt
is_peeled from (Line run below) h s =
    by_test (λ r. IsPeeled from (Line run below) r.0 r.1) run.counter.final (peeled run.to below) (from, Line run below)
    (λ e. past_line from run below (peeled run.to below).0 (peeled run.to below).1 h.0 h.1 s e (is_peeled run.to below h.2 s.1))
    (λ e. stops from (Line run below) h s e)
is_peeled from (Two fork z o) h s =
    by_test (λ r. IsPeeled from (Two fork z o) r.0 r.1) fork.counter.final
    (if fork.counter.standing.flake then peeled (from + 1) o else peeled (from + 1) z) (from, Two fork z o)
    (λ e. by_test (λ r. IsPeeled from (Two fork z o) r.0 r.1) fork.counter.standing.flake (peeled (from + 1) o) (peeled (from + 1) z)
    (λ f.
    past_fork from fork z o (peeled (from + 1) o).0 (peeled (from + 1) o).1 h.0 s e true f (omega arith)
    (λ now p. p.2) (λ x leaf. (inr leaf, s.1 x leaf)) (λ y is leads. leads.1 is) (λ now. refl) (is_peeled (from + 1) o h.2 s.3))
    (λ f.
    past_fork from fork z o (peeled (from + 1) z).0 (peeled (from + 1) z).1 h.0 s e false f (omega arith)
    (λ now p. p.1) (λ x leaf. (inl leaf, s.0 x leaf)) (λ y is leads. leads.0 is) (λ now. refl) (is_peeled (from + 1) z h.1 s.2)))
    (λ e. stops from (Two fork z o) h s e)

-- the first identifier stands in the tree
pub first_stands : (from : ℕ) (t : Tree) → IsLeaf (outline from t) (first_leaf t)
first_stands from (Tip id) = refl
first_stands from (Line run below) = first_stands run.to below
first_stands from (Two fork z o) = inl (first_stands (from + 1) z)
