-- Lemmas on the counters of an identifier that stands alone.
use Rattle.std.proofs.Common.{◌≡◌, inl, inr, ℕ, ◌≤◌, ◌==◌, Bool, true, false, List, [], ◌∷◌, is_some, All, Contains, if◌then◌else◌, refl, sym, ap, ◌∙◌, subst, arith}
use Rattle.std.specs.Prelude.{⊤}
use Rattle.std.proofs.lemmas.List.Elements.{Contains-push, Contains-push_cases}
use Rattle.snow_base.specs.declared.block.Vote.{Vote}
use Rattle.snow_base.specs.Model.Identifier.{bits, AgreeFrom}
use Rattle.snow_base.specs.Model.Votes.{total_count}
use Rattle.snow_flake.specs.Model.Parameters.{Parameters, AreGood}
use Rattle.snow_flake.specs.Model.Counter.{stepped}
use Rattle.snow_flake.specs.Model.Rule.{Answer}
use Rattle.snow_flake.specs.Kept.Instance.{Instance, Single, at_bit, counter_of, on_side, polled as instance_polled, failed as instance_failed}
use Rattle.snow_board.specs.Model.Conflict.{all_polled, chosen, decided_path, votes_on}
use Rattle.snow_board.specs.Laws.FailingLaw.{failed}
use Rattle.snow_board.proofs.Cases.{split_on}
use Rattle.snow_trie.specs.declared.run.Run.{Run}
use Rattle.snow_trie.specs.Kept.Alone.{run_of, last}
use Rattle.snow_trie.specs.Kept.Outline.{IsSorted, outline}
use Rattle.snow_trie.specs.Kept.Peeling.{peeled}
use Rattle.snow_trie.specs.Kept.Shape.{IsPlaced, IsOrdered}
use Rattle.snow_trie.specs.Kept.Stamped.{between, strand, counters, whole}
use Rattle.snow_trie.specs.Kept.Tree.{Tree, Tip}
use Rattle.snow_trie.specs.Kept.Whole.{next_leader, nodes_of, IsWhole}
use Rattle.snow_trie.proofs.Chosen.{chosen_tree, final_whole}
use Rattle.snow_trie.proofs.Ordered.{are_counts, no_counts, ordered_polled}
use Rattle.snow_trie.proofs.Peeled.{is_peeled}
use Rattle.snow_trie.proofs.Stamps.{later}
use Rattle.snow_trie.proofs.Visited.{polled_last}
use Rattle.snow_trie.proofs.Wholes.{peeled_counters}

-- the bit step of an instance is that of its counter
instance_stepped : (p : Parameters) (i : Instance) (x y : ℕ) → counter_of (instance_polled p i x y) ≡ stepped p (counter_of i) x y
instance_stepped p i x y = split_on i.final (λ t. rw t refl) (λ t. rw t refl)

-- one identifier is that one
only : (P : List ℕ → Type 0) (id x : List ℕ) → Contains (id ∷ []) x → P id → P x
only P id x given own = elim (Contains-push_cases [] id x given) [
  | inl none ↦ absurd (omega (arith, none.1))
  | inr is ↦ subst P is own
]

-- the tree covers all bits, and its identifier stands where its bits lead
last_placed : (id : List ℕ) (c : Single) → IsPlaced 0 (last (run_of id c))
last_placed id c = (omega arith, omega arith, refl)

last_sorted : (id : List ℕ) (c : Single) → IsSorted (outline 0 (last (run_of id c)))
last_sorted id c = (λ x leaf. subst (AgreeFrom 0 256 id) leaf (λ k p q. refl), tt)

-- ---- a poll

pub alone_polled : (p : Parameters) (votes : List Vote) (n : ℕ) (id : List ℕ) (old new : Single) → All (λ v. Contains (id ∷ []) v.id) votes → n ≡ total_count votes
    → ((bit : Bool) → at_bit new bit ≡ instance_polled p (at_bit old bit) (on_side false n bit) (on_side true n bit))
    → counters 0 0 (last (run_of id new)) ≡ all_polled p (votes_on votes) (counters 0 0 (last (run_of id old)))
alone_polled p votes n id old new given count step =
    let after : Run = record { id = id; to = 256; counter = new; seen = 1 } in
    (polled_last p votes n 0 0 (run_of id old) after (omega arith) refl
    (λ k d h. only (AgreeFrom 0 256 id) id _ (given k d h) (λ k p q. refl)) count
    (λ b. ap counter_of (step b) ∙ instance_stepped p (at_bit old b) (on_side false n b) (on_side true n b)) refl refl refl).counters

pub ordered_alone : (p : Parameters) (votes : List Vote) (id : List ℕ) (old new : Single) → AreGood p → total_count votes ≤ p.k → IsOrdered (counters 0 0 (last (run_of id old)))
    → counters 0 0 (last (run_of id new)) ≡ all_polled p (votes_on votes) (counters 0 0 (last (run_of id old))) → IsOrdered (counters 0 0 (last (run_of id new)))
ordered_alone p votes id old new good few ordered is =
    subst IsOrdered (sym is) (ordered_polled p (votes_on votes) (counters 0 0 (last (run_of id old))) good (are_counts p.k 0 votes few) ordered)

-- ---- a poll without votes

pub alone_failed : (p : Parameters) (id : List ℕ) (old new : Single) → AreGood p → ((bit : Bool) → at_bit new bit ≡ instance_failed (at_bit old bit))
    → counters 0 0 (last (run_of id new)) ≡ failed p (counters 0 0 (last (run_of id old)))
alone_failed p id old new good step =
    (λ i. strand (between id 0 256) (λ b. counter_of (step b i)) (counters 0 256 (Tip id))) ∙ later p 0 0 (last (run_of id old)) good (omega arith, tt)

pub ordered_failed : (p : Parameters) (id : List ℕ) (old new : Single) → AreGood p → IsOrdered (counters 0 0 (last (run_of id old)))
    → counters 0 0 (last (run_of id new)) ≡ failed p (counters 0 0 (last (run_of id old))) → IsOrdered (counters 0 0 (last (run_of id new)))
ordered_failed p id old new good ordered is =
    subst IsOrdered (sym is) (ordered_polled p (λ front. 0) (counters 0 0 (last (run_of id old))) good (no_counts p.k) ordered)

-- ---- where it leads

pub chosen_last : (answer : Answer) (id : List ℕ) (c : Single) → ((b : Bool) → answer b b ≡ b) → chosen answer (counters 0 0 (last (run_of id c))) ≡ bits id
chosen_last answer id c law = (chosen_tree answer 0 0 (last (run_of id c)) law (last_placed id c) (last_sorted id c)).bits

-- ---- as a tree to which others come

-- what is left of it: the identifier, where it is decided
abbrev left : Bool → List ℕ → Single → ℕ × Tree
left b id c = if b then (256, Tip id) else (0, last (run_of id c))

whole_by : (id : List ℕ) (c : Single) (b : Bool) → c.final ≡ b → IsOrdered (counters 0 0 (last (run_of id c)))
    → IsWhole (id ∷ []) 0 (left b id c).0 (next_leader id 0 (left b id c).0 (left b id c).1) (left b id c).1
whole_by id c true is ordered = record {
  placed = refl;
  stamped = tt;
  undecided = tt;
  ordered = tt;
  sorted = (λ x leaf. subst (AgreeFrom 0 256 id) leaf (λ k p q. refl), tt);
  given = λ x leaf. subst (Contains (id ∷ [])) leaf (Contains-push [] id);
  known = λ x given agree. tt;
  few = omega arith;
  fits = omega arith;
}
whole_by id c false is ordered = record {
  placed = last_placed id c;
  stamped = (omega arith, tt);
  undecided = (is, tt);
  ordered = ordered;
  sorted = (λ x leaf k p q. absurd (omega arith), last_sorted id c);
  given = λ x leaf. subst (Contains (id ∷ [])) leaf (Contains-push [] id);
  known = λ x given agree. only (λ x. AgreeFrom 0 256 id x × ⊤) id x given (λ k p q. refl, tt);
  few = omega arith;
  fits = omega arith;
}

pub whole_alone : (id : List ℕ) (c : Single) → IsOrdered (counters 0 0 (last (run_of id c)))
    → IsWhole (id ∷ []) 0 (peeled 0 (last (run_of id c))).0 (next_leader id 0 (peeled 0 (last (run_of id c))).0 (peeled 0 (last (run_of id c))).1) (peeled 0 (last (run_of id c))).1
whole_alone id c ordered = whole_by id c c.final refl ordered

pub counters_alone : (id : List ℕ) (c : Single)
    → whole 0 (peeled 0 (last (run_of id c))).0 (next_leader id 0 (peeled 0 (last (run_of id c))).0 (peeled 0 (last (run_of id c))).1) (peeled 0 (last (run_of id c))).1 ≡ counters 0 0 (last (run_of id c))
counters_alone id c =
    let t = last (run_of id c) in
    peeled_counters 0 0 id t (peeled 0 t).0 (peeled 0 t).1 (λ x leaf k p q. absurd (omega arith)) (is_peeled 0 t (last_placed id c) (last_sorted id c))

-- it is one node
pub nodes_alone : (id : List ℕ) (c : Single) → nodes_of (peeled 0 (last (run_of id c))).1 ≡ 1
nodes_alone id c = by c.final
  where
    by : (b : Bool) → nodes_of (left b id c).1 ≡ 1
    by true = refl
    by false = refl

-- decided counters alone lead to it where its own is final
pub final_alone : (id : List ℕ) (c : Single) → IsOrdered (counters 0 0 (last (run_of id c))) → c.final ≡ is_some (decided_path (counters 0 0 (last (run_of id c))))
final_alone id c ordered =
    let t = last (run_of id c) in
    sym (by c.final)
    ∙ final_whole (id ∷ []) 0 (peeled 0 t).0 (next_leader id 0 (peeled 0 t).0 (peeled 0 t).1) (peeled 0 t).1 (whole_alone id c ordered)
    ∙ ap (λ l. is_some (decided_path l)) (counters_alone id c)
  where
    by : (b : Bool) → ((left b id c).0 == 256) ≡ b
    by true = refl
    by false = refl
