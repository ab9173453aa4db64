-- Lemmas on what a tree answers: whether it is final, and which identifier it prefers.
use Rattle.std.proofs.Common.{◌≡◌, inl, inr, ℕ, zero, suc, ◌+◌, ◌-◌, ◌<◌, ◌==◌, Bool, true, false, List, [], ◌∷◌, ◌++◌, length, drop, slice_index_or, All, Contains, Option, Some, None, is_some, if◌then◌else◌, refl, sym, ap, ◌∙◌, subst, arith}
use Rattle.std.specs.Option.{option_map}
use Rattle.std.proofs.lemmas.Bool.{eq-eqb, ne_eqb, true≢false}
use Rattle.std.proofs.lemmas.List.Elements.{All-cons, All-nil}
use Rattle.snow_base.specs.declared.block.Vote.{Vote}
use Rattle.snow_base.specs.Model.Identifier.{bit, bits}
use Rattle.snow_base.proofs.Bits.{drop-bits}
use Rattle.snow_flake.specs.Model.Counter.{Counter, Decided, Undecided, admits, is_decided}
use Rattle.snow_flake.specs.Model.Rule.{Answer, answer_of}
use Rattle.snow_flake.specs.Kept.Instance.{at_bit}
use Rattle.snow_flake.specs.Model.Parameters.{Parameters, AreGood}
use Rattle.snow_board.specs.Model.Conflict.{Counters, Blank, At, all_polled, chosen, decided_path}
use Rattle.snow_board.specs.Laws.FailingLaw.{failed}
use Rattle.snow_board.proofs.Failing.{fails}
use Rattle.snow_board.proofs.Walking.{drop-bits_end}
use Rattle.snow_trie.specs.declared.fork.Fork.{Fork}
use Rattle.snow_trie.specs.Kept.Counted.{run_counter, fork_counter}
use Rattle.snow_trie.specs.Kept.Tree.{Tree, Tip, Line, Two}
use Rattle.snow_trie.specs.Kept.Stamped.{between, linked, strand, pruned, counters, whole}
use Rattle.snow_trie.specs.Kept.Outline.{outline, IsLeaf, IsSorted}
use Rattle.snow_trie.specs.Kept.Shape.{IsPlaced, IsOpen}
use Rattle.snow_trie.specs.Kept.Peeling.{peeled, preferred}
use Rattle.snow_trie.specs.Kept.Whole.{IsWhole, next_leader}
use Rattle.snow_trie.proofs.Strands.{between_first, between_same, span_drop}
use Rattle.snow_trie.proofs.Stamps.{own_answer, same_answer}
use Rattle.snow_trie.proofs.Visited.{placed_within}
use Rattle.snow_trie.proofs.Ordered.{decided_final}
use Rattle.snow_trie.proofs.Wholes.{IsTaken, own_side, left_over, whole_polled}

-- ---- whether it is final

some_mapped : (f : List Bool → List Bool) (o : Option (List Bool)) → is_some (option_map f o) ≡ is_some o
some_mapped f None = refl
some_mapped f (Some x) = refl

final_prefix : (front : List Bool) (rest : Counters) → is_some (decided_path (strand front Decided rest)) ≡ is_some (decided_path rest)
unfolding decided_path
final_prefix [] rest = refl
final_prefix (true ∷ front) rest = some_mapped (λ path. true ∷ path) (decided_path (strand front Decided rest)) ∙ final_prefix front rest
final_prefix (false ∷ front) rest = some_mapped (λ path. false ∷ path) (decided_path (strand front Decided rest)) ∙ final_prefix front rest

undecided_ends : (c : Counter) (z o : Counters) → is_decided c ≡ false → is_some (decided_path (At c z o)) ≡ false
unfolding decided_path
undecided_ends (Decided true) z o e = absurd (true≢false e)
undecided_ends (Decided false) z o e = absurd (true≢false e)
undecided_ends (Undecided s) z o e = refl

undecided_linked : (b : Bool) (c : Counter) (rest : Counters) → is_decided c ≡ false → is_some (decided_path (linked b c rest)) ≡ false
undecided_linked true c rest e = undecided_ends c Blank rest e
undecided_linked false c rest e = undecided_ends c rest Blank e

final_tree : (now from : ℕ) (t : Tree) → IsPlaced from t → IsOpen t → is_some (decided_path (counters now from t)) ≡ (from == 256)
unfolding decided_path
final_tree now from (Tip id) h u = sym (eq-eqb from 256 h)
final_tree now from (Line run below) h u =
    let b = bit run.id from in
    ap (λ l. is_some (decided_path (strand l (run_counter now run) (counters now run.to below)))) (between_first run.id from run.to h.0)
    ∙ undecided_linked b (run_counter now run b) (strand (between run.id (from + 1) run.to) (run_counter now run) (counters now run.to below))
    (decided_final now run.seen (at_bit run.counter b) ∙ u.0)
    ∙ sym (ne_eqb from 256 (λ e. omega (arith, h.0, h.1)))
final_tree now from (Two fork z o) h u =
    undecided_ends (fork_counter now fork) (if admits (fork_counter now fork) false then counters now (from + 1) z else Blank)
    (if admits (fork_counter now fork) true then counters now (from + 1) o else Blank) (decided_final now fork.seen fork.counter ∙ u.0)
    ∙ sym (ne_eqb from 256 (λ e. omega (arith, h.0)))

-- the tree is final where its prefix has all bits
pub final_whole : (ids : List (List ℕ)) (polls decided : ℕ) (leader : List ℕ) (t : Tree) → IsWhole ids polls decided leader t
    → (decided == 256) ≡ is_some (decided_path (whole polls decided leader t))
final_whole ids polls decided leader t h =
    sym (final_prefix (between leader 0 decided) (counters polls decided t) ∙ final_tree polls decided t h.placed h.undecided)

-- ---- which identifier it prefers

chosen_strand : (answer : Answer) (front : List Bool) (c : Bool → Counter) (rest : Counters) → ((b : Bool) → answer_of answer (c b) ≡ b)
    → chosen answer (strand front c rest) ≡ front ++ chosen answer rest
unfolding chosen
chosen_strand answer [] c rest h = refl
chosen_strand answer (true ∷ front) c rest h = rw (h true) (ap (λ l. true ∷ l) (chosen_strand answer front c rest h))
chosen_strand answer (false ∷ front) c rest h = rw (h false) (ap (λ l. false ∷ l) (chosen_strand answer front c rest h))

answer_admitted : (answer : Answer) (c : Counter) (b : Bool) → answer_of answer c ≡ b → admits c b ≡ true
answer_admitted answer (Decided bit) b e = subst (λ d. admits (Decided bit) d ≡ true) e (own_side bit)
answer_admitted answer (Undecided s) b e = refl

chosen_fork : (answer : Answer) (c : Counter) (z o : Counters) (b : Bool) → answer_of answer c ≡ b → chosen answer (pruned c z o) ≡ b ∷ chosen answer (if b then o else z)
unfolding chosen
chosen_fork answer c z o true e = rw (e, answer_admitted answer c true e) refl
chosen_fork answer c z o false e = rw (e, answer_admitted answer c false e) refl

-- a tree leads to an identifier that stands in it
pub record IsChosen (answer : Answer) (now from : ℕ) (t : Tree) (x : List ℕ) : Type 0 where
  pub bits : chosen answer (counters now from t) ≡ drop from (bits x)
  pub leaf : IsLeaf (outline from t) x

chosen_zero : (answer : Answer) (now from : ℕ) (fork : Fork) (z o : Tree) (x : List ℕ) → from < 256 → IsSorted (outline from (Two fork z o))
    → answer_of answer (fork_counter now fork) ≡ false → IsChosen answer now (from + 1) z x → IsChosen answer now from (Two fork z o) x
chosen_zero answer now from fork z o x small s e h =
    let none : false ≡ bit x from = sym (s.0 x h.leaf) in
    record {
      bits =
          chosen_fork answer (fork_counter now fork) (counters now (from + 1) z) (counters now (from + 1) o) false e
          ∙ (λ i. none i ∷ h.bits i)
          ∙ sym (drop-bits x from small);
      leaf = inl h.leaf;
    }

chosen_one : (answer : Answer) (now from : ℕ) (fork : Fork) (z o : Tree) (x : List ℕ) → from < 256 → IsSorted (outline from (Two fork z o))
    → answer_of answer (fork_counter now fork) ≡ true → IsChosen answer now (from + 1) o x → IsChosen answer now from (Two fork z o) x
chosen_one answer now from fork z o x small s e h =
    let one : true ≡ bit x from = sym (s.1 x h.leaf) in
    record {
      bits =
          chosen_fork answer (fork_counter now fork) (counters now (from + 1) z) (counters now (from + 1) o) true e
          ∙ (λ i. one i ∷ h.bits i)
          ∙ sym (drop-bits x from small);
      leaf = inr h.leaf;
    }

by_answer : (P : List ℕ → Type 0) (b : Bool) (x y : List ℕ) → (b ≡ true → P x) → (b ≡ false → P y) → P (if b then x else y)
by_answer P true x y f g = f refl
by_answer P false x y f g = g refl

pub chosen_tree : (answer : Answer) (now from : ℕ) (t : Tree) → ((b : Bool) → answer b b ≡ b) → IsPlaced from t → IsSorted (outline from t)
    → IsChosen answer now from t (preferred answer t)
unfolding chosen
chosen_tree answer now from (Tip id) law h s = record { bits = sym (drop-bits_end id from (omega (arith, h))); leaf = refl }
chosen_tree answer now from (Line run below) law h s =
    let deeper = chosen_tree answer now run.to below law h.2 s.1 in
    let x = preferred answer below in
    let e : from + (run.to - from) ≡ run.to = omega (arith, h.0) in
    let same = between_same run.id x from run.to (s.0 x deeper.leaf) in
    record {
      bits =
          chosen_strand answer (between run.id from run.to) (run_counter now run) (counters now run.to below) (λ b. own_answer answer now run b law)
          ∙ (λ i. same i ++ deeper.bits i)
          ∙ sym (rw e at (span_drop x from (run.to - from) (omega (arith, h.0, h.1))));
      leaf = deeper.leaf;
    }
chosen_tree answer now from (Two fork z o) law h s =
    let is : answer_of answer (fork_counter now fork) ≡ answer_of answer (fork_counter 0 fork) =
    same_answer answer now fork.seen fork.counter ∙ sym (same_answer answer 0 fork.seen fork.counter)
    in
    by_answer (IsChosen answer now from (Two fork z o)) (answer_of answer (fork_counter 0 fork)) (preferred answer o) (preferred answer z)
    (λ e. chosen_one answer now from fork z o (preferred answer o) h.0 s (is ∙ e) (chosen_tree answer now (from + 1) o law h.2 s.3))
    (λ e. chosen_zero answer now from fork z o (preferred answer z) h.0 s (is ∙ e) (chosen_tree answer now (from + 1) z law h.1 s.2))

-- the counters lead by their answers to the identifier that the tree prefers
pub chosen_whole : (answer : Answer) (ids : List (List ℕ)) (polls decided : ℕ) (leader : List ℕ) (t : Tree) → ((b : Bool) → answer b b ≡ b)
    → IsWhole ids polls decided leader t → chosen answer (whole polls decided leader t) ≡ bits (preferred answer t)
chosen_whole answer ids polls decided leader t law h =
    let deeper = chosen_tree answer polls decided t law h.placed h.sorted.1 in
    let x = preferred answer t in
    let small = placed_within decided t h.placed in
    let e : 0 + (decided - 0) ≡ decided = omega arith in
    let same = between_same leader x 0 decided (h.sorted.0 x deeper.leaf) in
    chosen_strand answer (between leader 0 decided) Decided (counters polls decided t) (λ b. refl)
    ∙ (λ i. same i ++ deeper.bits i)
    ∙ sym (rw e at (span_drop x 0 (decided - 0) (omega arith)))

-- which was given
pub chosen_given : (answer : Answer) (ids : List (List ℕ)) (polls decided : ℕ) (leader : List ℕ) (t : Tree) → ((b : Bool) → answer b b ≡ b)
    → IsWhole ids polls decided leader t → Contains ids (preferred answer t)
chosen_given answer ids polls decided leader t law h = h.given (preferred answer t) (chosen_tree answer polls decided t law h.placed h.sorted.1).leaf

-- ---- whether it moved

-- failing counters lead where they led
pub chosen_failed : (answer : Answer) (p : Parameters) (c : Counters) → AreGood p → chosen answer (failed p c) ≡ chosen answer c
unfolding chosen all_polled
chosen_failed answer p Blank good = refl
chosen_failed answer p (At (Decided false) z o) good = ap (λ l. false ∷ l) (chosen_failed answer p z good)
chosen_failed answer p (At (Decided true) z o) good = ap (λ l. true ∷ l) (chosen_failed answer p o good)
chosen_failed answer p (At (Undecided s) z o) good =
    let zeros = chosen_failed answer p z good in
    let ones = chosen_failed answer p o good in
    rw (fails p (Undecided s) good) (λ i. if answer s.preference s.flake then true ∷ ones i else false ∷ zeros i)

-- a poll that restamps nothing and leaves the tree leading where it led leaves the counters leading where they led, whatever it decides
pub still_chosen : (answer : Answer) (ids : List (List ℕ)) (p : Parameters) (polls before decided : ℕ) (leader : List ℕ) (votes rest : List Vote) (t t1 t2 : Tree) → ((b : Bool) → answer b b ≡ b)
    → IsTaken ids p polls before decided leader votes rest t t1 t2 → t1 ≡ t → preferred answer t2 ≡ preferred answer t1
    → chosen answer (whole (before + 1) (peeled decided t2).0 (next_leader leader decided (peeled decided t2).0 (peeled decided t2).1) (peeled decided t2).1) ≡ chosen answer (whole polls decided leader t)
still_chosen answer ids p polls before decided leader votes rest t t1 t2 law h kept steady =
    let left = (left_over ids p polls before decided leader votes rest t t1 t2 h).preferred answer in
    chosen_whole answer ids (before + 1) (peeled decided t2).0 (next_leader leader decided (peeled decided t2).0 (peeled decided t2).1) (peeled decided t2).1 law
    (whole_polled ids p polls before decided leader votes rest t t1 t2 h)
    ∙ ap bits (left ∙ steady ∙ ap (preferred answer) kept)
    ∙ sym (chosen_whole answer ids polls decided leader t law h.was)

-- a list of one that has an element is that one's
only_one : (P : List ℕ → Type 0) (ids : List (List ℕ)) (x : List ℕ) → Contains ids x → length ids ≡ 1 → P x → All P ids
only_one P [] x given one p = absurd (omega (arith, one))
only_one P (y ∷ []) x given one p = All-cons P y [] (subst P (sym (first given.0 given.1 given.2)) p) (All-nil P)
  where
    first : (k : ℕ) → k < 1 → slice_index_or (y ∷ []) k x ≡ x → y ≡ x
    first zero less is = is
    first (suc k) less is = absurd (omega (arith, less))
only_one P (y ∷ z ∷ ids) x given one p = absurd (omega (arith, one))

-- the counters lead to an identifier that was given alone
pub chosen_alone : (answer : Answer) (ids : List (List ℕ)) (polls decided : ℕ) (leader : List ℕ) (t : Tree) → ((b : Bool) → answer b b ≡ b)
    → IsWhole ids polls decided leader t → length ids ≡ 1 → All (λ id. chosen answer (whole polls decided leader t) ≡ bits id) ids
chosen_alone answer ids polls decided leader t law h one =
    only_one (λ id. chosen answer (whole polls decided leader t) ≡ bits id) ids (preferred answer t) (chosen_given answer ids polls decided leader t law h) one
    (chosen_whole answer ids polls decided leader t law h)
