-- Lemmas on a poll of a tree: what a visit makes of a node, and what is so where none comes.
use Rattle.std.proofs.Common.{◌≡◌, ℕ, ◌+◌, ◌<◌, ◌≤◌, Bool, true, false, List, [], ◌∷◌, take, drop, All, refl, sym, ap, ◌∙◌, subst, inl, inr, arith}
use Rattle.std.specs.Bool.{beq}
use Rattle.std.specs.List.{starts_with}
use Rattle.std.proofs.lemmas.Bool.{cases_lt}
use Rattle.std.proofs.lemmas.List.Sums.{sum_by-take-drop}
use Rattle.snow_base.specs.declared.block.Vote.{Vote}
use Rattle.snow_base.specs.Model.Identifier.{bits, AgreeFrom}
use Rattle.snow_base.specs.Kept.Split.{AgreeBelow, HaveBit}
use Rattle.snow_base.specs.Model.Votes.{total_count}
use Rattle.snow_flake.specs.Model.Parameters.{Parameters, AreGood}
use Rattle.snow_flake.specs.Model.Counter.{Counter, stepped, admits, is_decided}
use Rattle.snow_flake.specs.Kept.Instance.{on_side, at_bit}
use Rattle.snow_board.specs.Model.Conflict.{all_polled}
use Rattle.snow_board.specs.Kept.Walk.{votes_from}
use Rattle.snow_board.proofs.Failing.{few_fail}
use Rattle.snow_board.proofs.Below.{counted_more}
use Rattle.snow_board.proofs.Polling.{below_zero, below_one}
use Rattle.snow_trie.specs.declared.run.Run.{Run}
use Rattle.snow_trie.specs.declared.fork.Fork.{Fork}
use Rattle.snow_trie.specs.Kept.Counted.{run_counter, fork_counter}
use Rattle.snow_trie.specs.Kept.Tree.{Tree, Tip, Line, Two}
use Rattle.snow_trie.specs.Kept.Stamped.{between, strand, pruned, counters}
use Rattle.snow_trie.specs.Kept.Outline.{Outline, Straight, Split, outline, Leads}
use Rattle.snow_trie.specs.Kept.Shape.{IsPlaced, IsStamped}
use Rattle.snow_trie.specs.Kept.Polled.{IsPolled, IsRestamped}
use Rattle.snow_trie.proofs.Ordered.{decided_final}
use Rattle.snow_trie.proofs.Strands.{strand_same, polled_strand, polled_pruned}
use Rattle.snow_trie.proofs.Stamps.{own_bit, later, stamped_later}

-- ---- where no visit comes

-- votes for identifiers whose bits begin so are among all votes
pub no_more_votes : (n : ℕ) (votes : List Vote) (front : List Bool) → votes_from n votes front ≤ total_count votes
no_more_votes n votes front = counted_more (λ v. starts_with beq (drop n (bits v.id)) front) (λ v. true) votes (λ v e. refl)

-- a tree to which few votes come fails
pub unvisited : (p : Parameters) (votes : List Vote) (before from : ℕ) (t : Tree) → AreGood p → IsPlaced from t → IsStamped before t
    → total_count votes < p.alpha_preference → IsPolled p votes before from t t
unvisited p votes before from t good placed stamped few = record {
  counters =
      later p before from t good stamped
      ∙ sym (few_fail p (votes_from from votes) (counters before from t) (λ front. omega (arith, no_more_votes from votes front)));
  placed = placed;
  stamped = stamped_later before t stamped;
  outline = refl;
}

-- what is placed begins within 256 bits
pub placed_within : (from : ℕ) (t : Tree) → IsPlaced from t → from ≤ 256
placed_within from (Tip id) h = omega (arith, h)
placed_within from (Line run below) h = omega (arith, h.0, h.1)
placed_within from (Two fork z o) h = omega (arith, h.0)

-- behind the last bit there is nothing to visit
pub ended : (p : Parameters) (votes : List Vote) (before : ℕ) (t : Tree) → IsPlaced 256 t → IsPolled p votes before 256 t t
unfolding all_polled
ended p votes before (Tip id) h = record { counters = refl; placed = h; stamped = tt; outline = refl }
ended p votes before (Line run below) h = absurd (omega (arith, h.0, h.1))
ended p votes before (Two fork z o) h = absurd (omega (arith, h.0))

pub at_end : (p : Parameters) (votes : List Vote) (before from : ℕ) (id : List ℕ) → from ≡ 256 → IsPolled p votes before from (Tip id) (Tip id)
unfolding all_polled
at_end p votes before from id h = record { counters = refl; placed = h; stamped = tt; outline = refl }

-- ---- votes at a unary node

-- votes that agree with an identifier on some bits agree with one another there
pub agree_on : (from to : ℕ) (id : List ℕ) (votes : List Vote) → AgreeBelow from votes → All (λ v. AgreeFrom from to id v.id) votes → AgreeBelow to votes
agree_on from to id votes agree have i j d p q k h =
    elim (cases_lt k from) [
      | inl less ↦ agree i j d p q k less
      | inr more ↦ sym (have i d (omega arith) k more h) ∙ have j d q k more h
    ]

-- a visit of a unary node, and of what is below it
pub polled_line : (p : Parameters) (votes : List Vote) (count before from to : ℕ) (run run' : Run) (below below' : Tree)
    → from < run.to → run.to ≤ 256 → All (λ v. AgreeFrom from run.to run.id v.id) votes → count ≡ total_count votes
    → ((b : Bool) → run_counter (before + 1) run' b ≡ stepped p (run_counter before run b) (on_side false count b) (on_side true count b))
    → run'.id ≡ run.id → run'.to ≡ run.to → run'.seen ≡ before + 1 → to ≡ run.to → IsPolled p votes before to below below'
    → IsPolled p votes before from (Line run below) (Line run' below')
polled_line p votes count before from to run run' below below' less small agree is step id_is to_is seen same deeper =
    let e : to ≡ run'.to = same ∙ sym to_is in
    let n : ℕ = total_count votes in
    let taken : (b : Bool) → run_counter (before + 1) run' b ≡ stepped p (run_counter before run b) (on_side false n b) (on_side true n b) =
    λ b. step b ∙ (λ i. stepped p (run_counter before run b) (on_side false (is i) b) (on_side true (is i) b))
    in
    record {
      counters =
          (λ i. strand (between (id_is i) from (to_is i)) (run_counter (before + 1) run') (counters (before + 1) (sym e i) below'))
          ∙ ap (strand (between run.id from run.to) (run_counter (before + 1) run')) deeper.counters
          ∙ (λ i. strand (between run.id from run.to) (run_counter (before + 1) run') (all_polled p (votes_from (same i) votes) (counters before (same i) below)))
          ∙ strand_same (between run.id from run.to) (run_counter (before + 1) run') (λ b. stepped p (run_counter before run b) (on_side false n b) (on_side true n b))
          (all_polled p (votes_from run.to votes) (counters before run.to below)) taken
          ∙ sym (polled_strand p from run.to run.id votes (run_counter before run) (counters before run.to below) (omega arith) small agree
          (λ b. ap (λ c. admits c b) (sym (taken b)) ∙ own_bit (before + 1) run' b));
      placed = (omega (arith, to_is), omega (arith, to_is), subst (λ k. IsPlaced k below') e deeper.placed);
      stamped = (omega (arith, seen), deeper.stamped);
      outline =
          (λ i. Straight (id_is i) from (to_is i) (outline (sym e i) below'))
          ∙ ap (Straight run.id from run.to) deeper.outline
          ∙ (λ i. Straight run.id from run.to (outline (same i) below));
    }

-- a visit of a last unary node, whose identifier stands below it
pub polled_last : (p : Parameters) (votes : List Vote) (count before from : ℕ) (run run' : Run)
    → from < run.to → run.to ≡ 256 → All (λ v. AgreeFrom from run.to run.id v.id) votes → count ≡ total_count votes
    → ((b : Bool) → run_counter (before + 1) run' b ≡ stepped p (run_counter before run b) (on_side false count b) (on_side true count b))
    → run'.id ≡ run.id → run'.to ≡ run.to → run'.seen ≡ before + 1 → IsPolled p votes before from (Line run (Tip run.id)) (Line run' (Tip run'.id))
polled_last p votes count before from run run' less end agree is step id_is to_is seen =
    polled_line p votes count before from run.to run run' (Tip run.id) (Tip run'.id) less (omega (arith, end)) agree is step id_is to_is seen refl
    (subst (λ x. IsPolled p votes before run.to (Tip run.id) (Tip x)) (sym id_is) (at_end p votes before run.to run.id end))

-- ---- votes at a binary node

-- votes with a 0 at its bit that go down go down on that side
pub down_zero : (at : ℕ) (z o : Outline) (votes : List Vote) → All (λ v. Leads (Split at z o) v.id) votes → HaveBit at false votes → All (λ v. Leads z v.id) votes
down_zero at z o votes known have k d h = (known k d h).0 (have k d h)

pub down_one : (at : ℕ) (z o : Outline) (votes : List Vote) → All (λ v. Leads (Split at z o) v.id) votes → HaveBit at true votes → All (λ v. Leads o v.id) votes
down_one at z o votes known have k d h = (known k d h).1 (have k d h)

-- a poll of a binary node, and of both its sides
pub polled_two : (p : Parameters) (votes front behind : List Vote) (at before from for_zero for_one : ℕ) (fork fork' : Fork) (z z' o o' : Tree)
    → from < 256 → HaveBit from false (take at votes) → HaveBit from true (drop at votes) → front ≡ take at votes → behind ≡ drop at votes
    → for_zero ≡ total_count front → for_one ≡ total_count behind
    → fork_counter (before + 1) fork' ≡ stepped p (fork_counter before fork) for_zero for_one → fork'.seen ≡ before + 1
    → IsPolled p front before (from + 1) z z' → IsPolled p behind before (from + 1) o o'
    → IsPolled p votes before from (Two fork z o) (Two fork' z' o')
polled_two p votes front behind at before from for_zero for_one fork fork' z z' o o' small low high f b zero_is one_is step seen below_z below_o =
    let in_front : (more : List Bool) → votes_from (from + 1) front more ≡ votes_from from votes (false ∷ more) =
    λ more. ap (λ l. votes_from (from + 1) l more) f ∙ sym (below_zero from at votes more small low high)
    in
    let in_back : (more : List Bool) → votes_from (from + 1) behind more ≡ votes_from from votes (true ∷ more) =
    λ more. ap (λ l. votes_from (from + 1) l more) b ∙ sym (below_one from at votes more small low high)
    in
    let c : Counter = fork_counter before fork in
    record {
      counters =
          (λ i. pruned (step i) (below_z.counters i) (below_o.counters i))
          ∙ (λ i. pruned (stepped p c (zero_is i) (one_is i)) (all_polled p (votes_from (from + 1) front) (counters before (from + 1) z)) (all_polled p (votes_from (from + 1) behind) (counters before (from + 1) o)))
          ∙ (λ i. pruned (stepped p c (in_front [] i) (in_back [] i)) (all_polled p (λ more. in_front more i) (counters before (from + 1) z)) (all_polled p (λ more. in_back more i) (counters before (from + 1) o)))
          ∙ sym (polled_pruned p (votes_from from votes) c (counters before (from + 1) z) (counters before (from + 1) o));
      placed = (small, below_z.placed, below_o.placed);
      stamped = (omega (arith, seen), below_z.stamped, below_o.stamped);
      outline = λ i. Split from (below_z.outline i) (below_o.outline i);
    }

-- the votes of both are all
pub both_sides : (votes front behind : List Vote) (at count for_zero : ℕ) → front ≡ take at votes → behind ≡ drop at votes → for_zero ≡ total_count front
    → count ≡ total_count votes → count ≡ for_zero + total_count behind
both_sides votes front behind at count for_zero f b is all =
    let sum = sum_by-take-drop (λ (v : Vote). v.count) votes at in
    let first = is ∙ ap total_count f in
    let second = ap total_count b in
    omega (arith, sum, first, second, all)

-- where one side has AlphaPreference votes, the other has few
pub few_ones : (p : Parameters) (votes front behind : List Vote) (at for_zero : ℕ) → AreGood p → front ≡ take at votes → behind ≡ drop at votes → for_zero ≡ total_count front
    → total_count votes ≤ p.k → p.alpha_preference ≤ for_zero → total_count behind < p.alpha_preference
few_ones p votes front behind at for_zero good f b is most more =
    let sum = sum_by-take-drop (λ (v : Vote). v.count) votes at in
    let first = is ∙ ap total_count f in
    let second = ap total_count b in
    omega (arith, good.majority, sum, first, second)

pub few_zeros : (p : Parameters) (votes front behind : List Vote) (at for_one : ℕ) → AreGood p → front ≡ take at votes → behind ≡ drop at votes → for_one ≡ total_count behind
    → total_count votes ≤ p.k → p.alpha_preference ≤ for_one → total_count front < p.alpha_preference
few_zeros p votes front behind at for_one good f b is most more =
    let sum = sum_by-take-drop (λ (v : Vote). v.count) votes at in
    let first = ap total_count f in
    let second = is ∙ ap total_count b in
    omega (arith, good.majority, sum, first, second)

-- ---- restamping

-- the stamps of nothing are none
pub restamped_tip : (now : ℕ) (id : List ℕ) → IsRestamped now 0 (Tip id) (Tip id)
restamped_tip now id = record { counters = λ from. refl; outline = λ from. refl; placed = λ from h. h; stamped = λ h. h; undecided = λ h. h }

pub restamped_line : (now : ℕ) (run run' : Run) (below below' : Tree) → ((b : Bool) → run_counter 0 run' b ≡ run_counter now run b)
    → run'.id ≡ run.id → run'.to ≡ run.to → run'.seen ≡ 0 → IsRestamped now 0 below below' → IsRestamped now 0 (Line run below) (Line run' below')
restamped_line now run run' below below' step id_is to_is seen h = record {
  counters = λ from.
      (λ i. strand (between (id_is i) from (to_is i)) (run_counter 0 run') (counters 0 (to_is i) below'))
      ∙ strand_same (between run.id from run.to) (run_counter 0 run') (run_counter now run) (counters 0 run.to below') step
      ∙ ap (strand (between run.id from run.to) (run_counter now run)) (h.counters run.to);
  outline = λ from. (λ i. Straight (id_is i) from (to_is i) (outline (to_is i) below')) ∙ ap (Straight run.id from run.to) (h.outline run.to);
  placed = λ from p. (omega (arith, to_is, p.0), omega (arith, to_is, p.1), subst (λ k. IsPlaced k below') (sym to_is) (h.placed run.to p.2));
  stamped = λ s. (omega (arith, seen), h.stamped s.1);
  undecided = λ o. (
    sym (decided_final 0 run'.seen (at_bit run'.counter true)) ∙ ap is_decided (step true) ∙ decided_final now run.seen (at_bit run.counter true) ∙ o.0,
    h.undecided o.1,
  );
}

pub restamped_last : (now : ℕ) (run run' : Run) → ((b : Bool) → run_counter 0 run' b ≡ run_counter now run b)
    → run'.id ≡ run.id → run'.to ≡ run.to → run'.seen ≡ 0 → IsRestamped now 0 (Line run (Tip run.id)) (Line run' (Tip run'.id))
restamped_last now run run' step id_is to_is seen =
    restamped_line now run run' (Tip run.id) (Tip run'.id) step id_is to_is seen
    (subst (λ x. IsRestamped now 0 (Tip run.id) (Tip x)) (sym id_is) (restamped_tip now run.id))
