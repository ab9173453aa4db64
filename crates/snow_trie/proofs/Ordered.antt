-- Lemmas on the confidence law in one conflict: a poll and an issue keep it, and behind an undecided counter none is decided.
use Rattle.std.proofs.Common.{◌≡◌, ℕ, ◌+◌, ◌≤◌, ◌==◌, Bool, true, false, List, [], ◌∷◌, ◌++◌, drop, if◌then◌else◌, refl, sym, ◌∙◌, subst, arith}
use Rattle.std.specs.Bool.{beq}
use Rattle.std.specs.List.{starts_with}
use Rattle.std.proofs.lemmas.Bool.{true≢false}
use Rattle.snow_base.specs.declared.block.Vote.{Vote}
use Rattle.snow_base.specs.Model.Identifier.{bit, bits}
use Rattle.snow_base.specs.Model.Votes.{total_count}
use Rattle.snow_flake.specs.Model.Parameters.{Parameters, AreGood}
use Rattle.snow_flake.specs.Model.Counter.{Counter, Decided, Undecided, Standing, fresh, stepped, admits, is_decided}
use Rattle.snow_flake.specs.Kept.Instance.{Instance, at_bit, counter_of}
use Rattle.snow_board.specs.Model.Conflict.{Counters, Blank, At, with_child, all_polled}
use Rattle.snow_board.specs.Kept.Walk.{votes_from}
use Rattle.snow_board.proofs.Order.{bounded, kept}
use Rattle.snow_board.proofs.Below.{starts_front, one_side, counted_more, counted_apart}
use Rattle.snow_board.proofs.Cases.{split_on}
use Rattle.snow_trie.specs.Kept.Counted.{standing_at, run_counter, fork_counter}
use Rattle.snow_trie.specs.Kept.Tree.{Tree, Tip, Line, Two}
use Rattle.snow_trie.specs.Kept.Stamped.{between, linked, strand, counters}
use Rattle.snow_trie.specs.Kept.Shape.{IsPlaced, IsOpenFirst, IsOpen, IsBelow, IsOrdered}
use Rattle.snow_trie.proofs.Strands.{between_first}

-- ---- counts of votes

-- longer lists have fewer votes, and both sides of a list together at most so many
pub record AreCounts (most : ℕ) (votes : List Bool → ℕ) : Type 0 where
  pub falls : (front more : List Bool) → votes (front ++ more) ≤ votes front
  pub both : (front : List Bool) → votes (front ++ false ∷ []) + votes (front ++ true ∷ []) ≤ most

pub are_counts : (most n : ℕ) (votes : List Vote) → total_count votes ≤ most → AreCounts most (votes_from n votes)
are_counts most n votes few = record {
  falls = λ front more.
      counted_more (λ v. starts_with beq (drop n (bits v.id)) (front ++ more)) (λ v. starts_with beq (drop n (bits v.id)) front) votes
      (λ v h. starts_front (drop n (bits v.id)) front more h);
  both = λ front.
      let sides =
      counted_apart (λ v. starts_with beq (drop n (bits v.id)) (front ++ false ∷ [])) (λ v. starts_with beq (drop n (bits v.id)) (front ++ true ∷ [])) votes
      (λ v h. one_side (drop n (bits v.id)) front h)
      in
      omega (arith, sides, few);
}

-- behind a bit it is the same
deeper_counts : (most : ℕ) (votes : List Bool → ℕ) (b : Bool) → AreCounts most votes → AreCounts most (λ front. votes (b ∷ front))
deeper_counts most votes b h = record { falls = λ front more. h.falls (b ∷ front) more; both = λ front. h.both (b ∷ front) }

-- ---- a poll

below_if : (upper : Counter) (side x : Bool) (counters : Counters) → IsBelow upper side counters → IsBelow upper side (if x then counters else Blank)
below_if upper side true counters h = h
below_if upper side false counters h = tt

below_polled : (p : Parameters) (votes : List Bool → ℕ) (upper : Counter) (side : Bool) (m0 m1 : ℕ) (counters : Counters) → AreGood p → m0 + m1 ≤ p.k
    → ((front : List Bool) → votes front ≤ (if side then m1 else m0)) → IsBelow upper side counters
    → IsBelow (stepped p upper m0 m1) side (all_polled p votes counters)
unfolding all_polled
below_polled p votes upper side m0 m1 Blank good few less h = tt
below_polled p votes upper side m0 m1 (At c z o) good few less h =
    let next = stepped p c (votes (false ∷ [])) (votes (true ∷ [])) in
    let upper' = stepped p upper m0 m1 in (
      kept p upper c side m0 m1 (votes (false ∷ [])) (votes (true ∷ [])) good few (less (false ∷ [])) (less (true ∷ [])) h.0,
      below_if upper' side (admits next false) (all_polled p (λ front. votes (false ∷ front)) z)
          (below_polled p (λ front. votes (false ∷ front)) upper side m0 m1 z good few (λ front. less (false ∷ front)) h.1),
      below_if upper' side (admits next true) (all_polled p (λ front. votes (true ∷ front)) o)
          (below_polled p (λ front. votes (true ∷ front)) upper side m0 m1 o good few (λ front. less (true ∷ front)) h.2),
    )

ordered_if : (x : Bool) (counters : Counters) → IsOrdered counters → IsOrdered (if x then counters else Blank)
ordered_if true counters h = h
ordered_if false counters h = tt

-- a poll keeps the order
pub ordered_polled : (p : Parameters) (votes : List Bool → ℕ) (counters : Counters) → AreGood p → AreCounts p.k votes → IsOrdered counters → IsOrdered (all_polled p votes counters)
unfolding all_polled
ordered_polled p votes Blank good counts h = tt
ordered_polled p votes (At c z o) good counts h =
    let n0 = votes (false ∷ []) in
    let n1 = votes (true ∷ []) in
    let next = stepped p c n0 n1 in
    let zeros = all_polled p (λ front. votes (false ∷ front)) z in
    let ones = all_polled p (λ front. votes (true ∷ front)) o in (
      below_if next false (admits next false) zeros
          (below_polled p (λ front. votes (false ∷ front)) c false n0 n1 z good (counts.both []) (λ front. counts.falls (false ∷ []) front) h.0),
      below_if next true (admits next true) ones
          (below_polled p (λ front. votes (true ∷ front)) c true n0 n1 o good (counts.both []) (λ front. counts.falls (true ∷ []) front) h.1),
      ordered_if (admits next false) zeros (ordered_polled p (λ front. votes (false ∷ front)) z good (deeper_counts p.k votes false counts) h.2),
      ordered_if (admits next true) ones (ordered_polled p (λ front. votes (true ∷ front)) o good (deeper_counts p.k votes true counts) h.3),
    )

-- no votes are counts too
pub no_counts : (most : ℕ) → AreCounts most (λ front. 0)
no_counts most = record { falls = λ front more. omega arith; both = λ front. omega arith }

-- ---- an issue

below_grown : (upper : Counter) (side : Bool) (child : List Bool) (counters : Counters) → IsBelow upper side counters → IsBelow upper side (with_child child counters)
unfolding with_child
below_grown upper side [] counters h = h
below_grown upper side (false ∷ rest) Blank h = (bounded upper side _ (omega arith), below_grown upper side rest Blank tt, tt)
below_grown upper side (true ∷ rest) Blank h = (bounded upper side _ (omega arith), tt, below_grown upper side rest Blank tt)
below_grown upper side (false ∷ rest) (At c z o) h =
    (h.0, split_on (admits c false) (λ t. rw t (below_grown upper side rest z h.1)) (λ t. rw t h.1), h.2)
below_grown upper side (true ∷ rest) (At c z o) h =
    (h.0, h.1, split_on (admits c true) (λ t. rw t (below_grown upper side rest o h.2)) (λ t. rw t h.2))

-- an issue keeps the order
pub ordered_grown : (child : List Bool) (counters : Counters) → IsOrdered counters → IsOrdered (with_child child counters)
unfolding with_child
ordered_grown [] counters h = h
ordered_grown (false ∷ rest) Blank h = (below_grown (fresh false) false rest Blank tt, tt, ordered_grown rest Blank tt, tt)
ordered_grown (true ∷ rest) Blank h = (tt, below_grown (fresh true) true rest Blank tt, tt, ordered_grown rest Blank tt)
ordered_grown (false ∷ rest) (At c z o) h = (
  split_on (admits c false) (λ t. rw t (below_grown c false rest z h.0)) (λ t. rw t h.0),
  h.1,
  split_on (admits c false) (λ t. rw t (ordered_grown rest z h.2)) (λ t. rw t h.2),
  h.3,
)
ordered_grown (true ∷ rest) (At c z o) h = (
  h.0,
  split_on (admits c true) (λ t. rw t (below_grown c true rest o h.1)) (λ t. rw t h.1),
  h.2,
  split_on (admits c true) (λ t. rw t (ordered_grown rest o h.3)) (λ t. rw t h.3),
)

-- what is behind a prefix is in order
pub ordered_behind : (front : List Bool) (c : Bool → Counter) (rest : Counters) → IsOrdered (strand front c rest) → IsOrdered rest
ordered_behind [] c rest h = h
ordered_behind (true ∷ front) c rest h = ordered_behind front c rest h.3
ordered_behind (false ∷ front) c rest h = ordered_behind front c rest h.2

-- ---- behind an undecided counter

-- no counter is decided
abbrev pub IsUndecided : Counters → Type 0
IsUndecided Blank = Unit {0}
IsUndecided (At c z o) = (is_decided c ≡ false) × IsUndecided z × IsUndecided o

undecided_below : (s : Standing) (side : Bool) (counters : Counters) → IsBelow (Undecided s) side counters → IsUndecided counters
undecided_below s side Blank h = tt
undecided_below s side (At (Decided bit) z o) h = absurd h.0
undecided_below s side (At (Undecided t) z o) h = (refl, undecided_below s side z h.1, undecided_below s side o h.2)

undecided_first : (c : Counter) (z o : Counters) → is_decided c ≡ false → IsOrdered (At c z o) → IsUndecided (At c z o)
undecided_first (Decided bit) z o e h = absurd (true≢false e)
undecided_first (Undecided s) z o e h = (refl, undecided_below s false z h.0, undecided_below s true o h.1)

-- an instance is decided where it is final, whatever its stamp
pub decided_final : (now seen : ℕ) (i : Instance) → is_decided (counter_of (standing_at now seen i)) ≡ i.final
decided_final now seen i =
    split_on (seen == now)
    (λ t. split_on i.final (λ u. rw (t, u) refl) (λ u. rw (t, u) refl))
    (λ t. split_on i.final (λ u. rw (t, u) refl) (λ u. rw (t, u) refl))

undecided_behind : (front : List Bool) (c : Bool → Counter) (rest : Counters) → IsUndecided (strand front c rest) → IsUndecided rest
undecided_behind [] c rest h = h
undecided_behind (true ∷ front) c rest h = undecided_behind front c rest h.2
undecided_behind (false ∷ front) c rest h = undecided_behind front c rest h.1

undecided_linked : (b : Bool) (c : Counter) (rest : Counters) → IsUndecided (linked b c rest) → is_decided c ≡ false
undecided_linked true c rest h = h.0
undecided_linked false c rest h = h.0

undecided_if : (x : Bool) (side : Counters) → x ≡ true → IsUndecided (if x then side else Blank) → IsUndecided side
undecided_if true side e h = h
undecided_if false side e h = absurd (true≢false (sym e))

open_admits : (c : Counter) (b : Bool) → is_decided c ≡ false → admits c b ≡ true
open_admits (Decided bit) b e = absurd (true≢false e)
open_admits (Undecided s) b e = refl

-- where no counter is decided, no node is
all_open : (now from : ℕ) (t : Tree) → IsPlaced from t → IsUndecided (counters now from t) → IsOpen t
all_open now from (Tip id) h u = tt
all_open now from (Line run below) h u =
    let front = subst (λ l. IsUndecided (strand l (run_counter now run) (counters now run.to below))) (between_first run.id from run.to h.0) u in
    let b = bit run.id from in (
      sym (decided_final now run.seen (at_bit run.counter b)) ∙ undecided_linked b (run_counter now run b) (strand (between run.id (from + 1) run.to) (run_counter now run) (counters now run.to below)) front,
      all_open now run.to below h.2 (undecided_behind (between run.id from run.to) (run_counter now run) (counters now run.to below) u),
    )
all_open now from (Two fork z o) h u =
    let c = fork_counter now fork in (
      sym (decided_final now fork.seen fork.counter) ∙ u.0,
      all_open now (from + 1) z h.1 (undecided_if (admits c false) (counters now (from + 1) z) (open_admits c false u.0) u.1),
      all_open now (from + 1) o h.2 (undecided_if (admits c true) (counters now (from + 1) o) (open_admits c true u.0) u.2),
    )

undecided_strand : (b : Bool) (c : Counter) (rest : Counters) → is_decided c ≡ false → IsOrdered (linked b c rest) → IsUndecided (linked b c rest)
undecided_strand true c rest e h = undecided_first c Blank rest e h
undecided_strand false c rest e h = undecided_first c rest Blank e h

-- where the first node isn't decided, none is
pub open_all : (now from : ℕ) (t : Tree) → IsPlaced from t → IsOrdered (counters now from t) → IsOpenFirst t → IsOpen t
open_all now from (Tip id) h order first = tt
open_all now from (Line run below) h order first =
    let b = bit run.id from in
    let rest : Counters = strand (between run.id (from + 1) run.to) (run_counter now run) (counters now run.to below) in
    let is = between_first run.id from run.to h.0 in
    let front = subst (λ l. IsOrdered (strand l (run_counter now run) (counters now run.to below))) is order in
    all_open now from (Line run below) h
    (subst (λ l. IsUndecided (strand l (run_counter now run) (counters now run.to below))) (sym is)
    (undecided_strand b (run_counter now run b) rest (decided_final now run.seen (at_bit run.counter b) ∙ first) front))
open_all now from (Two fork z o) h order first =
    all_open now from (Two fork z o) h
    (undecided_first (fork_counter now fork) (if admits (fork_counter now fork) false then counters now (from + 1) z else Blank)
    (if admits (fork_counter now fork) true then counters now (from + 1) o else Blank) (decided_final now fork.seen fork.counter ∙ first) order)
