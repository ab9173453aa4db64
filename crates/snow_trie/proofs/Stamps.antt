-- Lemmas on stamps: a node that isn't visited fails by itself.
use Rattle.std.proofs.Common.{◌≡◌, ℕ, ◌+◌, ◌≤◌, ◌==◌, Bool, true, false, refl, sym, ap, ◌∙◌, arith}
use Rattle.std.proofs.lemmas.Bool.{ne_eqb}
use Rattle.snow_flake.specs.Model.Parameters.{Parameters, AreGood}
use Rattle.snow_flake.specs.Model.Counter.{Counter, Decided, Undecided, admits}
use Rattle.snow_flake.specs.Model.Rule.{Answer, answer_of}
use Rattle.snow_flake.specs.Kept.Instance.{Instance, Single, at_bit, counter_of, failed as instance_failed}
use Rattle.snow_board.specs.Model.Conflict.{all_polled}
use Rattle.snow_board.specs.Laws.FailingLaw.{failed}
use Rattle.snow_board.proofs.Failing.{quiet}
use Rattle.snow_board.proofs.Cases.{split_on}
use Rattle.snow_trie.specs.declared.run.Run.{Run}
use Rattle.snow_trie.specs.Kept.Counted.{standing_at, run_counter, fork_counter}
use Rattle.snow_trie.specs.Kept.Tree.{Tree, Tip, Line, Two}
use Rattle.snow_trie.specs.Kept.Stamped.{between, strand, pruned, counters}
use Rattle.snow_trie.specs.Kept.Shape.{IsStamped}
use Rattle.snow_trie.proofs.Strands.{strand_same, failed_strand, failed_pruned}

-- ---- one counter

-- a failed instance is a failed counter
pub counter_failed : (i : Instance) → counter_of (instance_failed i) ≡ quiet (counter_of i)
counter_failed i = split_on i.final (λ t. rw t refl) (λ t. rw t refl)

-- failing twice is failing once
pub quiet_twice : (c : Counter) → quiet (quiet c) ≡ quiet c
quiet_twice (Decided bit) = refl
quiet_twice (Undecided s) = refl

-- an instance seen by an earlier poll fails at the next one
pub late_counter : (now seen : ℕ) (i : Instance) → seen ≤ now → counter_of (standing_at (now + 1) seen i) ≡ quiet (counter_of (standing_at now seen i))
late_counter now seen i h =
    let late : (seen == now + 1) ≡ false = ne_eqb seen (now + 1) (λ e. omega arith) in
    split_on (seen == now)
    (λ t. rw (late, t) (counter_failed i))
    (λ t. rw (late, t) (counter_failed i ∙ sym (ap quiet (counter_failed i) ∙ quiet_twice (counter_of i))))

-- where all had one bit, that bit is possible
own_single : (u : Single) (b : Bool) → admits (counter_of (at_bit u b)) b ≡ true
own_single u true = split_on u.final (λ t. rw t refl) (λ t. rw t refl)
own_single u false = split_on u.final (λ t. rw t refl) (λ t. rw t refl)

quiet_admits : (c : Counter) (b : Bool) → admits (quiet c) b ≡ admits c b
quiet_admits (Decided bit) b = refl
quiet_admits (Undecided s) b = refl

pub own_bit : (now : ℕ) (run : Run) (b : Bool) → admits (run_counter now run b) b ≡ true
own_bit now run b =
    split_on (run.seen == now)
    (λ t. rw t (own_single run.counter b))
    (λ t. rw t (ap (λ c. admits c b) (counter_failed (at_bit run.counter b)) ∙ quiet_admits (counter_of (at_bit run.counter b)) b ∙ own_single run.counter b))

-- and is the answer
answer_single : (answer : Answer) (u : Single) (b : Bool) → ((x : Bool) → answer x x ≡ x) → answer_of answer (counter_of (at_bit u b)) ≡ b
answer_single answer u b agrees = split_on u.final (λ t. rw t refl) (λ t. rw t (agrees b))

-- failing changes no answer
pub quiet_answer : (answer : Answer) (c : Counter) → answer_of answer (quiet c) ≡ answer_of answer c
quiet_answer answer (Decided bit) = refl
quiet_answer answer (Undecided s) = refl

pub own_answer : (answer : Answer) (now : ℕ) (run : Run) (b : Bool) → ((x : Bool) → answer x x ≡ x) → answer_of answer (run_counter now run b) ≡ b
own_answer answer now run b agrees =
    split_on (run.seen == now)
    (λ t. rw t (answer_single answer run.counter b agrees))
    (λ t. rw t (ap (answer_of answer) (counter_failed (at_bit run.counter b)) ∙ quiet_answer answer (counter_of (at_bit run.counter b)) ∙ answer_single answer run.counter b agrees))

-- the answer of an instance doesn't depend on stamps
pub same_answer : (answer : Answer) (now seen : ℕ) (i : Instance) → answer_of answer (counter_of (standing_at now seen i)) ≡ answer_of answer (counter_of i)
same_answer answer now seen i =
    split_on (seen == now)
    (λ t. rw t refl)
    (λ t. rw t (ap (answer_of answer) (counter_failed i) ∙ quiet_answer answer (counter_of i)))

-- ---- a tree

-- a poll that visits no node fails all of them
pub later : (p : Parameters) (now from : ℕ) (t : Tree) → AreGood p → IsStamped now t → counters (now + 1) from t ≡ failed p (counters now from t)
unfolding all_polled
later p now from (Tip id) good h = refl
later p now from (Line run below) good h =
    let deeper = later p now run.to below good h.1 in
    strand_same (between run.id from run.to) (run_counter (now + 1) run) (λ b. quiet (run_counter now run b)) (counters (now + 1) run.to below)
    (λ b. late_counter now run.seen (at_bit run.counter b) h.0)
    ∙ ap (strand (between run.id from run.to) (λ b. quiet (run_counter now run b))) deeper
    ∙ sym (failed_strand p (between run.id from run.to) (run_counter now run) (counters now run.to below) good (own_bit now run))
later p now from (Two fork z o) good h =
    let zeros = later p now (from + 1) z good h.1 in
    let ones = later p now (from + 1) o good h.2 in
    let here = late_counter now fork.seen fork.counter h.0 in
    (λ i. pruned (here i) (zeros i) (ones i))
    ∙ sym (failed_pruned p (fork_counter now fork) (counters now (from + 1) z) (counters now (from + 1) o) good)

-- and no stamp is ahead of the polls then
pub stamped_later : (now : ℕ) (t : Tree) → IsStamped now t → IsStamped (now + 1) t
stamped_later now (Tip id) h = tt
stamped_later now (Line run below) h = (omega (arith, h.0), stamped_later now below h.1)
stamped_later now (Two fork z o) h = (omega (arith, h.0), stamped_later now z h.1, stamped_later now o h.2)
