-- Lemmas on a tree to which an identifier is added.
use Rattle.std.proofs.Common.{◌≡◌, ℕ, ◌+◌, ◌<◌, ◌≤◌, ◌==◌, Bool, true, false, List, ◌∷◌, drop, Option, Some, None, nat_lt, if◌then◌else◌, refl, sym, ap, ◌∙◌, subst, arith}
use Rattle.std.proofs.lemmas.Bool.{ltb-true, ltb-false}
use Rattle.snow_base.specs.Model.Identifier.{bit, bits, AgreeFrom}
use Rattle.snow_flake.specs.Model.Counter.{Counter, fresh, admits}
use Rattle.snow_board.specs.Model.Conflict.{Counters, Blank, At, with_child}
use Rattle.snow_board.proofs.Cases.{split_on}
use Rattle.snow_board.proofs.Walking.{drop-bits_end}
use Rattle.snow_base.proofs.Bits.{drop-bits}
use Rattle.snow_trie.specs.declared.run.Run.{Run}
use Rattle.snow_trie.specs.declared.fork.Fork.{Fork}
use Rattle.snow_trie.specs.Kept.Counted.{run_counter, fork_counter}
use Rattle.snow_trie.specs.Kept.Tree.{Tree, Tip, Line, Two}
use Rattle.snow_trie.specs.Kept.Stamped.{between, strand, pruned, counters}
use Rattle.snow_trie.specs.Kept.Shape.{IsPlaced}
use Rattle.snow_trie.specs.Kept.Growing.{parting, fresh_run, branch, after, before, fork_of, joined, parted, or_parted, grown}
use Rattle.snow_trie.proofs.Strands.{between_split, between_none, strand-append, strand_same, grown_strand, fresh_strand, parted_strand, forked}
use Rattle.snow_trie.proofs.Stamps.{own_bit}
use Rattle.snow_trie.proofs.Parting.{IsParting, agrees, parts}

-- ---- cases

pub by_choice : (P : Tree → Type 0) (b : Bool) (x y : Tree) → (b ≡ true → P x) → (b ≡ false → P y) → P (if b then x else y)
by_choice P true x y f g = f refl
by_choice P false x y f g = g refl

-- what is before a bit is something, or nothing
pub by_before : (P : Tree → Type 0) (from at : ℕ) (run : Run) (x : Tree) → from ≤ at → (from < at → P (Line (record run { to = at }) x)) → (from ≡ at → P x) → P (before from at run x)
by_before P from at run x h f g =
    by_choice P (nat_lt from at) (Line (record run { to = at }) x) x (λ t. f (ltb-true from at t)) (λ t. let more = ltb-false from at t in g (omega arith))

-- and so is what is behind it
pub by_after : (P : Tree → Type 0) (at : ℕ) (run : Run) (x : Tree) → at < run.to → (at + 1 < run.to → P (Line run x)) → (at + 1 ≡ run.to → P x) → P (after at run x)
by_after P at run x h f g =
    by_choice P (nat_lt (at + 1) run.to) (Line run x) x (λ t. f (ltb-true (at + 1) run.to t)) (λ t. let more = ltb-false (at + 1) run.to t in g (omega arith))

-- and a new branch
pub by_branch : (P : Tree → Type 0) (id : List ℕ) (at : ℕ) → (at < 256 → P (Line (fresh_run id) (Tip id))) → (256 ≤ at → P (Tip id)) → P (branch id at)
by_branch P id at f g =
    by_choice P (nat_lt at 256) (Line (fresh_run id) (Tip id)) (Tip id) (λ t. f (ltb-true at 256 t)) (λ t. g (ltb-false at 256 t))

-- a node parts, or not
by_parting : (P : Tree → Type 0) (o : Option ℕ) (x : Tree) (part : ℕ → Tree) → (o ≡ None → P x) → ((at : ℕ) → o ≡ Some at → P (part at)) → P (or_parted o x part)
by_parting P None x part f g = f refl
by_parting P (Some at) x part f g = g at refl

-- a unary node to which an identifier is added
pub by_line : (P : Tree → Type 0) (from : ℕ) (id : List ℕ) (run : Run) (below : Tree) → from < run.to
    → (AgreeFrom from run.to run.id id → P (Line run (grown run.to id below)))
    → ((at : ℕ) → IsParting run.id id from run.to at
    → P (before from at run (joined (bit run.id at) (fork_of run (bit run.id at)) (after at run below) (branch id (at + 1)))))
    → P (grown from id (Line run below))
by_line P from id run below h f g =
    by_parting P (parting from id (Line run below)) (Line run (grown run.to id below)) (λ at. parted from at (branch id (at + 1)) (Line run below))
    (λ e. f (agrees run.id id from run.to (omega arith) e))
    (λ at e. g at (parts run.id id from run.to at (omega arith) e))

-- ---- the counters

before_counters : (now from at : ℕ) (run : Run) (x : Tree) → from ≤ at
    → counters now from (before from at run x) ≡ strand (between run.id from at) (run_counter now run) (counters now at x)
before_counters now from at run x h =
    by_before (λ t. counters now from t ≡ strand (between run.id from at) (run_counter now run) (counters now at x)) from at run x h
    (λ less. refl)
    (λ e. subst (λ k. counters now from x ≡ strand (between run.id from k) (run_counter now run) (counters now k x)) e
    (ap (λ l. strand l (run_counter now run) (counters now from x)) (sym (between_none run.id from from (omega arith)))))

after_counters : (now at : ℕ) (run : Run) (x : Tree) → at < run.to
    → counters now (at + 1) (after at run x) ≡ strand (between run.id (at + 1) run.to) (run_counter now run) (counters now run.to x)
after_counters now at run x h =
    by_after (λ t. counters now (at + 1) t ≡ strand (between run.id (at + 1) run.to) (run_counter now run) (counters now run.to x)) at run x h
    (λ less. refl)
    (λ e. subst (λ k. counters now (at + 1) x ≡ strand (between run.id (at + 1) k) (run_counter now run) (counters now k x)) e
    (ap (λ l. strand l (run_counter now run) (counters now (at + 1) x)) (sym (between_none run.id (at + 1) (at + 1) (omega arith)))))

joined_counters : (now at : ℕ) (b : Bool) (fork : Fork) (old new : Tree)
    → counters now at (joined b fork old new) ≡ forked b (fork_counter now fork) (counters now (at + 1) old) (counters now (at + 1) new)
joined_counters now at true fork old new = refl
joined_counters now at false fork old new = refl

-- a fresh counter stands as it is, whatever its stamp
fresh_stands : (now : ℕ) (id : List ℕ) (b : Bool) → run_counter now (fresh_run id) b ≡ fresh b
fresh_stands now id true = split_on (0 == now) (λ t. rw t refl) (λ t. rw t refl)
fresh_stands now id false = split_on (0 == now) (λ t. rw t refl) (λ t. rw t refl)

-- behind the last bit nothing is added
no_more : (id : List ℕ) (at : ℕ) (rest : Counters) → 256 ≤ at → with_child (drop at (bits id)) rest ≡ rest
unfolding with_child
no_more id at rest h = rw (drop-bits_end id at h) refl

pub branch_counters : (now at : ℕ) (id : List ℕ) → counters now at (branch id at) ≡ with_child (drop at (bits id)) Blank
branch_counters now at id =
    by_branch (λ t. counters now at t ≡ with_child (drop at (bits id)) Blank) id at
    (λ less. strand_same (between id at 256) (run_counter now (fresh_run id)) fresh Blank (fresh_stands now id)
    ∙ sym (fresh_strand id at 256 (omega arith) (omega arith) ∙ ap (strand (between id at 256) fresh) (no_more id 256 Blank (omega arith))))
    (λ more. sym (no_more id at Blank more))

-- a side of a binary node grows
grown_side : (rest : List Bool) (c : Counter) (b : Bool) (side : Counters)
    → (if admits c b then with_child rest (if admits c b then side else Blank) else (if admits c b then side else Blank)) ≡ (if admits c b then with_child rest side else Blank)
grown_side rest c b side = split_on (admits c b) (λ t. rw t refl) (λ t. rw t refl)

grown_fork : (b : Bool) (rest : List Bool) (c : Counter) (z o : Counters)
    → with_child (b ∷ rest) (pruned c z o) ≡ (if b then pruned c z (with_child rest o) else pruned c (with_child rest z) o)
unfolding with_child
grown_fork true rest c z o = ap (At c (if admits c false then z else Blank)) (grown_side rest c true o)
grown_fork false rest c z o = ap (λ x. At c x (if admits c true then o else Blank)) (grown_side rest c false z)

-- adding an identifier is the issue of a child
pub grown_counters : (now from : ℕ) (id : List ℕ) (t : Tree) → IsPlaced from t → counters now from (grown from id t) ≡ with_child (drop from (bits id)) (counters now from t)
grown_counters now from id (Tip other) h = sym (no_more id from Blank (omega arith))
grown_counters now from id (Line run below) h =
    let c : Bool → Counter = run_counter now run in
    by_line (λ t. counters now from t ≡ with_child (drop from (bits id)) (strand (between run.id from run.to) c (counters now run.to below))) from id run below h.0
    (λ agree. ap (strand (between run.id from run.to) c) (grown_counters now run.to id below h.2)
    ∙ sym (grown_strand id run.id from run.to c (counters now run.to below) (omega (arith, h.0)) h.1 agree (own_bit now run)))
    (λ at part.
    let low = part.low in
    let high = part.high in
    let b = bit run.id at in
    let old = after at run below in
    let new = branch id (at + 1) in
    let rest : Counters = strand (between run.id at run.to) c (counters now run.to below) in
    before_counters now from at run (joined b (fork_of run b) old new) low
    ∙ ap (strand (between run.id from at) c)
    (joined_counters now at b (fork_of run b) old new
    ∙ (λ i. forked b (c b) (after_counters now at run below high i) (branch_counters now (at + 1) id i))
    ∙ sym (parted_strand id run.id at run.to c (counters now run.to below) high h.1 part.differ (own_bit now run)))
    ∙ sym (
    ap (with_child (drop from (bits id)))
    ((λ i. strand (between_split run.id from at run.to low (omega arith) i) c (counters now run.to below))
    ∙ strand-append (between run.id from at) (between run.id at run.to) c (counters now run.to below))
    ∙ grown_strand id run.id from at c rest low (omega (arith, h.1)) part.agree (own_bit now run)
    ))
grown_counters now from id (Two fork z o) h =
    let c = fork_counter now fork in
    let zeros = grown_counters now (from + 1) id z h.1 in
    let ones = grown_counters now (from + 1) id o h.2 in
    sides (bit id from) (grown (from + 1) id z) (grown (from + 1) id o) zeros ones
    ∙ sym (ap (λ l. with_child l (pruned c (counters now (from + 1) z) (counters now (from + 1) o))) (drop-bits id from h.0)
    ∙ grown_fork (bit id from) (drop (from + 1) (bits id)) c (counters now (from + 1) z) (counters now (from + 1) o))
  where
    sides : (b : Bool) (x y : Tree) → counters now (from + 1) x ≡ with_child (drop (from + 1) (bits id)) (counters now (from + 1) z)
        → counters now (from + 1) y ≡ with_child (drop (from + 1) (bits id)) (counters now (from + 1) o)
        → counters now from (if b then Two fork z y else Two fork x o)
        ≡ (if b then pruned (fork_counter now fork) (counters now (from + 1) z) (with_child (drop (from + 1) (bits id)) (counters now (from + 1) o))
        else pruned (fork_counter now fork) (with_child (drop (from + 1) (bits id)) (counters now (from + 1) z)) (counters now (from + 1) o))
    sides true x y e f = ap (pruned (fork_counter now fork) (counters now (from + 1) z)) f
    sides false x y e f = ap (λ w. pruned (fork_counter now fork) w (counters now (from + 1) o)) e
