-- Lemmas on which identifiers stand in a tree, and where, once one is added.
use Rattle.std.proofs.Common.{◌≡◌, ◌⊎◌, inl, inr, ℕ, ◌+◌, ◌<◌, ◌≤◌, Bool, true, false, not, List, refl, sym, subst, arith}
use Rattle.snow_base.specs.Model.Identifier.{bit, AgreeFrom}
use Rattle.snow_board.proofs.Cases.{clash}
use Rattle.snow_trie.specs.declared.run.Run.{Run}
use Rattle.snow_trie.specs.declared.fork.Fork.{Fork}
use Rattle.snow_trie.specs.Kept.Tree.{Tree, Tip, Line, Two}
use Rattle.snow_trie.specs.Kept.Outline.{outline, size, Leads, IsLeaf, IsSorted}
use Rattle.snow_trie.specs.Kept.Shape.{IsPlaced, IsStamped, IsOpen}
use Rattle.snow_trie.specs.Kept.Growing.{branch, after, before, fork_of, joined, grown}
use Rattle.snow_trie.proofs.Grown.{by_choice, by_before, by_after, by_branch, by_line}

-- a bit is one of two
opposite : (x y : Bool) → x ≡ not y → x ≡ y → ⊥
opposite true true e f = cc
opposite true false e f = cc
opposite false true e f = cc
opposite false false e f = cc

-- ---- the places of the nodes

placed_joined : (at : ℕ) (b : Bool) (fork : Fork) (old new : Tree) → at < 256 → IsPlaced (at + 1) old → IsPlaced (at + 1) new → IsPlaced at (joined b fork old new)
placed_joined at true fork old new h p q = (h, q, p)
placed_joined at false fork old new h p q = (h, p, q)

pub placed_branch : (id : List ℕ) (at : ℕ) → at ≤ 256 → IsPlaced at (branch id at)
placed_branch id at h = by_branch (IsPlaced at) id at (λ less. (less, omega arith, refl)) (λ more. omega arith)

pub placed_grown : (from : ℕ) (id : List ℕ) (t : Tree) → IsPlaced from t → IsPlaced from (grown from id t)
placed_grown from id (Tip other) h = h
placed_grown from id (Line run below) h =
    by_line (IsPlaced from) from id run below h.0
    (λ agree. (h.0, h.1, placed_grown run.to id below h.2))
    (λ at part.
    let low = part.low in
    let high = part.high in
    let small : at < 256 = omega (arith, h.1) in
    let old : IsPlaced (at + 1) (after at run below) =
    by_after (IsPlaced (at + 1)) at run below high (λ less. (less, h.1, h.2)) (λ e. subst (λ k. IsPlaced k below) (sym e) h.2)
    in
    let both = placed_joined at (bit run.id at) (fork_of run (bit run.id at)) (after at run below) (branch id (at + 1)) small old (placed_branch id (at + 1) (omega arith)) in
    by_before (IsPlaced from) from at run (joined (bit run.id at) (fork_of run (bit run.id at)) (after at run below) (branch id (at + 1))) low
    (λ less. (less, omega arith, both))
    (λ e. subst (λ k. IsPlaced k (joined (bit run.id at) (fork_of run (bit run.id at)) (after at run below) (branch id (at + 1)))) (sym e) both))
placed_grown from id (Two fork z o) h =
    by_choice (IsPlaced from) (bit id from) (Two fork z (grown (from + 1) id o)) (Two fork (grown (from + 1) id z) o)
    (λ e. (h.0, h.1, placed_grown (from + 1) id o h.2))
    (λ e. (h.0, placed_grown (from + 1) id z h.1, h.2))

-- ---- the stamps

stamped_joined : (now : ℕ) (b : Bool) (fork : Fork) (old new : Tree) → fork.seen ≤ now → IsStamped now old → IsStamped now new → IsStamped now (joined b fork old new)
stamped_joined now true fork old new h p q = (h, q, p)
stamped_joined now false fork old new h p q = (h, p, q)

pub stamped_grown : (now from : ℕ) (id : List ℕ) (t : Tree) → IsPlaced from t → IsStamped now t → IsStamped now (grown from id t)
stamped_grown now from id (Tip other) h s = s
stamped_grown now from id (Line run below) h s =
    by_line (IsStamped now) from id run below h.0
    (λ agree. (s.0, stamped_grown now run.to id below h.2 s.1))
    (λ at part.
    let old = by_after (IsStamped now) at run below part.high (λ less. (s.0, s.1)) (λ e. s.1) in
    let new = by_branch (IsStamped now) id (at + 1) (λ less. (omega arith, tt)) (λ more. tt) in
    let both = stamped_joined now (bit run.id at) (fork_of run (bit run.id at)) (after at run below) (branch id (at + 1)) s.0 old new in
    by_before (IsStamped now) from at run (joined (bit run.id at) (fork_of run (bit run.id at)) (after at run below) (branch id (at + 1))) part.low
    (λ less. (s.0, both)) (λ e. both))
stamped_grown now from id (Two fork z o) h s =
    by_choice (IsStamped now) (bit id from) (Two fork z (grown (from + 1) id o)) (Two fork (grown (from + 1) id z) o)
    (λ e. (s.0, s.1, stamped_grown now (from + 1) id o h.2 s.2))
    (λ e. (s.0, stamped_grown now (from + 1) id z h.1 s.1, s.2))

-- ---- no node is decided

open_joined : (b : Bool) (fork : Fork) (old new : Tree) → fork.counter.final ≡ false → IsOpen old → IsOpen new → IsOpen (joined b fork old new)
open_joined true fork old new h p q = (h, q, p)
open_joined false fork old new h p q = (h, p, q)

pub open_grown : (from : ℕ) (id : List ℕ) (t : Tree) → IsPlaced from t → IsOpen t → IsOpen (grown from id t)
open_grown from id (Tip other) h s = s
open_grown from id (Line run below) h s =
    by_line IsOpen from id run below h.0
    (λ agree. (s.0, open_grown run.to id below h.2 s.1))
    (λ at part.
    let old = by_after IsOpen at run below part.high (λ less. (s.0, s.1)) (λ e. s.1) in
    let new = by_branch IsOpen id (at + 1) (λ less. (refl, tt)) (λ more. tt) in
    let both = open_joined (bit run.id at) (fork_of run (bit run.id at)) (after at run below) (branch id (at + 1)) s.0 old new in
    by_before IsOpen from at run (joined (bit run.id at) (fork_of run (bit run.id at)) (after at run below) (branch id (at + 1))) part.low
    (λ less. (s.0, both)) (λ e. both))
open_grown from id (Two fork z o) h s =
    by_choice IsOpen (bit id from) (Two fork z (grown (from + 1) id o)) (Two fork (grown (from + 1) id z) o)
    (λ e. (s.0, s.1, open_grown (from + 1) id o h.2 s.2))
    (λ e. (s.0, open_grown (from + 1) id z h.1 s.1, s.2))

-- ---- the number of nodes

size_joined : (b : Bool) (fork : Fork) (old new : Tree) → size (joined b fork old new) ≡ size old + size new + 1
size_joined true fork old new = omega arith
size_joined false fork old new = refl

-- at most three are added
pub size_grown : (from : ℕ) (id : List ℕ) (t : Tree) → IsPlaced from t → size (grown from id t) ≤ size t + 3
size_grown from id (Tip other) h = omega arith
size_grown from id (Line run below) h =
    by_line (λ t. size t ≤ size below + 1 + 3) from id run below h.0
    (λ agree. let deeper = size_grown run.to id below h.2 in omega arith)
    (λ at part.
    let old : size (after at run below) ≤ size below + 1 = by_after (λ t. size t ≤ size below + 1) at run below part.high (λ less. omega arith) (λ e. omega arith) in
    let new : size (branch id (at + 1)) ≤ 1 = by_branch (λ t. size t ≤ 1) id (at + 1) (λ less. omega arith) (λ more. omega arith) in
    let both = size_joined (bit run.id at) (fork_of run (bit run.id at)) (after at run below) (branch id (at + 1)) in
    by_before (λ t. size t ≤ size below + 1 + 3) from at run (joined (bit run.id at) (fork_of run (bit run.id at)) (after at run below) (branch id (at + 1))) part.low
    (λ less. omega arith) (λ e. omega arith))
size_grown from id (Two fork z o) h =
    by_choice (λ t. size t ≤ size z + size o + 1 + 3) (bit id from) (Two fork z (grown (from + 1) id o)) (Two fork (grown (from + 1) id z) o)
    (λ e. let deeper = size_grown (from + 1) id o h.2 in omega arith)
    (λ e. let deeper = size_grown (from + 1) id z h.1 in omega arith)

-- ---- the identifiers that go down to the end

leads_joined : (at : ℕ) (b : Bool) (fork : Fork) (old new : Tree) (x : List ℕ)
    → (bit x at ≡ b → Leads (outline (at + 1) old) x) → (bit x at ≡ not b → Leads (outline (at + 1) new) x) → Leads (outline at (joined b fork old new)) x
leads_joined at true fork old new x p q = (q, p)
leads_joined at false fork old new x p q = (p, q)

leads_before : (from at : ℕ) (run : Run) (t : Tree) (x : List ℕ) → from ≤ at → AgreeFrom from at run.id x → Leads (outline at t) x → Leads (outline from (before from at run t)) x
leads_before from at run t x h agree deeper =
    by_before (λ t. Leads (outline from t) x) from at run t h (λ less. (agree, deeper)) (λ e. subst (λ k. Leads (outline k t) x) (sym e) deeper)

leads_after : (at : ℕ) (run : Run) (t : Tree) (x : List ℕ) → at < run.to → AgreeFrom (at + 1) run.to run.id x → Leads (outline run.to t) x → Leads (outline (at + 1) (after at run t)) x
leads_after at run t x h agree deeper =
    by_after (λ t. Leads (outline (at + 1) t) x) at run t h (λ less. (agree, deeper)) (λ e. subst (λ k. Leads (outline k t) x) (sym e) deeper)

-- those that went down still do
pub leads_still : (from : ℕ) (id : List ℕ) (t : Tree) (x : List ℕ) → IsPlaced from t → Leads (outline from t) x → Leads (outline from (grown from id t)) x
leads_still from id (Tip other) x h s = tt
leads_still from id (Line run below) x h s =
    by_line (λ t. Leads (outline from t) x) from id run below h.0
    (λ agree. (s.0, leads_still run.to id below x h.2 s.1))
    (λ at part.
    let low = part.low in
    let high = part.high in
    let here : bit run.id at ≡ bit x at = s.0 at low high in
    leads_before from at run (joined (bit run.id at) (fork_of run (bit run.id at)) (after at run below) (branch id (at + 1))) x low
    (λ k p q. s.0 k p (omega arith))
    (leads_joined at (bit run.id at) (fork_of run (bit run.id at)) (after at run below) (branch id (at + 1)) x
    (λ e. leads_after at run below x high (λ k p q. s.0 k (omega arith) q) s.1)
    (λ e. absurd (opposite (bit x at) (bit run.id at) e (sym here)))))
leads_still from id (Two fork z o) x h s =
    by_choice (λ t. Leads (outline from t) x) (bit id from) (Two fork z (grown (from + 1) id o)) (Two fork (grown (from + 1) id z) o)
    (λ e. (s.0, λ f. leads_still (from + 1) id o x h.2 (s.1 f)))
    (λ e. (λ f. leads_still (from + 1) id z x h.1 (s.0 f), s.1))

-- and so does the one that was added
pub leads_added : (from : ℕ) (id : List ℕ) (t : Tree) → IsPlaced from t → Leads (outline from (grown from id t)) id
leads_added from id (Tip other) h = tt
leads_added from id (Line run below) h =
    by_line (λ t. Leads (outline from t) id) from id run below h.0
    (λ agree. (agree, leads_added run.to id below h.2))
    (λ at part.
    leads_before from at run (joined (bit run.id at) (fork_of run (bit run.id at)) (after at run below) (branch id (at + 1))) id part.low part.agree
    (leads_joined at (bit run.id at) (fork_of run (bit run.id at)) (after at run below) (branch id (at + 1)) id
    (λ e. absurd (opposite (bit id at) (bit run.id at) part.differ e))
    (λ e. by_branch (λ t. Leads (outline (at + 1) t) id) id (at + 1) (λ less. (λ k p q. refl, tt)) (λ more. tt))))
leads_added from id (Two fork z o) h =
    by_choice (λ t. Leads (outline from t) id) (bit id from) (Two fork z (grown (from + 1) id o)) (Two fork (grown (from + 1) id z) o)
    (λ e. (λ f. clash (bit id from) e f, λ f. leads_added (from + 1) id o h.2))
    (λ e. (λ f. leads_added (from + 1) id z h.1, λ f. clash (bit id from) f e))

-- ---- the identifiers at the ends

leaf_joined : (at : ℕ) (b : Bool) (fork : Fork) (old new : Tree) (x : List ℕ) → IsLeaf (outline at (joined b fork old new)) x
    → IsLeaf (outline (at + 1) old) x ⊎ IsLeaf (outline (at + 1) new) x
leaf_joined at true fork old new x (inl h) = inr h
leaf_joined at true fork old new x (inr h) = inl h
leaf_joined at false fork old new x (inl h) = inl h
leaf_joined at false fork old new x (inr h) = inr h

leaf_after : (at : ℕ) (run : Run) (t : Tree) (x : List ℕ) → at < run.to → IsLeaf (outline (at + 1) (after at run t)) x → IsLeaf (outline run.to t) x
leaf_after at run t x h =
    by_after (λ s. IsLeaf (outline (at + 1) s) x → IsLeaf (outline run.to t) x) at run t h (λ less leaf. leaf) (λ e leaf. subst (λ k. IsLeaf (outline k t) x) e leaf)

leaf_before : (from at : ℕ) (run : Run) (t : Tree) (x : List ℕ) → from ≤ at → IsLeaf (outline from (before from at run t)) x → IsLeaf (outline at t) x
leaf_before from at run t x h =
    by_before (λ s. IsLeaf (outline from s) x → IsLeaf (outline at t) x) from at run t h (λ less leaf. leaf) (λ e leaf. subst (λ k. IsLeaf (outline k t) x) e leaf)

leaf_branch : (id : List ℕ) (at : ℕ) (x : List ℕ) → IsLeaf (outline at (branch id at)) x → id ≡ x
leaf_branch id at x = by_branch (λ t. IsLeaf (outline at t) x → id ≡ x) id at (λ less leaf. leaf) (λ more leaf. leaf)

-- there is at most one more
pub leaf_grown : (from : ℕ) (id : List ℕ) (t : Tree) (x : List ℕ) → IsPlaced from t → IsLeaf (outline from (grown from id t)) x → IsLeaf (outline from t) x ⊎ (id ≡ x)
leaf_grown from id (Tip other) x h = λ leaf. inl leaf
leaf_grown from id (Line run below) x h =
    by_line (λ t. IsLeaf (outline from t) x → IsLeaf (outline run.to below) x ⊎ (id ≡ x)) from id run below h.0
    (λ agree. leaf_grown run.to id below x h.2)
    (λ at part leaf.
    let both = joined (bit run.id at) (fork_of run (bit run.id at)) (after at run below) (branch id (at + 1)) in
    elim (leaf_joined at (bit run.id at) (fork_of run (bit run.id at)) (after at run below) (branch id (at + 1)) x (leaf_before from at run both x part.low leaf)) [
      | inl old ↦ inl (leaf_after at run below x part.high old)
      | inr new ↦ inr (leaf_branch id (at + 1) x new)
    ])
leaf_grown from id (Two fork z o) x h =
    by_choice (λ t. IsLeaf (outline from t) x → (IsLeaf (outline (from + 1) z) x ⊎ IsLeaf (outline (from + 1) o) x) ⊎ (id ≡ x)) (bit id from)
    (Two fork z (grown (from + 1) id o)) (Two fork (grown (from + 1) id z) o)
    (λ e leaf. elim leaf [
      | inl zero ↦ inl (inl zero)
      | inr one ↦ elim (leaf_grown (from + 1) id o x h.2 one) [ inl old ↦ inl (inr old) | inr new ↦ inr new ]
    ])
    (λ e leaf. elim leaf [
      | inl zero ↦ elim (leaf_grown (from + 1) id z x h.1 zero) [ inl old ↦ inl (inl old) | inr new ↦ inr new ]
      | inr one ↦ inl (inr one)
    ])

-- ---- each stands where its bits lead

sorted_joined : (at : ℕ) (b : Bool) (fork : Fork) (old new : Tree)
    → ((x : List ℕ) → IsLeaf (outline (at + 1) old) x → bit x at ≡ b) → ((x : List ℕ) → IsLeaf (outline (at + 1) new) x → bit x at ≡ not b)
    → IsSorted (outline (at + 1) old) → IsSorted (outline (at + 1) new) → IsSorted (outline at (joined b fork old new))
sorted_joined at true fork old new p q r s = (q, p, s, r)
sorted_joined at false fork old new p q r s = (p, q, r, s)

pub sorted_grown : (from : ℕ) (id : List ℕ) (t : Tree) → IsPlaced from t → IsSorted (outline from t) → IsSorted (outline from (grown from id t))
sorted_grown from id (Tip other) h s = s
sorted_grown from id (Line run below) h s =
    by_line (λ t. IsSorted (outline from t)) from id run below h.0
    (λ agree. (
      λ x leaf. elim (leaf_grown run.to id below x h.2 leaf) [ inl old ↦ s.0 x old | inr new ↦ subst (AgreeFrom from run.to run.id) new agree ],
      sorted_grown run.to id below h.2 s.1,
    ))
    (λ at part.
    let low = part.low in
    let high = part.high in
    let b = bit run.id at in
    let old = after at run below in
    let new = branch id (at + 1) in
    let both = joined b (fork_of run b) old new in
    let old_sorted : IsSorted (outline (at + 1) old) =
    by_after (λ t. IsSorted (outline (at + 1) t)) at run below high
    (λ less. (λ x leaf k p q. s.0 x leaf k (omega arith) q, s.1))
    (λ e. subst (λ k. IsSorted (outline k below)) (sym e) s.1)
    in
    let new_sorted : IsSorted (outline (at + 1) new) =
    by_branch (λ t. IsSorted (outline (at + 1) t)) id (at + 1) (λ less. (λ x leaf. subst (AgreeFrom (at + 1) 256 id) leaf (λ k p q. refl), tt)) (λ more. tt)
    in
    let both_sorted = sorted_joined at b (fork_of run b) old new
    (λ x leaf. sym (s.0 x (leaf_after at run below x high leaf) at low high))
    (λ x leaf. subst (λ y. bit y at ≡ not b) (leaf_branch id (at + 1) x leaf) part.differ) old_sorted new_sorted
    in
    by_before (λ t. IsSorted (outline from t)) from at run both low
    (λ less. (
      λ x leaf. elim (leaf_joined at b (fork_of run b) old new x leaf) [
        | inl was ↦ λ k p q. s.0 x (leaf_after at run below x high was) k p (omega arith)
        | inr came ↦ subst (AgreeFrom from at run.id) (leaf_branch id (at + 1) x came) part.agree
      ],
      both_sorted,
    ))
    (λ e. subst (λ k. IsSorted (outline k both)) (sym e) both_sorted))
sorted_grown from id (Two fork z o) h s =
    by_choice (λ t. IsSorted (outline from t)) (bit id from) (Two fork z (grown (from + 1) id o)) (Two fork (grown (from + 1) id z) o)
    (λ e. (
      s.0,
      λ x leaf. elim (leaf_grown (from + 1) id o x h.2 leaf) [ inl old ↦ s.1 x old | inr new ↦ subst (λ y. bit y from ≡ true) new e ],
      s.2,
      sorted_grown (from + 1) id o h.2 s.3,
    ))
    (λ e. (
      λ x leaf. elim (leaf_grown (from + 1) id z x h.1 leaf) [ inl old ↦ s.0 x old | inr new ↦ subst (λ y. bit y from ≡ false) new e ],
      s.1,
      sorted_grown (from + 1) id z h.1 s.2,
      s.3,
    ))
