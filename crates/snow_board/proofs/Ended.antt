-- Lemmas on the end of the path by the answers: where the issue of a child moves it.
use Rattle.std.proofs.Common.{◌≡◌, ℕ, ◌≤◌, suc, Bool, true, false, ◌&&◌, ◌||◌, List, [], ◌∷◌, ◌++◌, length, map, reverse, bytes_eq, None, refl, sym, ap, ◌∙◌, subst, arith}
use Rattle.std.specs.Bool.{beq}
use Rattle.std.specs.Cmp.Lexicographic.{pointwise}
use mathlib.Core.List.{reverse-cons}
use Rattle.std.proofs.lemmas.List.Folds.{list_any-append}
use Rattle.std.proofs.lemmas.Bool.{or_parts, and_parts}
use Rattle.snow_base.specs.declared.block.Header.{Header}
use Rattle.snow_base.specs.Model.Identifier.{bits}
use Rattle.snow_base.proofs.Bits.{length-bits}
use Rattle.snow_flake.specs.Model.Counter.{admits}
use Rattle.snow_flake.specs.Model.Rule.{Answer, answer_of}
use Rattle.snow_board.specs.Model.Conflict.{Pending}
use Rattle.snow_board.specs.declared.board.Leading.{Leading}
use Rattle.snow_board.specs.Model.Conflict.{Counters, Blank, At, with_child, chosen, leads_to}
use Rattle.snow_board.specs.Model.Board.{Board, blocks_of, with_issued, new_pending, issued, height_of}
use Rattle.snow_board.specs.Model.Preference.{path_from, end_of, preferred}
use Rattle.snow_board.specs.Kept.Ending.{end_counters, has_pending_child, IsLeading, leading_after}
use Rattle.snow_board.specs.Kept.Grown.{has_block, IsGrown}
use Rattle.snow_board.proofs.Cases.{split_on, clash, same_id, id_itself, id_same, differs_back}
use Rattle.snow_board.proofs.Grown.{has_child, latest_childless, has_block-reverse}
use Rattle.snow_board.specs.Laws.Reached.{MayIssue}
use Rattle.snow_board.proofs.Issued.{after_issue, blocks_after, reversed_after, unknown_off, grown_issued}

-- ---- the counters of one conflict

-- lists that are found equal are as long
same_length : (xs ys : List Bool) → pointwise beq xs ys ≡ true → length xs ≡ length ys
same_length [] [] h = refl
same_length [] (y ∷ ys) h = cc
same_length (x ∷ xs) [] h = cc
same_length (x ∷ xs) (y ∷ ys) h = ap suc (same_length xs ys (and_parts (beq x y) (pointwise beq xs ys) h).1)

-- a list is found equal to itself
itself : (xs : List Bool) → pointwise beq xs xs ≡ true
itself [] = refl
itself (true ∷ xs) = itself xs
itself (false ∷ xs) = itself xs

-- where the answers have as many bits as a new child, they stay
chosen_stays : (answer : Answer) (bs : List Bool) (counters : Counters) → length bs ≤ length (chosen answer counters)
    → chosen answer (with_child bs counters) ≡ chosen answer counters
unfolding with_child chosen
chosen_stays answer [] counters h = refl
chosen_stays answer (b ∷ bs) Blank h = absurd (omega (arith, h))
chosen_stays answer (false ∷ bs) (At c z o) h =
    split_on (answer_of answer c)
    (λ t. rw t refl)
    (λ t. let k = rw t at h in
    rw t (split_on (admits c false) (λ s. rw s (ap (λ l. false ∷ l) (chosen_stays answer bs z (omega (arith, k))))) (λ s. rw s refl)))
chosen_stays answer (true ∷ bs) (At c z o) h =
    split_on (answer_of answer c)
    (λ t. let k = rw t at h in
    rw t (split_on (admits c true) (λ s. rw s (ap (λ l. true ∷ l) (chosen_stays answer bs o (omega (arith, k))))) (λ s. rw s refl)))
    (λ t. rw t refl)

-- the answers of fresh counters are the child's bits
chosen_fresh : (answer : Answer) → ((b : Bool) → answer b b ≡ b) → (bs : List Bool) → chosen answer (with_child bs Blank) ≡ bs
unfolding with_child chosen
chosen_fresh answer agrees [] = refl
chosen_fresh answer agrees (false ∷ bs) = rw (agrees false) (ap (λ l. false ∷ l) (chosen_fresh answer agrees bs))
chosen_fresh answer agrees (true ∷ bs) = rw (agrees true) (ap (λ l. true ∷ l) (chosen_fresh answer agrees bs))

-- where the answers lead to some identifier, a new child changes nothing
leads_stay : (answer : Answer) (counters : Counters) (child some id : List ℕ) → leads_to answer counters some ≡ true
    → leads_to answer (with_child (bits child) counters) id ≡ leads_to answer counters id
leads_stay answer counters child some id h =
    ap (λ l. pointwise beq l (bits id))
    (chosen_stays answer (bits child) counters (omega (arith, same_length (chosen answer counters) (bits some) h, length-bits some, length-bits child)))

-- fresh counters lead to their child
leads_fresh : (answer : Answer) → ((b : Bool) → answer b b ≡ b) → (id : List ℕ) → leads_to answer (with_child (bits id) Blank) id ≡ true
leads_fresh answer agrees id = rw (chosen_fresh answer agrees (bits id)) (itself (bits id))

-- ---- the walk

-- the end of the path from a block
abbrev end_from : Answer → List ℕ → Counters → List Pending → List ℕ
end_from answer at counters qs = end_of at (path_from answer at counters qs)

-- the pending blocks after the issue of a child
abbrev pending_after : Header → List Pending → List Pending
pending_after child qs = map (after_issue child) qs ++ new_pending child ∷ []

-- one step of the walk
abbrev goes : Answer → List ℕ → Counters → Pending → Bool
goes answer at counters q = bytes_eq q.block.parent at && leads_to answer counters q.block.id

-- where the path leaves a block, the answers lead to some identifier
moves : (answer : Answer) (at : List ℕ) (counters : Counters) (qs : List Pending) → bytes_eq (end_from answer at counters qs) at ≡ false
    → (some : List ℕ) × (leads_to answer counters some ≡ true)
unfolding path_from
moves answer at counters [] h = clash (bytes_eq at at) (id_itself at) h
moves answer at counters (q ∷ later) h =
    split_on (goes answer at counters q)
    (λ t. (q.block.id, (and_parts (bytes_eq q.block.parent at) (leads_to answer counters q.block.id) t).1))
    (λ t. moves answer at counters later (rw t at h))

-- no answer changes where the path doesn't end at the child's parent
answers_stay : (answer : Answer) (child : Header) (at : List ℕ) (counters : Counters) (qs : List Pending)
    → bytes_eq (end_from answer at counters qs) child.parent ≡ false
    → (id : List ℕ) → leads_to answer (with_issued child at counters) id ≡ leads_to answer counters id
answers_stay answer child at counters qs h id =
    split_on (bytes_eq at child.parent)
    (λ t.
    let away : bytes_eq (end_from answer at counters qs) at ≡ false = ap (bytes_eq (end_from answer at counters qs)) (same_id at child.parent t) ∙ h in
    let found = moves answer at counters qs away in
    rw t (leads_stay answer counters child.id found.0 id found.1))
    (λ t. rw t refl)

-- where a path ended, and with which counters
abbrev Ends : Answer → List ℕ → Counters → List Pending → List ℕ → Counters → Type 0
Ends answer at counters qs id last = (end_from answer at counters qs ≡ id) × (end_counters answer at counters qs ≡ last)

-- a child of another block moves nothing
ends_stay : (answer : Answer) (child : Header) (at : List ℕ) (counters : Counters) (qs : List Pending)
    → bytes_eq (end_from answer at counters qs) child.parent ≡ false
    → Ends answer at (with_issued child at counters) (pending_after child qs) (end_from answer at counters qs) (end_counters answer at counters qs)
unfolding path_from end_counters
ends_stay answer child at counters [] h =
    rw (h, differs_back child.parent at h) (refl, refl)
ends_stay answer child at counters (q ∷ later) h =
    let s = answers_stay answer child at counters (q ∷ later) h q.block.id in
    split_on (goes answer at counters q)
    (λ t. let k = rw t at h in rw s (rw t (ends_stay answer child q.block.id q.counters later k)))
    (λ t. let k = rw t at h in rw s (rw t (ends_stay answer child at counters later k)))

-- a step to a block that isn't the child's sibling is as before
goes_stays : (answer : Answer) (child : Header) (at : List ℕ) (counters : Counters) (q : Pending) → bytes_eq q.block.parent child.parent ≡ false
    → goes answer at (with_issued child at counters) q ≡ goes answer at counters q
goes_stays answer child at counters q h =
    split_on (bytes_eq q.block.parent at)
    (λ t.
    let other : bytes_eq at child.parent ≡ false = ap (λ id. bytes_eq id child.parent) (sym (same_id q.block.parent at t)) ∙ h in
    rw (other, t) refl)
    (λ t. rw t refl)

-- the first child of the block at which the path ends is the new end
ends_move : (answer : Answer) → ((b : Bool) → answer b b ≡ b) → (child : Header) (at : List ℕ) (counters : Counters) (qs : List Pending)
    → end_from answer at counters qs ≡ child.parent → end_counters answer at counters qs ≡ Blank → has_pending_child qs child.parent ≡ false
    → Ends answer at (with_issued child at counters) (pending_after child qs) child.id Blank
unfolding path_from end_counters
ends_move answer agrees child at counters [] ends blank none =
    rw (ends, id_itself child.parent, blank, leads_fresh answer agrees child.id) (refl, refl)
ends_move answer agrees child at counters (q ∷ later) ends blank none =
    let parts = or_parts (bytes_eq q.block.parent child.parent) (has_pending_child later child.parent) none in
    let s = goes_stays answer child at counters q parts.0 in
    split_on (goes answer at counters q)
    (λ t. let e = rw t at ends in let b = rw t at blank in rw s (rw t (ends_move answer agrees child q.block.id q.counters later e b parts.1)))
    (λ t. let e = rw t at ends in let b = rw t at blank in rw s (rw t (ends_move answer agrees child at counters later e b parts.1)))

-- a path that ends at the latest block ends without counters
ends_blank : (answer : Answer) (child : Header) (at : List ℕ) (counters : Counters) (qs : List Pending)
    → bytes_eq at child.id ≡ false → has_block (blocks_of qs) child.id ≡ false → end_from answer at counters (qs ++ new_pending child ∷ []) ≡ child.id
    → end_counters answer at counters (qs ++ new_pending child ∷ []) ≡ Blank
unfolding path_from end_counters
ends_blank answer child at counters [] away new ends =
    split_on (goes answer at counters (new_pending child))
    (λ t. rw t refl)
    (λ t. let e = rw t at ends in clash (bytes_eq at child.id) (id_same at child.id e) away)
ends_blank answer child at counters (q ∷ later) away new ends =
    let parts = or_parts (bytes_eq q.block.id child.id) (has_block (blocks_of later) child.id) new in
    split_on (goes answer at counters q)
    (λ t. let e = rw t at ends in rw t (ends_blank answer child q.block.id q.counters later parts.0 parts.1 e))
    (λ t. let e = rw t at ends in rw t (ends_blank answer child at counters later away parts.1 e))

-- ---- what is kept beside the board

-- the children of a block after an issue
children_after : (child : Header) (qs : List Pending) (id : List ℕ)
    → has_pending_child qs id ≡ false → bytes_eq child.parent id ≡ false → has_pending_child (pending_after child qs) id ≡ false
children_after child [] id none other = rw other refl
children_after child (q ∷ qs) id none other =
    let parts = or_parts (bytes_eq q.block.parent id) (has_pending_child qs id) none in
    rw parts.0 (children_after child qs id parts.1 other)

-- the pending children are those of the blocks
children_of : (qs : List Pending) (id : List ℕ) → has_pending_child qs id ≡ has_child (blocks_of qs) id
children_of [] id = refl
children_of (q ∷ qs) id = ap (λ t. bytes_eq q.block.parent id || t) (children_of qs id)

-- a block that comes after the others has no child
pub latest_alone : (board : Board) (child : Header) → MayIssue board child → IsGrown board.last (reverse (blocks_of board.pending))
    → has_pending_child (issued board child).pending child.id ≡ false
latest_alone board child may g =
    let blocks = blocks_of board.pending in
    let grew : IsGrown board.last (child ∷ reverse blocks) = subst (IsGrown board.last) (reversed_after child board.pending) (grown_issued board child may g) in
    let parts = or_parts (bytes_eq child.parent child.id) (has_child (reverse blocks) child.id) (latest_childless board.last child (reverse blocks) grew) in
    children_after child board.pending child.id (children_of board.pending child.id ∙ sym (reversed blocks child.id) ∙ parts.1) parts.0
  where
    swapped : (x y : Bool) → (x || (y || false)) ≡ (y || x)
    swapped true true = refl
    swapped true false = refl
    swapped false true = refl
    swapped false false = refl

    reversed : (blocks : List Header) (id : List ℕ) → has_child (reverse blocks) id ≡ has_child blocks id
    reversed [] id = refl
    reversed (b ∷ blocks) id =
        ap (λ l. has_child l id) (reverse-cons b blocks)
        ∙ list_any-append (λ b. bytes_eq b.parent id) (reverse blocks) (b ∷ [])
        ∙ ap (λ t. t || has_child (b ∷ []) id) (reversed blocks id)
        ∙ swapped (has_child blocks id) (bytes_eq b.parent id)

-- where nothing is pending the last accepted block is the top
pub leading_begun : (answer : Answer) (board : Board) → board.counters ≡ Blank → board.pending ≡ []
    → IsLeading answer board (record { block = board.last; is_top = true })
unfolding path_from end_counters
leading_begun answer board blank none =
    record {
      block = rw none refl;
      top = λ _. record { counters = rw (none, blank) refl; children = rw none refl };
    }

-- what is kept after an issue is the preference then
pub leading_issued : (answer : Answer) → ((b : Bool) → answer b b ≡ b) → (board : Board) (child : Header) (leading : Leading)
    → height_of board child.id ≡ None → has_pending_child (issued board child).pending child.id ≡ false → IsLeading answer board leading
    → IsLeading answer (issued board child) (leading_after answer leading (issued board child) child)
leading_issued answer agrees board child leading unknown alone is =
    let new = issued board child in
    let off = or_parts (bytes_eq board.last child.id) (has_block (reverse (blocks_of board.pending)) child.id) (unknown_off board child.id unknown) in
    let others : has_block (blocks_of (map (after_issue child) board.pending)) child.id ≡ false =
    ap (λ l. has_block l child.id) (blocks_after child board.pending) ∙ sym (has_block-reverse (blocks_of board.pending) child.id) ∙ off.1 in
    split_on (bytes_eq child.parent leading.block)
    (λ t.
    let here = same_id child.parent leading.block t ∙ is.block in
    split_on leading.is_top
    (λ s.
    let top = is.top s in
    let moved = ends_move answer agrees child board.last board.counters board.pending (sym here) top.counters (ap (has_pending_child board.pending) here ∙ top.children) in
    rw (t, s)
    (record { block = sym moved.0; top = λ _. record { counters = moved.1; children = ap (has_pending_child new.pending) moved.0 ∙ alone } }))
    (λ s. rw (t, s)
    (record {
      block = refl;
      top = λ e.
          let ends = same_id (preferred answer new) child.id e in
          record {
            counters = ends_blank answer child board.last new.counters (map (after_issue child) board.pending) off.0 others ends;
            children = ap (has_pending_child new.pending) ends ∙ alone;
          };
    })))
    (λ t.
    let other : bytes_eq child.parent (preferred answer board) ≡ false = ap (bytes_eq child.parent) (sym is.block) ∙ t in
    let stays = ends_stay answer child board.last board.counters board.pending (differs_back (preferred answer board) child.parent other) in
    rw t
    (record {
      block = is.block ∙ sym stays.0;
      top = λ s. record {
        counters = stays.1 ∙ (is.top s).counters;
        children = ap (has_pending_child new.pending) stays.0 ∙ children_after child board.pending (preferred answer board) (is.top s).children other;
      };
    }))
