-- Lemmas on what an acceptance takes out of the pending blocks, and how many decisions it makes.
use Rattle.std.proofs.Common.{◌≡◌, ℕ, zero, suc, ◌+◌, ◌<◌, ◌≤◌, Bool, true, false, not, ◌||◌, ◌&&◌, List, [], ◌∷◌, ◌++◌, length, get_or, take, drop, map, reverse, remove, filter, bytes_eq, All, refl, sym, ap, ◌∙◌, subst, arith, append_assoc, take-append-drop, drop-cons, slice_get, length-append}
use Rattle.std.proofs.lemmas.Option.{slice_get_read}
use Rattle.std.specs.List.{list_any}
use Rattle.std.proofs.lemmas.List.Elements.{filter-append}
use Rattle.std.proofs.lemmas.List.{length-map}
use Rattle.std.proofs.lemmas.Bool.{or_left, or_right}
use Rattle.snow_base.specs.declared.block.Header.{Header}
use Rattle.snow_base.specs.Model.Ancestry.{line_in, descends}
use Rattle.snow_board.specs.declared.board.Decision.{Decision}
use Rattle.snow_board.specs.Model.Conflict.{Pending}
use Rattle.snow_board.specs.Model.Board.{Board, blocks_of}
use Rattle.snow_board.specs.Model.Poll.{accepts, rejects, promoted, decisions_for}
use Rattle.snow_board.specs.Model.Acceptance.{outsiders, descendants, has_decision, Accepts}
use Rattle.snow_board.specs.Kept.Grown.{has_block}
use Rattle.snow_board.proofs.Cases.{split_on, same_id, id_same, id_itself, differs_back}
use Rattle.snow_board.proofs.Grown.{has_block-reverse}
use Rattle.snow_board.proofs.Kept.{filter_on, is_under}
use Rattle.snow_plain.proofs.Judged.{told_kept}

-- each pending block is among their blocks
pub has_pending : (pending : List Pending) → All (λ q. has_block (blocks_of pending) q.block.id ≡ true) pending
has_pending [] = λ k d h. absurd (omega arith)
has_pending (q ∷ pending) = λ k d h. elim k as (λ k. k < suc (length pending) → has_block (blocks_of (q ∷ pending)) (get_or (q ∷ pending) k d).block.id ≡ true) [
  | zero ↦ λ _. or_left (bytes_eq q.block.id q.block.id) (has_block (blocks_of pending) q.block.id) (id_itself q.block.id)
  | suc i ↦ λ l. or_right (bytes_eq q.block.id (get_or pending i d).block.id) (has_block (blocks_of pending) (get_or pending i d).block.id) (has_pending pending i d (omega arith))
] h

-- a block is under itself
under_itself : (blocks : List Header) (child : List ℕ) → has_block blocks child ≡ true → is_under blocks child child ≡ true
under_itself [] child h = h
under_itself (b ∷ earlier) child h =
    split_on (bytes_eq b.id child)
    (λ t. rw t (or_left (bytes_eq b.id child) (list_any (λ b. bytes_eq b.id child) (line_in earlier b.parent)) t))
    (λ t. let k = rw t at h in rw t (under_itself earlier child k))

-- a pending block descends from itself
pub own_descendant : (pending : List Pending) (at : ℕ) (d : Pending) → at < length pending
    → descends (blocks_of pending) (get_or pending at d).block.id (get_or pending at d).block.id ≡ true
own_descendant pending at d h =
    let id = (get_or pending at d).block.id in
    under_itself (reverse (blocks_of pending)) id (has_block-reverse (blocks_of pending) id ∙ has_pending pending at d h)

-- a filter keeps the same where an element that fails is removed
filter_removed : {X : Type 0} (p : X → Bool) (xs : List X) (at : ℕ) (d : X) → at < length xs → p (get_or xs at d) ≡ false → filter p (remove xs at) ≡ filter p xs
filter_removed p xs at d h fails =
    let behind = drop (suc at) xs in
    let none : filter p (get_or xs at d ∷ behind) ≡ filter p behind = rw fails refl in
    filter-append p (take at xs) behind
    ∙ ap (λ l. filter p (take at xs) ++ l) (sym none)
    ∙ sym (filter-append p (take at xs) (get_or xs at d ∷ behind))
    ∙ ap (λ l. filter p (take at xs ++ l)) (sym (drop-cons xs at d h))
    ∙ ap (filter p) (take-append-drop at xs)

-- the test of a block that stays: there is no decision on it
untold : (child : Pending) (pending : List Pending) (id : List ℕ) → has_block (blocks_of pending) id ≡ true
    → not (has_decision (accepts child ∷ map rejects (outsiders pending child.block.id)) id)
    ≡ (descends (blocks_of pending) child.block.id id && not (bytes_eq id child.block.id))
untold child pending id there =
    let stays : List ℕ → Bool = descends (blocks_of pending) child.block.id in
    ap (λ t. not (bytes_eq child.block.id id || t))
    (told_kept (λ i. not (stays i)) pending id ∙ ap (λ t. t && not (stays id)) there)
    ∙ ap (λ t. not (t || not (stays id))) (back child.block.id id)
    ∙ turned (bytes_eq id child.block.id) (stays id)
  where
    turned : (x y : Bool) → not (x || not y) ≡ (y && not x)
    turned true true = refl
    turned true false = refl
    turned false true = refl
    turned false false = refl

    back : (a b : List ℕ) → bytes_eq a b ≡ bytes_eq b a
    back a b = split_on (bytes_eq b a)
        (λ t. id_same a b (sym (same_id b a t)) ∙ sym t)
        (λ t. differs_back a b t ∙ sym t)

-- what is left are the descendants of the child
pub left_after : (pending : List Pending) (at : ℕ) (d child : Pending) → at < length pending → child ≡ get_or pending at d
    → filter (λ q. not (has_decision (accepts child ∷ map rejects (outsiders pending child.block.id)) q.block.id)) (remove pending at)
    ≡ descendants pending child.block.id
left_after pending at d child h is =
    let p : Pending → Bool = λ q. not (has_decision (accepts child ∷ map rejects (outsiders pending child.block.id)) q.block.id) in
    let own : p child ≡ false = rw (id_itself child.block.id) refl in
    filter_removed p pending at d h (ap p (sym is) ∙ own)
    ∙ filter_on p (λ q. descends (blocks_of pending) child.block.id q.block.id && not (bytes_eq q.block.id child.block.id)) pending
    (λ k e l. untold child pending (get_or pending k e).block.id (has_pending pending k e l))

-- ---- how many

-- no block both stays and goes
few : (f : List ℕ → Bool) (child : List ℕ) (pending : List Pending)
    → length (filter (λ q. f q.block.id && not (bytes_eq q.block.id child)) pending) + length (filter (λ q. not (f q.block.id)) pending) ≤ length pending
few f child [] = omega arith
few f child (q ∷ pending) =
    let rest = few f child pending in
    split_on (f q.block.id)
    (λ t. split_on (bytes_eq q.block.id child)
    (λ s. rw (t, s) (omega arith))
    (λ s. rw (t, s) (omega arith)))
    (λ t. rw t (omega arith))

-- and the child does neither
fewer : (f : List ℕ → Bool) (child : List ℕ) (pending : List Pending) → f child ≡ true → has_block (blocks_of pending) child ≡ true
    → length (filter (λ q. f q.block.id && not (bytes_eq q.block.id child)) pending) + length (filter (λ q. not (f q.block.id)) pending) < length pending
fewer f child [] own h = absurd cc
fewer f child (q ∷ pending) own h =
    split_on (bytes_eq q.block.id child)
    (λ s. let t : f q.block.id ≡ true = ap f (same_id q.block.id child s) ∙ own in
    let rest = few f child pending in
    rw (t, s) (omega arith))
    (λ s. let k = rw s at h in
    let rest = fewer f child pending own k in
    split_on (f q.block.id) (λ t. rw (t, s) (omega arith)) (λ t. rw t (omega arith)))

-- the descendants and the rejected ones are fewer than the pending blocks
pub fewer_left : (pending : List Pending) (at : ℕ) (child : Pending) → at < length pending → child ≡ get_or pending at child
    → length (descendants pending child.block.id) + length (outsiders pending child.block.id) < length pending
fewer_left pending at child h is =
    let id = (get_or pending at child).block.id in
    subst (λ (q : Pending). length (descendants pending q.block.id) + length (outsiders pending q.block.id) < length pending) (sym is)
    (fewer (descends (blocks_of pending) id) id pending (own_descendant pending at child h) (has_pending pending at child h))

-- ---- the acceptance of one block

-- the decisions behind those that there were, with the child's acceptance and then the rejections
pub told_all : (pending : List Pending) (child : Pending) (before accepted all : List Decision)
    → accepted ≡ before ++ accepts child ∷ [] → all ≡ accepted ++ map rejects (outsiders pending child.block.id)
    → all ≡ before ++ accepts child ∷ map rejects (outsiders pending child.block.id)
told_all pending child before accepted all first then =
    then ∙ ap (λ l. l ++ map rejects (outsiders pending child.block.id)) first
    ∙ append_assoc before (accepts child ∷ []) (map rejects (outsiders pending child.block.id))

-- an acceptance makes as many decisions, or fewer, as it takes blocks out
pub told_fewer : (pending : List Pending) (at : ℕ) (child : Pending) (before all : List Decision) → at < length pending → child ≡ get_or pending at child
    → all ≡ before ++ accepts child ∷ map rejects (outsiders pending child.block.id)
    → length all + length (descendants pending child.block.id) ≤ length before + length pending
told_fewer pending at child before all h is told =
    omega (arith, fewer_left pending at child h is, ap length told, length-append before (accepts child ∷ map rejects (outsiders pending child.block.id)), length-map (outsiders pending child.block.id) rejects)

-- the board after an acceptance
pub accepted : (old : Board) (at : ℕ) (child : Pending) (left : List Pending) (before after : List Decision)
    → at < length old.pending → child ≡ get_or old.pending at child → left ≡ descendants old.pending child.block.id
    → after ≡ before ++ accepts child ∷ map rejects (outsiders old.pending child.block.id)
    → Accepts (slice_get old.pending at) old (record old { last = child.block.id; height = child.block.height; counters = child.counters; pending = left }) before after true
unfolding promoted decisions_for
accepted old at child left before after h is kept told =
    rw (slice_get_read old.pending (length old.pending) at child refl h is)
    (refl, ap (λ l. record old { last = child.block.id; height = child.block.height; counters = child.counters; pending = l }) kept, told)
