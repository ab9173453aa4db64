-- Lemmas on the blocks that stay after an acceptance: each still came after its parent.
use Rattle.std.proofs.Common.{◌≡◌, ℕ, zero, suc, ◌<◌, Bool, true, false, not, ◌&&◌, List, [], ◌∷◌, ◌++◌, length, get_or, reverse, filter, bytes_eq, All, refl, sym, ap, ◌∙◌, subst, arith, append-nil, true≢false}
use mathlib.Core.List.{reverse-cons}
use Rattle.std.specs.List.{list_any}
use Rattle.std.proofs.lemmas.List.Elements.{All-head, All-tail, filter-append}
use Rattle.std.proofs.lemmas.Bool.{or_parts, or_from, or_left, or_right, and_parts, not-true, true_from_ne_false}
use Rattle.snow_base.specs.declared.block.Header.{Header}
use Rattle.snow_base.specs.Model.Ancestry.{line_in}
use Rattle.snow_board.specs.Model.Conflict.{Pending}
use Rattle.snow_board.specs.Model.Board.{blocks_of}
use Rattle.snow_board.specs.Model.Acceptance.{descendants}
use Rattle.snow_board.specs.Kept.Grown.{has_block, is_on, IsGrown, Bare, Grew}
use Rattle.snow_board.proofs.Cases.{split_on, clash, same_id, id_itself, differs_back}
use Rattle.snow_board.proofs.Grown.{grown_new, grown_rest, no_line}

-- ---- filters

-- tests that agree on each element keep the same
pub filter_on : {X : Type 0} (p q : X → Bool) (xs : List X) → All (λ x. p x ≡ q x) xs → filter p xs ≡ filter q xs
filter_on p q [] h = refl
filter_on p q (x ∷ xs) h =
    rw (All-head (λ x. p x ≡ q x) x xs h, filter_on p q xs (All-tail (λ x. p x ≡ q x) x xs h)) refl

-- the order makes no difference to what a filter keeps
pub filter-reverse : {X : Type 0} (p : X → Bool) (xs : List X) → filter p (reverse xs) ≡ reverse (filter p xs)
filter-reverse p [] = refl
filter-reverse p (x ∷ xs) =
    ap (filter p) (reverse-cons x xs) ∙ filter-append p (reverse xs) (x ∷ [])
    ∙ split_on (p x)
    (λ t. rw t (ap (λ l. l ++ x ∷ []) (filter-reverse p xs) ∙ sym (reverse-cons x (filter p xs))))
    (λ t. rw t (append-nil (filter p (reverse xs)) ∙ filter-reverse p xs))

-- the blocks of the pending ones that a test keeps
pub blocks-filter : (p : Header → Bool) (pending : List Pending) → blocks_of (filter (λ q. p q.block) pending) ≡ filter p (blocks_of pending)
blocks-filter p [] = refl
blocks-filter p (q ∷ pending) =
    split_on (p q.block)
    (λ t. rw t (ap (λ l. q.block ∷ l) (blocks-filter p pending)))
    (λ t. rw t (blocks-filter p pending))

-- an identifier is among those kept where it was there and is kept
pub has_filtered : (f : List ℕ → Bool) (blocks : List Header) (id : List ℕ) → has_block (filter (λ b. f b.id) blocks) id ≡ (has_block blocks id && f id)
has_filtered f [] id = refl
has_filtered f (b ∷ blocks) id =
    split_on (bytes_eq b.id id)
    (λ t. split_on (f b.id)
    (λ s. rw (s, t) (sym (ap f (sym (same_id b.id id t)) ∙ s)))
    (λ s. rw (s, t) (has_filtered f blocks id ∙ off (has_block blocks id) (f id) (ap f (sym (same_id b.id id t)) ∙ s))))
    (λ t. split_on (f b.id)
    (λ s. rw (s, t) (has_filtered f blocks id))
    (λ s. rw (s, t) (has_filtered f blocks id)))
  where
    off : (x y : Bool) → y ≡ false → (x && y) ≡ y
    off true y h = refl
    off false y h = sym h

-- each block is among the blocks
pub has_own : (blocks : List Header) → All (λ b. has_block blocks b.id ≡ true) blocks
has_own [] = λ k d h. absurd (omega arith)
has_own (b ∷ blocks) = λ k d h. elim k as (λ k. k < suc (length blocks) → has_block (b ∷ blocks) (get_or (b ∷ blocks) k d).id ≡ true) [
  | zero ↦ λ _. or_left (bytes_eq b.id b.id) (has_block blocks b.id) (id_itself b.id)
  | suc i ↦ λ l. or_right (bytes_eq b.id (get_or blocks i d).id) (has_block blocks (get_or blocks i d).id) (has_own blocks i d (omega arith))
] h

-- ---- lines after an acceptance

-- whether a line passes by the child
abbrev pub is_under : List Header → List ℕ → List ℕ → Bool
is_under blocks child id = list_any (λ b. bytes_eq b.id child) (line_in blocks id)

-- what is under a child is a block
pub under_has : (blocks : List Header) (child id : List ℕ) → is_under blocks child id ≡ true → has_block blocks id ≡ true
under_has blocks child id h =
    true_from_ne_false (has_block blocks id)
    (λ none. true≢false (sym h ∙ ap (λ l. list_any (λ b. bytes_eq b.id child) l) (no_line blocks id none)))

-- the line of an earlier block passes by a new one
under_earlier : (last child : List ℕ) (b : Header) (earlier : List Header) (id : List ℕ) → IsGrown last (b ∷ earlier) → has_block earlier id ≡ true
    → is_under (b ∷ earlier) child id ≡ is_under earlier child id
under_earlier last child b earlier id g h =
    split_on (bytes_eq b.id id)
    (λ t. clash (has_block earlier b.id) (ap (has_block earlier) (same_id b.id id t) ∙ h) (or_parts (bytes_eq last b.id) (has_block earlier b.id) (grown_new g)).1)
    (λ t. rw t refl)

-- whether a block stays when the child is accepted
abbrev pub keeps : List Header → List ℕ → List ℕ → Bool
keeps blocks child id = is_under blocks child id && not (bytes_eq id child)

-- the earlier blocks that stay are the same without the latest block
keeps_earlier : (last child : List ℕ) (b : Header) (earlier : List Header) → IsGrown last (b ∷ earlier)
    → filter (λ e. keeps (b ∷ earlier) child e.id) earlier ≡ filter (λ e. keeps earlier child e.id) earlier
keeps_earlier last child b earlier g =
    filter_on (λ e. keeps (b ∷ earlier) child e.id) (λ e. keeps earlier child e.id) earlier
    (λ k d h. ap (λ t. t && not (bytes_eq (get_or earlier k d).id child))
    (under_earlier last child b earlier (get_or earlier k d).id g (has_own earlier k d h)))

-- the parent of a block that stays is the child or stays too
parent_kept : (child : List ℕ) (b : Header) (earlier : List Header) → is_under (b ∷ earlier) child b.id ≡ true → bytes_eq b.id child ≡ false
    → is_on child (filter (λ e. keeps earlier child e.id) earlier) b.parent ≡ true
parent_kept child b earlier under other =
    let kept = filter (λ e. keeps earlier child e.id) earlier in
    let above : is_under earlier child b.parent ≡ true = let k = rw (id_itself b.id) at under in rw other at k in
    split_on (bytes_eq child b.parent)
    (λ t. or_left (bytes_eq child b.parent) (has_block kept b.parent) t)
    (λ t. or_right (bytes_eq child b.parent) (has_block kept b.parent)
    (has_filtered (keeps earlier child) earlier b.parent
    ∙ rw (under_has earlier child b.parent above, above, differs_back b.parent child t) refl))

-- the blocks that stay above the child have still come after their parents
pub grown_kept : (last child : List ℕ) (blocks : List Header) → IsGrown last blocks → IsGrown child (filter (λ b. keeps blocks child b.id) blocks)
grown_kept last child [] g = Bare
grown_kept last child (b ∷ earlier) g =
    let rest : IsGrown child (filter (λ e. keeps (b ∷ earlier) child e.id) earlier) = rw (keeps_earlier last child b earlier g) (grown_kept last child earlier (grown_rest g)) in
    split_on (keeps (b ∷ earlier) child b.id)
    (λ t.
    let parts = and_parts (is_under (b ∷ earlier) child b.id) (not (bytes_eq b.id child)) t in
    let other : bytes_eq b.id child ≡ false = not-true (bytes_eq b.id child) parts.1 in
    let none : has_block earlier b.id ≡ false = (or_parts (bytes_eq last b.id) (has_block earlier b.id) (grown_new g)).1 in
    let kept = filter (λ e. keeps (b ∷ earlier) child e.id) earlier in
    let new : is_on child kept b.id ≡ false =
    or_from (bytes_eq child b.id) (has_block kept b.id) (differs_back child b.id other)
    (has_filtered (keeps (b ∷ earlier) child) earlier b.id ∙ rw none refl)
    in
    let parent : is_on child kept b.parent ≡ true =
    ap (λ l. is_on child l b.parent) (keeps_earlier last child b earlier g) ∙ parent_kept child b earlier parts.0 other
    in
    rw t (Grew b kept new parent rest))
    (λ t. rw t rest)

-- the pending blocks that descend from the child, the latest first
pub descendants_grown : (last child : List ℕ) (pending : List Pending) → IsGrown last (reverse (blocks_of pending))
    → IsGrown child (reverse (blocks_of (descendants pending child)))
descendants_grown last child pending g =
    let blocks = blocks_of pending in
    let e : filter (λ b. keeps (reverse blocks) child b.id) (reverse blocks) ≡ reverse (blocks_of (descendants pending child)) =
    filter-reverse (λ b. keeps (reverse blocks) child b.id) blocks
    ∙ ap reverse (sym (blocks-filter (λ b. keeps (reverse blocks) child b.id) pending))
    in
    subst (IsGrown child) e (grown_kept last child (reverse blocks) g)
