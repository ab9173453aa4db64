-- Lemmas on the issue of a block: only its parent's counters change, and the blocks stay grown.
use Rattle.std.proofs.Common.{◌≡◌, ℕ, suc, ◌<◌, true, false, List, [], ◌∷◌, ◌++◌, length, get_or, set, take, drop, map, reverse, bytes_eq, Some, None, find, option_map, refl, sym, ap, ◌∙◌, take-append-drop, drop-cons}
use Rattle.std.proofs.lemmas.List.{map-append, set_split, reverse-append}
use Rattle.std.proofs.lemmas.Bool.{or_parts, or_from, or_left, or_right}
use Rattle.std.proofs.lemmas.Option.{none-some}
use Rattle.snow_base.specs.declared.block.Header.{Header}
use Rattle.snow_board.specs.Model.Conflict.{Pending}
use Rattle.snow_board.specs.Model.Board.{Board, blocks_of, with_counters, with_issued, new_pending, issued, height_of}
use Rattle.snow_base.specs.Model.Identifier.{bits}
use Rattle.snow_board.specs.Model.Conflict.{Counters, with_child}
use Rattle.snow_board.specs.Laws.Reached.{MayIssue}
use Rattle.snow_board.specs.Kept.Grown.{has_block, is_on, IsGrown, Grew}
use Rattle.snow_board.proofs.Cases.{split_on, same_id}
use Rattle.snow_board.proofs.Grown.{older, not_last, reversed_at, has_block-reverse}

-- a pending block after the issue of a child
abbrev pub after_issue : Header → Pending → Pending
after_issue child q = with_counters (with_issued child) q

-- blocks that aren't the parent stay as they are
pub none_issued : (child : Header) (pending : List Pending) → has_block (blocks_of pending) child.parent ≡ false → map (after_issue child) pending ≡ pending
none_issued child [] h = refl
none_issued child (q ∷ pending) h =
    let parts = or_parts (bytes_eq q.block.id child.parent) (has_block (blocks_of pending) child.parent) h in
    rw (parts.0, none_issued child pending parts.1) refl

-- the last accepted block's children change no pending block
pub last_issued : (last : List ℕ) (child : Header) (pending : List Pending) → IsGrown last (reverse (blocks_of pending)) → bytes_eq child.parent last ≡ true
    → map (after_issue child) pending ≡ pending
last_issued last child pending g h =
    none_issued child pending
    (ap (has_block (blocks_of pending)) (same_id child.parent last h)
    ∙ sym (has_block-reverse (blocks_of pending) last) ∙ not_last last (reverse (blocks_of pending)) g)

-- where a block is the parent, it alone changes
pub one_issued : (last : List ℕ) (child : Header) (pending : List Pending) (i : ℕ) (d : Pending) (counters : Counters)
    → IsGrown last (reverse (blocks_of pending)) → i < length pending
    → has_block (blocks_of (take i pending)) child.parent ≡ false → bytes_eq (get_or pending i d).block.id child.parent ≡ true
    → counters ≡ with_child (bits child.id) (get_or pending i d).counters
    → set pending i (record { block = (get_or pending i d).block; counters = counters }) ≡ map (after_issue child) pending
one_issued last child pending i d counters g h before is new =
    let front = take i pending in
    let back = drop (suc i) pending in
    let entry = get_or pending i d in
    let f : Pending → Pending = after_issue child in
    let whole : front ++ entry ∷ back ≡ pending = ap (λ l. front ++ l) (sym (drop-cons pending i d h)) ∙ take-append-drop i pending in
    let behind : has_block (blocks_of back) child.parent ≡ false =
    sym (has_block-reverse (blocks_of back) child.parent)
    ∙ older last (reverse (blocks_of back)) (entry.block ∷ reverse (blocks_of front)) child.parent
    (rw (← reversed_at pending i d h) g)
    (or_right (bytes_eq last child.parent) (has_block (entry.block ∷ reverse (blocks_of front)) child.parent) (or_left (bytes_eq entry.block.id child.parent) (has_block (reverse (blocks_of front)) child.parent) is))
    in
    let here : with_issued child entry.block.id entry.counters ≡ with_child (bits child.id) entry.counters = rw is refl in
    ap (λ n. set pending i (record { block = entry.block; counters = n })) (new ∙ sym here)
    ∙ set_split pending i (f entry) h
    ∙ ap (λ l. l ++ f entry ∷ back) (sym (none_issued child front before))
    ∙ ap (λ l. map f front ++ f entry ∷ l) (sym (none_issued child back behind))
    ∙ sym (map-append f front (entry ∷ back))
    ∙ ap (map f) whole

-- ---- the blocks stay grown

-- an issue changes counters alone, and puts the new block behind
pub blocks_after : (child : Header) (pending : List Pending) → blocks_of (map (after_issue child) pending) ≡ blocks_of pending
blocks_after child [] = refl
blocks_after child (q ∷ pending) = ap (λ l. q.block ∷ l) (blocks_after child pending)

-- the latest first after an issue
pub reversed_after : (child : Header) (pending : List Pending)
    → reverse (blocks_of (map (after_issue child) pending ++ new_pending child ∷ [])) ≡ child ∷ reverse (blocks_of pending)
reversed_after child pending =
    ap reverse (map-append (λ q. q.block) (map (after_issue child) pending) (new_pending child ∷ []))
    ∙ reverse-append (blocks_of (map (after_issue child) pending)) (child ∷ [])
    ∙ ap (λ l. child ∷ reverse l) (blocks_after child pending)

-- a pending block without a height isn't there
absent : (pending : List Pending) (id : List ℕ) → option_map (λ q. q.block.height) (find (λ q. bytes_eq q.block.id id) pending) ≡ None → has_block (blocks_of pending) id ≡ false
absent [] id h = refl
absent (q ∷ pending) id h =
    split_on (bytes_eq q.block.id id)
    (λ t. let k = rw t at h in absurd (none-some q.block.height (sym k)))
    (λ t. let k = rw t at h in rw t (absent pending id k))

-- a pending block with a height is there
present : (pending : List Pending) (id : List ℕ) (height : ℕ) → option_map (λ q. q.block.height) (find (λ q. bytes_eq q.block.id id) pending) ≡ Some height → has_block (blocks_of pending) id ≡ true
present [] id height h = absurd (none-some height h)
present (q ∷ pending) id height h =
    split_on (bytes_eq q.block.id id)
    (λ t. or_left (bytes_eq q.block.id id) (has_block (blocks_of pending) id) t)
    (λ t. let k = rw t at h in or_right (bytes_eq q.block.id id) (has_block (blocks_of pending) id) (present pending id height k))

-- what has no height isn't on the board
pub unknown_off : (board : Board) (id : List ℕ) → height_of board id ≡ None → is_on board.last (reverse (blocks_of board.pending)) id ≡ false
unknown_off board id h =
    split_on (bytes_eq board.last id)
    (λ t. let k = rw t at h in absurd (none-some board.height (sym k)))
    (λ t. let k = rw t at h in
    or_from (bytes_eq board.last id) (has_block (reverse (blocks_of board.pending)) id) t
    (has_block-reverse (blocks_of board.pending) id ∙ absent board.pending id k))

-- what has a height is on the board
known_on : (board : Board) (id : List ℕ) (height : ℕ) → height_of board id ≡ Some height → is_on board.last (reverse (blocks_of board.pending)) id ≡ true
known_on board id height h =
    split_on (bytes_eq board.last id)
    (λ t. or_left (bytes_eq board.last id) (has_block (reverse (blocks_of board.pending)) id) t)
    (λ t. let k = rw t at h in
    or_right (bytes_eq board.last id) (has_block (reverse (blocks_of board.pending)) id)
    (has_block-reverse (blocks_of board.pending) id ∙ present board.pending id height k))

-- a block that may be issued comes after its parent
pub grown_issued : (board : Board) (child : Header) → MayIssue board child → IsGrown board.last (reverse (blocks_of board.pending))
    → IsGrown board.last (reverse (blocks_of (issued board child).pending))
grown_issued board child may g =
    rw (reversed_after child board.pending)
    (Grew child (reverse (blocks_of board.pending)) (unknown_off board child.id may.unknown)
    (known_on board child.parent may.follows.0 may.follows.1) g)
