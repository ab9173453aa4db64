-- Lemmas on how long the children of a block are pending: as long as the block is on the board.
use Rattle.std.proofs.Common.{◌≡◌, ℕ, ◌≤◌, true, List, [], ◌∷◌, ◌++◌, length, map, reverse, find, bytes_eq, Option, Some, None, is_some, option_map, refl, sym, ap, ◌∙◌}
use Rattle.std.proofs.lemmas.Option.{none-some, same_Some}
use Rattle.std.proofs.lemmas.Bool.{or_right}
use Rattle.snow_base.specs.declared.block.Vote.{Vote}
use Rattle.snow_base.specs.Model.Votes.{total_count}
use Rattle.snow_board.specs.Model.Conflict.{Pending}
use Rattle.snow_board.specs.Model.Conflict.{Counters}
use Rattle.snow_board.specs.Model.Board.{Board, blocks_of, parent_of, height_of, with_counters}
use Rattle.snow_board.specs.Model.Poll.{with_votes, counted, winner, promoted, settled, poll}
use Rattle.snow_board.specs.Laws.Reached.{Reached}
use Rattle.snow_board.specs.Kept.Grown.{has_block, is_on}
use Rattle.snow_board.proofs.Cases.{split_on, same_id}
use Rattle.snow_board.proofs.Invariant.{IsSound, sound_kept, reached_sound, settled_keeps}
use Rattle.snow_board.proofs.Lookup.{found, reversed_around, won, sought_filtered, stays, on_promoted}
use Rattle.snow_board.proofs.Standing.{child_stays}

-- what has a height is on the board
pub some_height : (board : Board) (id : List ℕ) → is_some (height_of board id) ≡ is_on board.last (blocks_of board.pending) id
some_height board id = split_on (bytes_eq board.last id) (λ t. rw t refl) (λ t. rw t (some_pending board.pending))
  where
    some_pending : (pending : List Pending) → is_some (option_map (λ q. q.block.height) (find (λ q. bytes_eq q.block.id id) pending)) ≡ has_block (blocks_of pending) id
    some_pending [] = refl
    some_pending (q ∷ pending) = split_on (bytes_eq q.block.id id) (λ t. rw t refl) (λ t. rw t (some_pending pending))

-- the parent of the first of these blocks with an identifier
abbrev pub parent_in : List Pending → List ℕ → Option (List ℕ)
parent_in pending id = option_map (λ q. q.block.parent) (find (λ q. bytes_eq q.block.id id) pending)

-- a change of counters leaves parents as they are
parents_changed : (change : List ℕ → Counters → Counters) (pending : List Pending) (id : List ℕ) → parent_in (map (with_counters change) pending) id ≡ parent_in pending id
parents_changed change [] id = refl
parents_changed change (q ∷ pending) id = split_on (bytes_eq q.block.id id) (λ t. rw t refl) (λ t. rw t (parents_changed change pending id))

-- so do the bit steps of a poll
parents_counted : (board : Board) (votes : List Vote) (id : List ℕ) → parent_of (counted board votes) id ≡ parent_of board id
unfolding counted
parents_counted board votes id = parents_changed (with_votes board.parameters (blocks_of board.pending) votes) board.pending id

-- the child of a block is pending if the block is on the board
abbrev IsChild : List ℕ → List ℕ → Board → Type 0
IsChild parent child board = is_on board.last (blocks_of board.pending) parent ≡ true → parent_of board child ≡ Some parent

-- a block with a parent is found
with_parent : (pending : List Pending) (id parent : List ℕ) → parent_in pending id ≡ Some parent
    → (q : Pending) × (find (λ q. bytes_eq q.block.id id) pending ≡ Some q) × (q.block.parent ≡ parent)
with_parent pending id parent h = of_option (find (λ q. bytes_eq q.block.id id) pending) refl h
  where
    of_option : (o : Option Pending) → find (λ q. bytes_eq q.block.id id) pending ≡ o → option_map (λ q. q.block.parent) o ≡ Some parent
        → (q : Pending) × (find (λ q. bytes_eq q.block.id id) pending ≡ Some q) × (q.block.parent ≡ parent)
    of_option None e h = absurd (none-some parent h)
    of_option (Some q) e h = (q, e, same_Some q.block.parent parent h)

-- what is on the board after an acceptance was there before
was_on : (board : Board) (accepted : Pending) (id : List ℕ) → IsSound board → winner board ≡ Some accepted
    → is_on (promoted board accepted).last (blocks_of (promoted board accepted).pending) id ≡ true → is_on board.last (blocks_of board.pending) id ≡ true
was_on board accepted id sound w on =
    or_right (bytes_eq board.last id) (has_block (blocks_of board.pending) id)
    (split_on (bytes_eq accepted.block.id id)
    (λ t. ap (has_block (blocks_of board.pending)) (sym (same_id accepted.block.id id t)) ∙ (won board accepted sound.grown w).pending)
    (λ t. (on_promoted board accepted id on t).0))

-- an acceptance leaves it so
child_kept : (parent child : List ℕ) (board : Board) (accepted : Pending) → IsSound board × IsChild parent child board → winner board ≡ Some accepted
    → IsSound (promoted board accepted) × IsChild parent child (promoted board accepted)
unfolding promoted
child_kept parent child board accepted h w = (
  sound_kept.at_promotion board accepted h.0 w,
  λ on.
      let q = with_parent board.pending child parent (h.1 (was_on board accepted parent h.0 w on)) in
      let place = found (λ q. bytes_eq q.block.id child) board.pending q.0 q.1 in
      let is : reverse (blocks_of board.pending) ≡ reverse (blocks_of place.back) ++ q.0.block ∷ reverse (blocks_of place.front) =
      ap (λ l. reverse (blocks_of l)) place.is ∙ reversed_around place.front place.back q.0
      in
      let here : stays board accepted child ≡ true =
      ap (stays board accepted) (sym (same_id q.0.block.id child place.passes))
      ∙ child_stays board accepted parent (reverse (blocks_of place.back)) q.0.block (reverse (blocks_of place.front)) h.0.grown (won board accepted h.0.grown w) on is q.2
      in
      ap (option_map (λ q. q.block.parent)) (sought_filtered (stays board accepted) board.pending child here) ∙ h.1 (was_on board accepted parent h.0 w on),
)

-- a child is pending as long as its parent is on the board
pub children_stay : (board : Board) (votes : List Vote) (parent child : List ℕ) → Reached board → total_count votes ≤ board.parameters.k
    → parent_of board child ≡ Some parent → is_some (height_of (poll board votes).0 parent) ≡ true
    → parent_of (poll board votes).0 child ≡ Some parent
unfolding poll
children_stay board votes parent child reached few h on =
    let before = counted board votes in
    let after = settled_keeps (λ b. IsSound b × IsChild parent child b) (child_kept parent child) (length board.pending) before
    (sound_kept.at_count board votes (reached_sound board reached) few, λ _. parents_counted board votes child ∙ h)
    in
    after.1 (sym (some_height (settled (length board.pending) before).0 parent) ∙ on)
