-- Lemmas on the counters of a block on the board, after each step.
use Rattle.std.proofs.Common.{◌≡◌, Option, None, if◌then◌else◌, ℕ, Bool, true, false, not, ◌&&◌, List, [], ◌∷◌, ◌++◌, map, reverse, filter, find, bytes_eq, Some, refl, sym, ap, ◌∙◌, subst, append_assoc}
use mathlib.Core.List.{reverse-cons}
use Rattle.std.specs.Option.{option_map, option_map_or}
use Rattle.std.proofs.lemmas.List.{map-append, reverse-append}
use Rattle.std.proofs.lemmas.List.Folds.{list_any-append}
use Rattle.std.proofs.lemmas.Option.{none-some, same_Some}
use Rattle.std.proofs.lemmas.Bool.{or_parts, or_from, or_left, or_right, and_parts}
use Rattle.snow_base.specs.declared.block.Header.{Header}
use Rattle.snow_base.specs.declared.block.Vote.{Vote}
use Rattle.snow_base.specs.Model.Ancestry.{descends}
use Rattle.snow_flake.specs.Model.Parameters.{Parameters}
use Rattle.snow_board.specs.Model.Conflict.{Pending}
use Rattle.snow_board.specs.Model.Conflict.{Counters, Blank, all_polled, decides}
use Rattle.snow_board.specs.Model.Board.{Board, blocks_of, counters_on, height_of, with_issued, with_counters, new_pending, issued}
use Rattle.snow_board.specs.Model.Poll.{with_votes, counted, winner, promoted}
use Rattle.snow_board.specs.Kept.Grown.{has_block, is_on, IsGrown}
use Rattle.snow_board.proofs.Cases.{split_on, clash, same_id, id_itself}
use Rattle.snow_board.proofs.Grown.{grown_new, grown_before, not_last, has_block-reverse}
use Rattle.snow_board.proofs.Kept.{filter-reverse, blocks-filter, has_filtered}
use Rattle.snow_board.proofs.Settled.{wins}

-- the counters of the first of these blocks with an identifier; none where there is no such block
abbrev pub counters_in : List Pending → List ℕ → Counters
counters_in pending id = option_map_or (λ q. q.counters) (find (λ q. bytes_eq q.block.id id) pending) Blank

-- what isn't there has none
pub none_in : (pending : List Pending) (id : List ℕ) → has_block (blocks_of pending) id ≡ false → counters_in pending id ≡ Blank
none_in [] id h = refl
none_in (q ∷ pending) id h =
    let parts = or_parts (bytes_eq q.block.id id) (has_block (blocks_of pending) id) h in
    rw parts.0 (none_in pending id parts.1)

-- what isn't on the board has none
pub none_on : (board : Board) (id : List ℕ) → is_on board.last (blocks_of board.pending) id ≡ false → counters_on board id ≡ Blank
none_on board id h =
    let parts = or_parts (bytes_eq board.last id) (has_block (blocks_of board.pending) id) h in
    rw parts.0 (none_in board.pending id parts.1)

-- each block's counters change by themselves
changed_in : (change : List ℕ → Counters → Counters) (pending : List Pending) (id : List ℕ)
    → (has_block (blocks_of pending) id ≡ false → change id Blank ≡ Blank)
    → counters_in (map (with_counters change) pending) id ≡ change id (counters_in pending id)
changed_in change [] id h = sym (h refl)
changed_in change (q ∷ pending) id h =
    split_on (bytes_eq q.block.id id)
    (λ t. rw t (ap (λ i. change i q.counters) (same_id q.block.id id t)))
    (λ t. rw t (changed_in change pending id (λ none. h (or_from (bytes_eq q.block.id id) (has_block (blocks_of pending) id) t none))))

-- a block that is put behind brings no counters
added_in : (pending : List Pending) (child : Header) (id : List ℕ) → counters_in (pending ++ new_pending child ∷ []) id ≡ counters_in pending id
added_in [] child id = split_on (bytes_eq child.id id) (λ t. rw t refl) (λ t. rw t refl)
added_in (q ∷ pending) child id = split_on (bytes_eq q.block.id id) (λ t. rw t refl) (λ t. rw t (added_in pending child id))

-- after an issue
pub counters_issued : (board : Board) (child : Header) (id : List ℕ) → is_on board.last (blocks_of board.pending) child.parent ≡ true
    → counters_on (issued board child) id ≡ with_issued child id (counters_on board id)
counters_issued board child id on =
    split_on (bytes_eq board.last id)
    (λ t. rw t (ap (λ i. with_issued child i board.counters) (same_id board.last id t)))
    (λ t. rw t (added_in (map (with_counters (with_issued child)) board.pending) child id
    ∙ changed_in (with_issued child) board.pending id (λ none.
    split_on (bytes_eq id child.parent)
    (λ s. clash (is_on board.last (blocks_of board.pending) id)
    (ap (is_on board.last (blocks_of board.pending)) (same_id id child.parent s) ∙ on)
    (or_from (bytes_eq board.last id) (has_block (blocks_of board.pending) id) t none))
    (λ s. rw s refl))))

-- a poll makes no counters where there are none
polled_none : (p : Parameters) (blocks : List Header) (votes : List Vote) (id : List ℕ) → with_votes p blocks votes id Blank ≡ Blank
unfolding all_polled
polled_none p blocks votes id = refl

-- after the bit steps of a poll
pub counters_counted : (board : Board) (votes : List Vote) (id : List ℕ)
    → counters_on (counted board votes) id ≡ with_votes board.parameters (blocks_of board.pending) votes id (counters_on board id)
unfolding counted
counters_counted board votes id =
    let change = with_votes board.parameters (blocks_of board.pending) votes in
    split_on (bytes_eq board.last id)
    (λ t. rw t (ap (λ i. change i board.counters) (same_id board.last id t)))
    (λ t. rw t (changed_in change board.pending id (λ none. polled_none board.parameters (blocks_of board.pending) votes id)))

-- ---- the child that is accepted

-- a first element that passes a test, and the elements around it
pub record IsFound {X : Type 0} (test : X → Bool) (xs : List X) (x : X) : Type 0 where
  pub front : List X
  pub back : List X
  pub is : xs ≡ front ++ x ∷ back
  pub passes : test x ≡ true

pub found : {X : Type 0} (test : X → Bool) (xs : List X) (x : X) → find test xs ≡ Some x → IsFound test xs x
found test [] x h = absurd (none-some x h)
found test (y ∷ xs) x h =
    split_on (test y)
    (λ t. let k = rw t at h in
    let same : y ≡ x = same_Some y x k in
    record { front = []; back = xs; is = ap (λ z. z ∷ xs) same; passes = ap test (sym same) ∙ t })
    (λ t. let k = rw t at h in
    let rest = found test xs x k in
    record { front = y ∷ rest.front; back = rest.back; is = ap (λ l. y ∷ l) rest.is; passes = rest.passes })

-- the latest first, around one block
pub reversed_around : (front back : List Pending) (q : Pending) → reverse (blocks_of (front ++ q ∷ back)) ≡ reverse (blocks_of back) ++ q.block ∷ reverse (blocks_of front)
reversed_around front back q =
    ap reverse (map-append (λ q. q.block) front (q ∷ back))
    ∙ reverse-append (blocks_of front) (blocks_of (q ∷ back))
    ∙ ap (λ l. l ++ reverse (blocks_of front)) (reverse-cons q.block (blocks_of back))
    ∙ append_assoc (reverse (blocks_of back)) (q.block ∷ []) (reverse (blocks_of front))

-- the first of these blocks with an identifier
abbrev pub sought : List Pending → List ℕ → Option Pending
sought pending id = find (λ q. bytes_eq q.block.id id) pending

-- a block behind others
pub sought_behind : (front rest : List Pending) (id : List ℕ) → has_block (blocks_of front) id ≡ false → sought (front ++ rest) id ≡ sought rest id
sought_behind [] rest id h = refl
sought_behind (q ∷ front) rest id h =
    let parts = or_parts (bytes_eq q.block.id id) (has_block (blocks_of front) id) h in
    rw parts.0 (sought_behind front rest id parts.1)

-- what a winner is
pub record IsWinner (board : Board) (child : Pending) : Type 0 where
  pub later : List Header
  pub earlier : List Header
  pub is : reverse (blocks_of board.pending) ≡ later ++ child.block ∷ earlier
  pub parent : child.block.parent ≡ board.last
  pub decided : decides board.counters child.block.id ≡ true
  pub pending : has_block (blocks_of board.pending) child.block.id ≡ true
  pub above : bytes_eq board.last child.block.id ≡ false
  pub own : sought board.pending child.block.id ≡ Some child

pub won : (board : Board) (child : Pending) → IsGrown board.last (reverse (blocks_of board.pending)) → winner board ≡ Some child → IsWinner board child
unfolding winner
won board child g h =
    let place = found (wins board) board.pending child h in
    let whole : reverse (blocks_of board.pending) ≡ reverse (blocks_of place.back) ++ child.block ∷ reverse (blocks_of place.front) =
    ap (λ l. reverse (blocks_of l)) place.is ∙ reversed_around place.front place.back child
    in
    let here = grown_before board.last (reverse (blocks_of place.back)) (child.block ∷ reverse (blocks_of place.front)) (subst (IsGrown board.last) whole g) in
    let new = or_parts (bytes_eq board.last child.block.id) (has_block (reverse (blocks_of place.front)) child.block.id) (grown_new here) in
    let parts = and_parts (bytes_eq child.block.parent board.last) (decides board.counters child.block.id) place.passes in
    let none : has_block (blocks_of place.front) child.block.id ≡ false = sym (has_block-reverse (blocks_of place.front) child.block.id) ∙ new.1 in
    record {
      later = reverse (blocks_of place.back);
      earlier = reverse (blocks_of place.front);
      is = whole;
      parent = same_id child.block.parent board.last parts.0;
      decided = parts.1;
      pending =
          sym (has_block-reverse (blocks_of board.pending) child.block.id)
          ∙ ap (λ l. has_block l child.block.id) whole
          ∙ list_any-append (λ b. bytes_eq b.id child.block.id) (reverse (blocks_of place.back)) (child.block ∷ reverse (blocks_of place.front))
          ∙ or_right (has_block (reverse (blocks_of place.back)) child.block.id) (has_block (child.block ∷ reverse (blocks_of place.front)) child.block.id)
          (or_left (bytes_eq child.block.id child.block.id) (has_block (reverse (blocks_of place.front)) child.block.id) (id_itself child.block.id));
      above = new.0;
      own =
          ap (λ l. sought l child.block.id) place.is ∙ sought_behind place.front (child ∷ place.back) child.block.id none ∙ rw (id_itself child.block.id) refl;
    }

-- ---- after an acceptance

-- the blocks that stay are found as before
pub sought_filtered : (f : List ℕ → Bool) (pending : List Pending) (id : List ℕ) → f id ≡ true → sought (filter (λ q. f q.block.id) pending) id ≡ sought pending id
sought_filtered f [] id h = refl
sought_filtered f (q ∷ pending) id h =
    split_on (bytes_eq q.block.id id)
    (λ t. let here : f q.block.id ≡ true = ap f (same_id q.block.id id t) ∙ h in rw (here, t) refl)
    (λ t. split_on (f q.block.id)
    (λ s. rw (s, t) (sought_filtered f pending id h))
    (λ s. rw (s, t) (sought_filtered f pending id h)))

-- whether a pending block stays when the child is accepted
abbrev pub stays : Board → Pending → List ℕ → Bool
stays board child id = descends (blocks_of board.pending) child.block.id id && not (bytes_eq id child.block.id)

-- what is on the board after an acceptance is the child, or was pending and stays
pub on_promoted : (board : Board) (child : Pending) (id : List ℕ) → is_on (promoted board child).last (blocks_of (promoted board child).pending) id ≡ true
    → bytes_eq child.block.id id ≡ false → (has_block (blocks_of board.pending) id ≡ true) × (stays board child id ≡ true)
unfolding promoted
on_promoted board child id on other =
    let kept : has_block (blocks_of (filter (λ q. stays board child q.block.id) board.pending)) id ≡ true = rw other at on in
    and_parts (has_block (blocks_of board.pending) id) (stays board child id)
    (sym (ap (λ l. has_block l id) (blocks-filter (λ b. stays board child b.id) board.pending) ∙ has_filtered (stays board child) (blocks_of board.pending) id) ∙ kept)

-- the blocks after an acceptance, the latest first
pub reversed_promoted : (board : Board) (child : Pending)
    → reverse (blocks_of (promoted board child).pending) ≡ filter (λ b. stays board child b.id) (reverse (blocks_of board.pending))
unfolding promoted
reversed_promoted board child =
    ap reverse (blocks-filter (λ b. stays board child b.id) board.pending) ∙ sym (filter-reverse (λ b. stays board child b.id) (blocks_of board.pending))

-- the last accepted block isn't pending
pub last_not_pending : (board : Board) → IsGrown board.last (reverse (blocks_of board.pending)) → has_block (blocks_of board.pending) board.last ≡ false
last_not_pending board g = sym (has_block-reverse (blocks_of board.pending) board.last) ∙ not_last board.last (reverse (blocks_of board.pending)) g

-- what a block on the board has, from the last accepted one or from a pending one
abbrev pub shown_on : {X : Type 0} → Board → X → (Pending → X) → X → List ℕ → X
shown_on board of_last of_pending none id = if bytes_eq board.last id then of_last else option_map_or of_pending (sought board.pending id) none

-- what is on the board after an acceptance has what it had
shown_promoted : {X : Type 0} (of_pending : Pending → X) (of_last none : X) (board : Board) (child : Pending) (id : List ℕ)
    → IsGrown board.last (reverse (blocks_of board.pending)) → winner board ≡ Some child
    → is_on (promoted board child).last (blocks_of (promoted board child).pending) id ≡ true
    → shown_on (promoted board child) (of_pending child) of_pending none id ≡ shown_on board of_last of_pending none id
unfolding promoted
shown_promoted of_pending of_last none board child id g h on =
    let w = won board child g h in
    split_on (bytes_eq child.block.id id)
    (λ t.
    let here : shown_on board of_last of_pending none child.block.id ≡ of_pending child = rw (w.above, w.own) refl in
    rw t (sym here ∙ ap (shown_on board of_last of_pending none) (same_id child.block.id id t)))
    (λ t.
    let parts = on_promoted board child id on t in
    split_on (bytes_eq board.last id)
    (λ s. clash (has_block (blocks_of board.pending) id) parts.0
    (ap (has_block (blocks_of board.pending)) (sym (same_id board.last id s)) ∙ last_not_pending board g))
    (λ s. rw (t, s) (ap (λ o. option_map_or of_pending o none) (sought_filtered (stays board child) board.pending id parts.1))))

-- its counters
pub counters_promoted : (board : Board) (child : Pending) (id : List ℕ) → IsGrown board.last (reverse (blocks_of board.pending)) → winner board ≡ Some child
    → is_on (promoted board child).last (blocks_of (promoted board child).pending) id ≡ true
    → counters_on (promoted board child) id ≡ counters_on board id
unfolding promoted
counters_promoted board child id g h on = shown_promoted (λ q. q.counters) board.counters Blank board child id g h on

-- and its height
pub height_promoted : (board : Board) (child : Pending) (id : List ℕ) → IsGrown board.last (reverse (blocks_of board.pending)) → winner board ≡ Some child
    → is_on (promoted board child).last (blocks_of (promoted board child).pending) id ≡ true
    → height_of (promoted board child) id ≡ height_of board id
unfolding promoted
height_promoted board child id g h on =
    shown_height (promoted board child) id ∙ shown_promoted (λ q. Some q.block.height) (Some board.height) None board child id g h on ∙ sym (shown_height board id)
  where
    mapped : (o : Option Pending) → option_map (λ q. q.block.height) o ≡ option_map_or (λ q. Some q.block.height) o None
    mapped None = refl
    mapped (Some q) = refl

    shown_height : (board : Board) (id : List ℕ) → height_of board id ≡ shown_on board (Some board.height) (λ q. Some q.block.height) None id
    shown_height board id = ap (λ o. if bytes_eq board.last id then Some board.height else o) (mapped (sought board.pending id))
