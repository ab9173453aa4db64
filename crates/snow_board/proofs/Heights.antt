-- Lemmas on heights: each block is one above its parent, so a line has one block of each height.
use Rattle.std.proofs.Common.{◌≡◌, ℕ, ◌+◌, ◌≤◌, Bool, true, List, [], ◌∷◌, ◌++◌, map, reverse, filter, bytes_eq, Option, Some, option_map, if◌then◌else◌, refl, sym, ap, ◌∙◌, subst, arith}
use Rattle.std.proofs.lemmas.Option.{none-some, same_Some}
use Rattle.std.proofs.lemmas.Bool.{or_parts, or_left, or_right}
use Rattle.snow_base.specs.declared.block.Header.{Header}
use Rattle.snow_base.specs.declared.block.Vote.{Vote}
use Rattle.snow_base.specs.Model.Votes.{total_count}
use Rattle.snow_base.specs.Model.Ancestry.{descends}
use Rattle.snow_board.specs.Model.Conflict.{Pending}
use Rattle.snow_board.specs.Model.Conflict.{Counters}
use Rattle.snow_board.specs.Model.Board.{Board, blocks_of, height_of, with_counters, with_issued, new_pending, issued}
use Rattle.snow_board.specs.Model.Poll.{with_votes, counted, winner, promoted}
use Rattle.snow_board.specs.Laws.Reached.{MayIssue, Reached}
use Rattle.snow_board.specs.Kept.Grown.{has_block, is_on, IsGrown}
use Rattle.snow_board.specs.Laws.QuorumLaw.{votes_with}
use Rattle.snow_board.proofs.Cases.{split_on, clash, same_id, id_same, id_itself}
use Rattle.snow_board.proofs.Grown.{grown_parent, grown_rest, on_more}
use Rattle.snow_board.proofs.Kept.{is_under}
use Rattle.snow_board.proofs.Invariant.{IsSound, IsKeptOver, sound_kept, both_kept, reached_keeps, blocks_changed, blocks_counted, reversed_issued, on-reverse, issued_new}
use Rattle.snow_board.proofs.Lookup.{sought, sought_behind, stays, reversed_promoted, height_promoted}
use Rattle.snow_board.proofs.Below.{counted_apart}

-- a block is one above its parent
record IsAbove (height : List ℕ → Option ℕ) (b : Header) : Type 0 where
  pub below : ℕ
  pub parent : height b.parent ≡ Some below
  pub own : height b.id ≡ Some (below + 1)

-- each of these blocks is
abbrev AreStacked : (List ℕ → Option ℕ) → List Header → Type 0
AreStacked height [] = Unit {0}
AreStacked height (b ∷ earlier) = IsAbove height b × AreStacked height earlier

-- ---- heights on a line

-- a block on the line of another is no higher
under_lower : (height : List ℕ → Option ℕ) (blocks : List Header) (a id : List ℕ) (h : ℕ) → AreStacked height blocks → is_under blocks a id ≡ true → height id ≡ Some h
    → (k : ℕ) × (height a ≡ Some k) × (k ≤ h)
under_lower height [] a id h stacked under is = cc
under_lower height (b ∷ earlier) a id h stacked under is =
    split_on (bytes_eq b.id id)
    (λ t. let k = rw t at under in
    let same : stacked.0.below + 1 ≡ h = same_Some (stacked.0.below + 1) h (sym stacked.0.own ∙ ap height (same_id b.id id t) ∙ is) in
    split_on (bytes_eq b.id a)
    (λ s. (h, ap height (sym (same_id b.id a s) ∙ same_id b.id id t) ∙ is, omega arith))
    (λ s. let m = rw s at k in
    let rest = under_lower height earlier a b.parent stacked.0.below stacked.1 m stacked.0.parent in
    let less : rest.0 ≤ h = omega (arith, rest.2) in
    (rest.0, rest.1, less)))
    (λ t. let k = rw t at under in under_lower height earlier a id h stacked.1 k is)

-- a block that another's parent descends from is lower than that one
parent_lower : (height : List ℕ → Option ℕ) (b : Header) (earlier : List Header) (a : List ℕ) (h : ℕ) → IsAbove height b → AreStacked height earlier
    → is_under earlier a b.parent ≡ true → height a ≡ Some h → height b.id ≡ Some h → ⊥
parent_lower height b earlier a h above stacked under is own =
    let low = under_lower height earlier a b.parent above.below stacked under above.parent in
    let first : low.0 ≡ h = same_Some low.0 h (sym low.1 ∙ is) in
    let second : above.below + 1 ≡ h = same_Some (above.below + 1) h (sym above.own ∙ own) in
    absurd (omega (arith, low.2))

-- two blocks of one height on one line are one
one_height : (height : List ℕ → Option ℕ) (blocks : List Header) (a b id : List ℕ) (h : ℕ) → AreStacked height blocks
    → is_under blocks a id ≡ true → is_under blocks b id ≡ true → height a ≡ Some h → height b ≡ Some h → a ≡ b
one_height height [] a b id h stacked on_a on_b is_a is_b = cc
one_height height (c ∷ earlier) a b id h stacked on_a on_b is_a is_b =
    split_on (bytes_eq c.id id)
    (λ t. let k = rw t at on_a in
    let m = rw t at on_b in
    split_on (bytes_eq c.id a)
    (λ s. split_on (bytes_eq c.id b)
    (λ u. sym (same_id c.id a s) ∙ same_id c.id b u)
    (λ u. let n = rw u at m in absurd (parent_lower height c earlier b h stacked.0 stacked.1 n is_b (ap height (same_id c.id a s) ∙ is_a))))
    (λ s. let l = rw s at k in
    split_on (bytes_eq c.id b)
    (λ u. absurd (parent_lower height c earlier a h stacked.0 stacked.1 l is_a (ap height (same_id c.id b u) ∙ is_b)))
    (λ u. let n = rw u at m in one_height height earlier a b c.parent h stacked.1 l n is_a is_b)))
    (λ t. let k = rw t at on_a in
    let m = rw t at on_b in
    one_height height earlier a b id h stacked.1 k m is_a is_b)

-- ---- the steps of a board

-- heights that stay where they were known
stacked_more : (old new : List ℕ → Option ℕ) (blocks : List Header) → ((id : List ℕ) (h : ℕ) → old id ≡ Some h → new id ≡ Some h) → AreStacked old blocks → AreStacked new blocks
stacked_more old new [] stays stacked = tt
stacked_more old new (b ∷ earlier) stays stacked = (
  record { below = stacked.0.below; parent = stays b.parent stacked.0.below stacked.0.parent; own = stays b.id (stacked.0.below + 1) stacked.0.own },
  stacked_more old new earlier stays stacked.1,
)

-- heights that stay on the board
stacked_on : (last : List ℕ) (old new : List ℕ → Option ℕ) (blocks : List Header) → IsGrown last blocks
    → ((id : List ℕ) → is_on last blocks id ≡ true → new id ≡ old id) → AreStacked old blocks → AreStacked new blocks
stacked_on last old new [] g same stacked = tt
stacked_on last old new (b ∷ earlier) g same stacked =
    let parent_on = on_more last (b ∷ []) earlier b.parent (grown_parent g) in
    let own_on = or_right (bytes_eq last b.id) (has_block (b ∷ earlier) b.id) (or_left (bytes_eq b.id b.id) (has_block earlier b.id) (id_itself b.id)) in (
      record { below = stacked.0.below; parent = same b.parent parent_on ∙ stacked.0.parent; own = same b.id own_on ∙ stacked.0.own },
      stacked_on last old new earlier (grown_rest g) (λ id on. same id (on_more last (b ∷ []) earlier id on)) stacked.1,
    )

-- some of the blocks
stacked_filter : (height : List ℕ → Option ℕ) (f : Header → Bool) (blocks : List Header) → AreStacked height blocks → AreStacked height (filter f blocks)
stacked_filter height f [] stacked = tt
stacked_filter height f (b ∷ earlier) stacked =
    split_on (f b)
    (λ t. rw t (stacked.0, stacked_filter height f earlier stacked.1))
    (λ t. rw t (stacked_filter height f earlier stacked.1))

-- the blocks of a board
abbrev HasHeights : Board → Type 0
HasHeights board = AreStacked (height_of board) (reverse (blocks_of board.pending))

-- the height of a pending block
abbrev height_in : List Pending → List ℕ → Option ℕ
height_in pending id = option_map (λ q. q.block.height) (sought pending id)

-- a change of counters leaves it
heights_changed : (change : List ℕ → Counters → Counters) (pending : List Pending) (id : List ℕ) → height_in (map (with_counters change) pending) id ≡ height_in pending id
heights_changed change [] id = refl
heights_changed change (q ∷ pending) id = split_on (bytes_eq q.block.id id) (λ t. rw t refl) (λ t. rw t (heights_changed change pending id))

-- blocks behind leave it
heights_front : (pending more : List Pending) (id : List ℕ) (h : ℕ) → height_in pending id ≡ Some h → height_in (pending ++ more) id ≡ Some h
heights_front [] more id h e = absurd (none-some h e)
heights_front (q ∷ pending) more id h e =
    split_on (bytes_eq q.block.id id)
    (λ t. let k = rw t at e in rw t k)
    (λ t. let k = rw t at e in rw t (heights_front pending more id h k))

-- so does an issue
height_issued : (board : Board) (child : Header) (id : List ℕ) (h : ℕ) → height_of board id ≡ Some h → height_of (issued board child) id ≡ Some h
height_issued board child id h e =
    split_on (bytes_eq board.last id)
    (λ t. let k = rw t at e in rw t k)
    (λ t. let k = rw t at e in
    rw t (heights_front (map (with_counters (with_issued child)) board.pending) (new_pending child ∷ []) id h (heights_changed (with_issued child) board.pending id ∙ k)))

-- the child has its own
height_new : (board : Board) (child : Header) → IsSound board → MayIssue board child → height_of (issued board child) child.id ≡ Some child.height
height_new board child sound may =
    let before = map (with_counters (with_issued child)) board.pending in
    let parts = or_parts (bytes_eq board.last child.id) (has_block (blocks_of board.pending) child.id) (issued_new board child sound may) in
    let new : sought (before ++ new_pending child ∷ []) child.id ≡ Some (new_pending child) =
    sought_behind before (new_pending child ∷ []) child.id (ap (λ l. has_block l child.id) (blocks_changed (with_issued child) board.pending) ∙ parts.1)
    ∙ rw (id_itself child.id) refl
    in
    rw parts.0 (ap (option_map (λ q. q.block.height)) new)

-- an issue keeps them
heights_issued : (board : Board) (child : Header) → IsSound board → HasHeights board → MayIssue board child → HasHeights (issued board child)
heights_issued board child sound stacked may =
    subst (AreStacked (height_of (issued board child))) (sym (reversed_issued board child)) (
      record {
        below = may.follows.0;
        parent = height_issued board child child.parent may.follows.0 may.follows.1;
        own = height_new board child sound may ∙ ap Some may.follows.2;
      },
      stacked_more (height_of board) (height_of (issued board child)) (reverse (blocks_of board.pending)) (height_issued board child) stacked,
    )

-- the bit steps of a poll leave them
height_counted : (board : Board) (votes : List Vote) (id : List ℕ) → height_of (counted board votes) id ≡ height_of board id
unfolding counted
height_counted board votes id =
    ap (λ o. if bytes_eq board.last id then Some board.height else o) (heights_changed (with_votes board.parameters (blocks_of board.pending) votes) board.pending id)

heights_counted : (board : Board) (votes : List Vote) → HasHeights board → HasHeights (counted board votes)
heights_counted board votes stacked =
    subst (λ l. AreStacked (height_of (counted board votes)) (reverse l)) (sym (blocks_counted board votes))
    (stacked_more (height_of board) (height_of (counted board votes)) (reverse (blocks_of board.pending)) (λ id h e. height_counted board votes id ∙ e) stacked)

-- an acceptance keeps them
heights_promoted : (board : Board) (child : Pending) → IsSound board → HasHeights board → winner board ≡ Some child → HasHeights (promoted board child)
heights_promoted board child sound stacked w =
    let new = promoted board child in
    stacked_on new.last (height_of board) (height_of new) (reverse (blocks_of new.pending)) (sound_kept.at_promotion board child sound w).grown
    (λ id on. height_promoted board child id sound.grown w (sym (on-reverse new.last (blocks_of new.pending) id) ∙ on))
    (subst (AreStacked (height_of board)) (sym (reversed_promoted board child))
    (stacked_filter (height_of board) (λ b. stays board child b.id) (reverse (blocks_of board.pending)) stacked))

-- every step keeps them
heights_kept : IsKeptOver IsSound HasHeights
heights_kept = record {
  at_begin = λ p last height good. tt;
  at_issue = heights_issued;
  at_count = λ board votes sound stacked few. heights_counted board votes stacked;
  at_promotion = heights_promoted;
}

-- ---- the law

-- two blocks of one height with a quorum each are one
pub one_quorum : (board : Board) (votes : List Vote) (a b : List ℕ) (height : ℕ) → Reached board → total_count votes ≤ board.parameters.k
    → height_of board a ≡ Some height → height_of board b ≡ Some height
    → board.parameters.alpha_preference ≤ votes_with (blocks_of board.pending) votes a
    → board.parameters.alpha_preference ≤ votes_with (blocks_of board.pending) votes b
    → a ≡ b
one_quorum board votes a b height reached few at_a at_b votes_a votes_b =
    let base = reached_keeps (λ board. IsSound board × HasHeights board) (both_kept IsSound HasHeights sound_kept heights_kept) board reached in
    split_on (bytes_eq a b)
    (λ t. same_id a b t)
    (λ t.
    let apart = counted_apart (λ v. descends (blocks_of board.pending) a v.id) (λ v. descends (blocks_of board.pending) b v.id) votes
    (λ v on_a. split_on (descends (blocks_of board.pending) b v.id)
    (λ on_b. clash (bytes_eq a b) (id_same a b (one_height (height_of board) (reverse (blocks_of board.pending)) a b v.id height base.1 on_a on_b at_a at_b)) t)
    (λ off. off))
    in
    absurd (omega (arith, apart, base.0.good.majority)))
