-- The pending blocks that a poll leaves: those that it doesn't decide, in the order in which they were.
use Rattle.std.proofs.Common.{◌≡◌, ℕ, Bool, true, false, not, ◌&&◌, ◌||◌, List, [], ◌∷◌, length, get_or, filter, bytes_eq, refl, sym, ap, ◌∙◌, subst}
use Rattle.std.specs.List.{list_any}
use Rattle.snow_base.specs.Model.Ancestry.{descends}
use Rattle.snow_base.specs.declared.block.Header.{Header}
use Rattle.snow_base.specs.declared.block.Vote.{Vote}
use Rattle.snow_board.specs.declared.board.Decision.{Decision}
use Rattle.snow_board.specs.Model.Conflict.{Pending}
use Rattle.snow_board.specs.Model.Board.{Board, blocks_of}
use Rattle.snow_board.specs.Model.Poll.{counted, promoted, poll}
use Rattle.snow_board.specs.Kept.Grown.{has_block}
use Rattle.snow_board.proofs.Cases.{split_on, same_id}
use Rattle.snow_board.proofs.Invariant.{reached_sound, settled_keeps, blocks_counted}
use Rattle.snow_board.proofs.Kept.{filter_on, blocks-filter, has_filtered, has_own}
use Rattle.snow_board.proofs.Lookup.{last_not_pending}
use Rattle.snow_chain.specs.Model.Chain.{Held}
use Rattle.snow_node.specs.Clauses.Matching.{IsSteady}
use Rattle.snow_node.specs.Model.Telling.{with_decision, with_decisions}
use Rattle.snow_node.proofs.Following.{holds, holds_without, turned, held_on}

-- ---- what is open on a chain

-- whether a state is held for a block other than the last accepted one
abbrev pub is_open : Held → List ℕ → Bool
is_open held id = holds held id && not (bytes_eq held.last id)

-- whether some decision is on this block
abbrev pub is_decided : List Decision → List ℕ → Bool
is_decided decisions id = list_any (λ d. bytes_eq d.id id) decisions

and_true : (t : Bool) → (t && true) ≡ t
and_true true = refl
and_true false = refl

and_false : (t : Bool) → (t && false) ≡ false
and_false true = refl
and_false false = refl

-- the pending blocks are open
pub open_on : (board : Board) (held : Held) → IsSteady board held → (id : List ℕ) → has_block (blocks_of board.pending) id ≡ is_open held id
open_on board held steady id =
    let blocks = blocks_of board.pending in
    let last : is_open held id ≡ (holds held id && not (bytes_eq board.last id)) = ap (λ l. holds held id && not (bytes_eq l id)) steady.matches.last in
    split_on (bytes_eq board.last id)
    (λ t. let none : has_block blocks id ≡ false =
    ap (has_block blocks) (sym (same_id board.last id t)) ∙ last_not_pending board (reached_sound board steady.reached).grown in
    none ∙ sym (last ∙ rw t (and_false (holds held id))))
    (λ t. sym (last ∙ rw t (and_true (holds held id) ∙ held_on board held steady.matches id ∙ rw t refl)))

-- a decision closes its block
one_told : (held : Held) (d : Decision) (id : List ℕ) → is_open (with_decision held d) id ≡ (is_open held id && not (bytes_eq d.id id))
one_told held d id =
    split_on d.accepted
    (λ t. rw t (ap (λ b. b && not (bytes_eq d.id id)) (holds_without held held.last id ∙ ap (λ b. not b && holds held id) (turned id held.last))
    ∙ ap (λ b. b && not (bytes_eq d.id id)) (swapped (not (bytes_eq held.last id)) (holds held id))))
    (λ t. rw t (ap (λ b. b && not (bytes_eq held.last id)) (holds_without held d.id id ∙ ap (λ b. not b && holds held id) (turned id d.id))
    ∙ moved (not (bytes_eq d.id id)) (holds held id) (not (bytes_eq held.last id))))
  where
    swapped : (a b : Bool) → (a && b) ≡ (b && a)
    swapped true true = refl
    swapped true false = refl
    swapped false true = refl
    swapped false false = refl

    moved : (a b c : Bool) → ((a && b) && c) ≡ ((b && c) && a)
    moved true true true = refl
    moved true true false = refl
    moved true false c = refl
    moved false true true = refl
    moved false true false = refl
    moved false false c = refl

-- decisions close theirs
pub all_told : (held : Held) (decisions : List Decision) (id : List ℕ) → is_open (with_decisions held decisions) id ≡ (is_open held id && not (is_decided decisions id))
all_told held [] id = sym (and_true (is_open held id))
all_told held (d ∷ decisions) id =
    all_told (with_decision held d) decisions id
    ∙ ap (λ b. b && not (is_decided decisions id)) (one_told held d id)
    ∙ joined (is_open held id) (bytes_eq d.id id) (is_decided decisions id)
  where
    joined : (a b c : Bool) → ((a && not b) && not c) ≡ (a && not (b || c))
    joined true true c = refl
    joined true false c = refl
    joined false b c = refl

-- ---- what a poll leaves

-- those pending blocks are left whose identifiers pass some test
record Leaves (before after : Board) : Type 0 where
  stays : List ℕ → Bool
  left : blocks_of after.pending ≡ filter (λ b. stays b.id) (blocks_of before.pending)

-- a test that all pass
all_pass : (blocks : List Header) → filter (λ b. true) blocks ≡ blocks
all_pass [] = refl
all_pass (b ∷ blocks) = ap (λ l. b ∷ l) (all_pass blocks)

-- one test behind another
both_tests : (f g : List ℕ → Bool) (blocks : List Header) → filter (λ b. g b.id) (filter (λ b. f b.id) blocks) ≡ filter (λ b. f b.id && g b.id) blocks
both_tests f g [] = refl
both_tests f g (b ∷ blocks) =
    split_on (f b.id)
    (λ t. split_on (g b.id)
    (λ u. rw (t, u) (ap (λ l. b ∷ l) (both_tests f g blocks)))
    (λ u. rw (t, u) (both_tests f g blocks)))
    (λ t. rw t (both_tests f g blocks))

-- an acceptance leaves the descendants of the child
promoted_leaves : (first board : Board) (child : Pending) → Leaves first board → Leaves first (promoted board child)
unfolding promoted
promoted_leaves first board child h =
    let under : List ℕ → Bool = λ id. descends (blocks_of board.pending) child.block.id id && not (bytes_eq id child.block.id) in
    record {
      stays = λ id. h.stays id && under id;
      left = blocks-filter (λ b. under b.id) board.pending ∙ ap (filter (λ b. under b.id)) h.left ∙ both_tests h.stays under (blocks_of first.pending);
    }

poll_leaves : (board : Board) (votes : List Vote) → Leaves board (poll board votes).0
unfolding poll
poll_leaves board votes =
    settled_keeps (Leaves board) (λ b child h won. promoted_leaves board b child h) (length board.pending) (counted board votes)
    (record { stays = λ id. true; left = blocks_counted board votes ∙ sym (all_pass (blocks_of board.pending)) })

-- they are those that aren't decided
pub undecided_left : (board now : Board) (held states : Held) (votes : List Vote) → IsSteady board held → IsSteady now states
    → now ≡ (poll board votes).0 → states ≡ with_decisions held (poll board votes).1
    → blocks_of now.pending ≡ filter (λ b. not (is_decided (poll board votes).1 b.id)) (blocks_of board.pending)
undecided_left board now held states votes steady then e f =
    let leaves = subst (Leaves board) (sym e) (poll_leaves board votes) in
    leaves.left ∙ filter_on (λ b. leaves.stays b.id) (λ b. not (is_decided (poll board votes).1 b.id)) (blocks_of board.pending) (λ k d h.
    agrees leaves (get_or (blocks_of board.pending) k d).id (has_own (blocks_of board.pending) k d h))
  where
    agrees : (leaves : Leaves board now) (id : List ℕ) → has_block (blocks_of board.pending) id ≡ true → leaves.stays id ≡ not (is_decided (poll board votes).1 id)
    agrees leaves id own =
        let blocks = blocks_of board.pending in
        let by_test : has_block (blocks_of now.pending) id ≡ leaves.stays id =
        ap (λ l. has_block l id) leaves.left ∙ has_filtered leaves.stays blocks id ∙ rw own refl in
        let by_chain : has_block (blocks_of now.pending) id ≡ not (is_decided (poll board votes).1 id) =
        open_on now states then id ∙ ap (λ (h : Held). is_open h id) f ∙ all_told held (poll board votes).1 id
        ∙ ap (λ b. b && not (is_decided (poll board votes).1 id)) (sym (open_on board held steady id)) ∙ rw own refl in
        sym by_test ∙ by_chain
