-- What a poll decides a chain can be told, and then its states follow the board again.
use Rattle.std.proofs.Common.{◌≡◌, ℕ, zero, suc, ◌≤◌, Bool, true, false, not, ◌&&◌, ◌||◌, List, [], ◌∷◌, ◌++◌, length, map, reverse, filter, Option, Some, None, bytes_eq, refl, sym, ap, ◌∙◌, subst, append_assoc}
use Rattle.std.proofs.lemmas.Bool.{or_parts, or_left, or_right, and_parts}
use Rattle.std.proofs.lemmas.List.Sums.{fold-append}
use Rattle.std.specs.List.{list_any}
use Rattle.snow_base.specs.declared.block.Header.{Header}
use Rattle.snow_base.specs.declared.block.Vote.{Vote}
use Rattle.snow_base.specs.Model.Votes.{total_count}
use Rattle.snow_base.specs.Model.Ancestry.{line_in, descends}
use Rattle.snow_board.specs.declared.board.Decision.{Decision}
use Rattle.snow_board.specs.Model.Conflict.{Pending}
use Rattle.snow_board.specs.Model.Board.{Board, blocks_of}
use Rattle.snow_board.specs.Model.Poll.{counted, winner, promoted, rejects, decisions_for, and_then, settled, poll}
use Rattle.snow_board.specs.Laws.Reached.{Polled}
use Rattle.snow_board.specs.Kept.Grown.{has_block, is_on, IsGrown}
use Rattle.snow_board.proofs.Cases.{split_on, clash, same_id, id_itself, differs_back}
use Rattle.snow_board.proofs.Grown.{older, has_block-reverse}
use Rattle.snow_board.proofs.Kept.{is_under, blocks-filter, has_filtered}
use Rattle.snow_board.proofs.Settled.{settled_done, settled_won}
use Rattle.snow_board.proofs.Invariant.{IsSound, sound_kept, reached_sound, blocks_counted}
use Rattle.snow_board.proofs.Lookup.{IsWinner, won, stays, reversed_around, last_not_pending}
use Rattle.snow_chain.specs.Model.Chain.{Held, accepted, rejected, MayAccept, MayReject}
use Rattle.snow_node.specs.Model.Telling.{with_decision, with_decisions}
use Rattle.snow_node.specs.Clauses.Matching.{Matches, IsSteady, MayFollow}
use Rattle.snow_node.proofs.Following.{holds, holds_without, turned, held_on, matching}

-- ---- blocks with different identifiers

-- no two of these blocks have one identifier
abbrev AreApart : List Header → Type 0
AreApart [] = Unit {0}
AreApart (b ∷ blocks) = (has_block blocks b.id ≡ false) × AreApart blocks

-- pending blocks are so
apart_behind : (last : List ℕ) (front back : List Pending) → IsGrown last (reverse (blocks_of (front ++ back))) → AreApart (blocks_of back)
apart_behind last front [] g = tt
apart_behind last front (q ∷ back) g =
    let later = reverse (blocks_of back) in
    let earlier = reverse (blocks_of front) in
    let id = q.block.id in
    let on : is_on last (q.block ∷ earlier) id ≡ true =
    or_right (bytes_eq last id) (has_block (q.block ∷ earlier) id) (or_left (bytes_eq id id) (has_block earlier id) (id_itself id))
    in
    let new = older last later (q.block ∷ earlier) id (subst (IsGrown last) (reversed_around front back q) g) on in (
      sym (has_block-reverse (blocks_of back) id) ∙ new,
      apart_behind last (front ++ q ∷ []) back (subst (λ l. IsGrown last (reverse (blocks_of l))) (sym (append_assoc front (q ∷ []) back)) g),
    )

-- and some of them
apart_filter : (f : List ℕ → Bool) (blocks : List Header) → AreApart blocks → AreApart (filter (λ b. f b.id) blocks)
apart_filter f [] apart = tt
apart_filter f (b ∷ blocks) apart =
    split_on (f b.id)
    (λ t. rw t (has_filtered f blocks b.id ∙ ap (λ h. h && f b.id) apart.0, apart_filter f blocks apart.1))
    (λ t. rw t (apart_filter f blocks apart.1))

-- a block is under itself
under_itself : (blocks : List Header) (id : List ℕ) → has_block blocks id ≡ true → is_under blocks id id ≡ true
under_itself [] id h = h
under_itself (b ∷ earlier) id h =
    split_on (bytes_eq b.id id)
    (λ t. rw t (or_left (bytes_eq b.id id) (list_any (λ b. bytes_eq b.id id) (line_in earlier b.parent)) t))
    (λ t. let k = rw t at h in rw t (under_itself earlier id k))

-- ---- rejections

-- the states of these blocks are gone, and all else is as before
record IsWithout (held after : Held) (gone : List Header) : Type 0 where
  pub last : after.last ≡ held.last
  pub each : (id : List ℕ) → holds after id ≡ (holds held id && not (has_block gone id))

-- a chain can be told that blocks are rejected whose states it holds, and of which none is the last accepted one
rejections_follow : (held : Held) (gone : List Pending) → AreApart (blocks_of gone) → has_block (blocks_of gone) held.last ≡ false
    → ((id : List ℕ) → has_block (blocks_of gone) id ≡ true → holds held id ≡ true)
    → MayFollow held (map rejects gone) × IsWithout held (with_decisions held (map rejects gone)) (blocks_of gone)
unfolding MayFollow
rejections_follow held [] apart other there = (tt, record { last = refl; each = λ id. sym (and_true (holds held id)) })
  where
    and_true : (t : Bool) → (t && true) ≡ t
    and_true true = refl
    and_true false = refl
rejections_follow held (q ∷ gone) apart other there =
    let id = q.block.id in
    let blocks = blocks_of gone in
    let parts = or_parts (bytes_eq id held.last) (has_block blocks held.last) other in
    let may : MayReject held id = record {
      known = there id (or_left (bytes_eq id id) (has_block blocks id) (id_itself id));
      other = differs_back held.last id parts.0;
    } in
    let next = rejected held id in
    let later : (other : List ℕ) → has_block blocks other ≡ true → holds next other ≡ true = λ other h.
    holds_without held id other
    ∙ split_on (bytes_eq other id)
    (λ t. clash (has_block blocks other) h (ap (has_block blocks) (same_id other id t) ∙ apart.0))
    (λ t. rw t (there other (or_right (bytes_eq id other) (has_block blocks other) h)))
    in
    let rest = rejections_follow next gone apart.1 parts.1 later in (
      (may, rest.0),
      record {
        last = rest.1.last;
        each = λ other.
            rest.1.each other
            ∙ ap (λ t. t && not (has_block blocks other)) (holds_without held id other ∙ ap (λ t. not t && holds held other) (turned other id))
            ∙ regrouped (bytes_eq id other) (holds held other) (has_block blocks other);
      },
    )
  where
    regrouped : (same held gone : Bool) → ((not same && held) && not gone) ≡ (held && not (same || gone))
    regrouped true true gone = refl
    regrouped true false gone = refl
    regrouped false true gone = refl
    regrouped false false gone = refl

-- ---- one acceptance

-- the pending blocks that an acceptance takes out: they don't descend from the child
abbrev goes : Board → Pending → List ℕ → Bool
goes board child id = not (descends (blocks_of board.pending) child.block.id id)

-- what is on the board after it: the pending blocks that don't go
on_promoted : (board : Board) (child : Pending) → IsWinner board child → (id : List ℕ)
    → (has_block (blocks_of board.pending) id && not (has_block (blocks_of board.pending) id && goes board child id))
    ≡ is_on (promoted board child).last (blocks_of (promoted board child).pending) id
unfolding promoted
on_promoted board child w id =
    let blocks = blocks_of board.pending in
    let kept : has_block (blocks_of (filter (λ q. stays board child q.block.id) board.pending)) id ≡ (has_block blocks id && stays board child id) =
    ap (λ l. has_block l id) (blocks-filter (λ b. stays board child b.id) board.pending) ∙ has_filtered (stays board child) blocks id
    in
    split_on (bytes_eq child.block.id id)
    (λ t. let same = same_id child.block.id id t in
    let here : has_block blocks id ≡ true = ap (has_block blocks) (sym same) ∙ w.pending in
    let own : descends blocks child.block.id id ≡ true =
    ap (descends blocks child.block.id) (sym same) ∙ under_itself (reverse blocks) child.block.id (has_block-reverse blocks child.block.id ∙ w.pending)
    in
    rw (t, here, own) refl)
    (λ t. rw (t, kept, differs_back id child.block.id t) (left (has_block blocks id) (descends blocks child.block.id id)))
  where
    left : (there under : Bool) → (there && not (there && not under)) ≡ (there && (under && true))
    left true true = refl
    left true false = refl
    left false true = refl
    left false false = refl

-- decisions can be told, and then the states are those of the board that came of them
abbrev Follows : Held → Board × List Decision → Type 0
Follows held after = MayFollow held after.1 × Matches after.0 (with_decisions held after.1)

-- the acceptance of the winner can be told, and then each rejection
acceptance_follows : (board : Board) (held : Held) (child : Pending) → IsSound board → Matches board held → winner board ≡ Some child
    → Follows held (promoted board child, decisions_for board child)
unfolding MayFollow decisions_for promoted
acceptance_follows board held child sound m e =
    let id = child.block.id in
    let blocks = blocks_of board.pending in
    let w = won board child sound.grown e in
    let may : MayAccept held id = record {
      known = held_on board held m id ∙ or_right (bytes_eq board.last id) (has_block blocks id) w.pending;
      other = ap (λ l. bytes_eq l id) m.last ∙ w.above;
      below = held_on board held m held.last ∙ or_left (bytes_eq board.last held.last) (has_block blocks held.last) (rw m.last (id_itself board.last));
    } in
    let next = accepted held id in
    let pending_held : (other : List ℕ) → holds next other ≡ has_block blocks other = λ other.
    holds_without held held.last other
    ∙ ap (λ t. not (bytes_eq other held.last) && t) (held_on board held m other)
    ∙ ap (λ l. not (bytes_eq other l) && is_on board.last blocks other) m.last
    ∙ split_on (bytes_eq board.last other)
    (λ t. let same = same_id board.last other t in
    let none : has_block blocks other ≡ false = ap (has_block blocks) (sym same) ∙ last_not_pending board sound.grown in
    let here : bytes_eq other board.last ≡ true = turned other board.last ∙ t in
    rw (here, none) refl)
    (λ t. let here : bytes_eq other board.last ≡ false = turned other board.last ∙ t in
    rw (here, t) refl)
    in
    let gone = filter (λ q. goes board child q.block.id) board.pending in
    let gone_blocks : blocks_of gone ≡ filter (λ b. goes board child b.id) blocks = blocks-filter (λ b. goes board child b.id) board.pending in
    let is_gone : (other : List ℕ) → has_block (blocks_of gone) other ≡ (has_block blocks other && goes board child other) = λ other.
    ap (λ l. has_block l other) gone_blocks ∙ has_filtered (goes board child) blocks other
    in
    let apart : AreApart (blocks_of gone) = subst AreApart (sym gone_blocks) (apart_filter (goes board child) blocks (apart_behind board.last [] board.pending sound.grown)) in
    let own : descends blocks id id ≡ true = under_itself (reverse blocks) id (has_block-reverse blocks id ∙ w.pending) in
    let stays : has_block (blocks_of gone) id ≡ false = is_gone id ∙ rw (w.pending, own) refl in
    let rest = rejections_follow next gone apart stays
    (λ other h. pending_held other ∙ (and_parts (has_block blocks other) (goes board child other) (sym (is_gone other) ∙ h)).0)
    in (
      (may, rest.0),
      matching (promoted board child) (with_decisions next (map rejects gone)) rest.1.last
          (λ other. rest.1.each other
          ∙ ap (λ t. t && not (has_block (blocks_of gone) other)) (pending_held other)
          ∙ ap (λ t. has_block blocks other && not t) (is_gone other)
          ∙ on_promoted board child w other),
    )

-- ---- acceptance while there is a winner

-- decisions can be told, and then those that follow
more_follow : (held : Held) (first later : List Decision) → MayFollow held first → MayFollow (with_decisions held first) later → MayFollow held (first ++ later)
unfolding MayFollow
more_follow held [] later may then = then
more_follow held (d ∷ first) later may then = (may.0, more_follow (with_decision held d) first later may.1 then)

then_follow : (held : Held) (board : Board) (first : List Decision) (after : Board × List Decision) → Follows held (board, first)
    → Follows (with_decisions held first) after → Follows held (and_then first after)
then_follow held board first after may then = (
  more_follow held first after.1 may.0 then.0,
  subst (Matches after.0) (sym (fold-append with_decision held first after.1)) then.1,
)

-- no decision can be told
none_follow : (board : Board) (held : Held) → Matches board held → Follows held (board, [])
unfolding MayFollow
none_follow board held m = (tt, m)

-- acceptances and their rejections can be told one after another
settled_follows : (n : ℕ) (board : Board) (held : Held) → IsSound board → Matches board held → Follows held (settled n board)
unfolding settled
settled_follows n board held sound m = by_winner n board held (winner board) refl sound m
  where
    by_winner : (n : ℕ) (board : Board) (held : Held) (o : Option Pending) → winner board ≡ o → IsSound board → Matches board held → Follows held (settled n board)
    by_winner n board held None e sound m = subst (Follows held) (sym (settled_done n board e)) (none_follow board held m)
    by_winner zero board held (Some child) e sound m = none_follow board held m
    by_winner (suc n) board held (Some child) e sound m =
        let first = acceptance_follows board held child sound m e in
        let next = promoted board child in
        let rest = by_winner n next (with_decisions held (decisions_for board child)) (winner next) refl (sound_kept.at_promotion board child sound e) first.1 in
        subst (Follows held) (sym (settled_won n board child e)) (then_follow held next (decisions_for board child) (settled n next) first rest)

-- ---- a poll

-- the bit steps leave the blocks as they are
counted_matches : (board : Board) (held : Held) (votes : List Vote) → Matches board held → Matches (counted board votes) held
unfolding counted
counted_matches board held votes m =
    matching (counted board votes) held m.last
    (λ id. held_on board held m id ∙ ap (λ l. is_on board.last l id) (sym (blocks_counted board votes)))

-- the chain can be told the decisions of a poll, and belongs to the board after it
pub poll_follows : (board : Board) (held : Held) (votes : List Vote) → IsSteady board held → total_count votes ≤ board.parameters.k
    → MayFollow held (poll board votes).1 × IsSteady (poll board votes).0 (with_decisions held (poll board votes).1)
unfolding poll
poll_follows board held votes steady few =
    let sound = sound_kept.at_count board votes (reached_sound board steady.reached) few in
    let follows = settled_follows (length board.pending) (counted board votes) held sound (counted_matches board held votes steady.matches) in (
      follows.0,
      record { reached = Polled board votes steady.reached few; matches = follows.1 },
    )
