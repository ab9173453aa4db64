-- Lemmas on the walk over the pending blocks, the latest first, in which each takes the bit step.
use Rattle.std.proofs.Common.{◌≡◌, ℕ, suc, ◌+◌, ◌<◌, List, [], ◌∷◌, ◌++◌, length, get_or, set, take, drop, map, sum_by, All, refl, sym, ap, ◌∙◌, arith, append_assoc, append-nil, map-id, take_all, drop-cons, length-take-le, add-one}
use Rattle.std.proofs.lemmas.List.{drop_all, set_at, get_or_at, take_more}
use Rattle.std.proofs.lemmas.List.Elements.{All-map}
use Rattle.std.proofs.lemmas.List.Folds.{fold-map}
use Rattle.snow_base.specs.declared.block.Header.{Header}
use Rattle.snow_base.specs.declared.block.Vote.{Vote}
use Rattle.snow_flake.specs.Model.Parameters.{Parameters}
use Rattle.snow_board.specs.declared.cursor.Cursor.{Cursor}
use Rattle.snow_board.specs.Model.Conflict.{Pending}
use Rattle.snow_board.specs.Model.Conflict.{Counters, all_polled}
use Rattle.snow_board.specs.Model.Board.{blocks_of}
use Rattle.snow_board.specs.Kept.Cursors.{started, moved, moved_past, votes_at, cursor_total, polled}
use Rattle.snow_plain.proofs.Climbed.{count_kept}

-- nothing has taken the step yet
pub swept_none : (p : Parameters) (cursors : List Cursor) (pending : List Pending)
    → pending ≡ take (length pending) pending ++ polled p cursors (drop (length pending) pending)
unfolding polled
swept_none p cursors pending =
    sym (append-nil pending)
    ∙ ap (λ l. l ++ []) (sym (take_all (length pending) pending (omega arith)))
    ∙ ap (λ l. take (length pending) pending ++ polled p cursors l) (sym (drop_all (length pending) pending (omega arith)))

-- and no vote has moved
pub unmoved : (cursors : List Cursor) (pending : List Pending) → cursors ≡ map (moved_past (blocks_of (drop (length pending) pending))) cursors
unmoved cursors pending =
    sym (map-id cursors) ∙ ap (λ l. map (moved_past (blocks_of l)) cursors) (sym (drop_all (length pending) pending (omega arith)))

-- the votes after one more block
pub moved_more : (cursors now : List Cursor) (pending : List Pending) (m : ℕ) (d : Pending) → m < length pending
    → now ≡ map (moved_past (blocks_of (drop (suc m) pending))) cursors
    → map (moved (get_or pending m d).block) now ≡ map (moved_past (blocks_of (drop m pending))) cursors
moved_more cursors now pending m d h is =
    ap (map (moved (get_or pending m d).block)) is
    ∙ twice cursors
    ∙ ap (λ l. map (moved_past (blocks_of l)) cursors) (sym (drop-cons pending m d h))
  where
    twice : (cs : List Cursor) → map (moved (get_or pending m d).block) (map (moved_past (blocks_of (drop (suc m) pending))) cs)
        ≡ map (moved_past ((get_or pending m d).block ∷ blocks_of (drop (suc m) pending))) cs
    twice [] = refl
    twice (c ∷ cs) = ap (λ l. moved_past ((get_or pending m d).block ∷ blocks_of (drop (suc m) pending)) c ∷ l) (twice cs)

-- the block before those that took the step is as it was
pub next_is : (p : Parameters) (cursors : List Cursor) (old now : List Pending) (m : ℕ) (d : Pending) → m < length old
    → now ≡ take (suc m) old ++ polled p cursors (drop (suc m) old) → get_or now m d ≡ get_or old m d
next_is p cursors old now m d h is =
    let front = take m old in
    let whole : now ≡ front ++ get_or old m d ∷ polled p cursors (drop (suc m) old) =
    is ∙ ap (λ l. l ++ polled p cursors (drop (suc m) old)) (rw (← add-one) (take_more old m d h))
    ∙ append_assoc front (get_or old m d ∷ []) (polled p cursors (drop (suc m) old))
    in
    ap (λ l. get_or l m d) whole ∙ get_or_at front (get_or old m d) (polled p cursors (drop (suc m) old)) d m (length-take-le m old (omega arith))

-- the pending blocks after one more step
pub swept_more : (p : Parameters) (cursors cs : List Cursor) (old now : List Pending) (m : ℕ) (d : Pending) (counters : Counters) → m < length old
    → now ≡ take (suc m) old ++ polled p cursors (drop (suc m) old)
    → cs ≡ map (moved_past (blocks_of (drop (suc m) old))) cursors
    → counters ≡ all_polled p (votes_at cs (get_or now m d).block.id) (get_or now m d).counters
    → set now m (record { block = (get_or now m d).block; counters = counters }) ≡ take m old ++ polled p cursors (drop m old)
unfolding polled
swept_more p cursors cs old now m d counters h is moved stepped =
    let front = take m old in
    let entry = get_or old m d in
    let later = drop (suc m) old in
    let same : get_or now m d ≡ entry = next_is p cursors old now m d h is in
    let whole : now ≡ front ++ entry ∷ polled p cursors later =
    is ∙ ap (λ l. l ++ polled p cursors later) (rw (← add-one) (take_more old m d h)) ∙ append_assoc front (entry ∷ []) (polled p cursors later)
    in
    let after : Pending → Pending = λ q. record q { counters = all_polled p (votes_at (map (moved_past (blocks_of later)) cursors) q.block.id) q.counters } in
    let new : Pending = record { block = (get_or now m d).block; counters = counters } in
    let is_new : new ≡ after entry =
    ap (λ c. record { block = (get_or now m d).block; counters = c }) (stepped ∙ ap (λ l. all_polled p (votes_at l (get_or now m d).block.id) (get_or now m d).counters) moved)
    ∙ ap after same
    in
    ap (λ l. set l m new) whole
    ∙ set_at front entry (polled p cursors later) new m (length-take-le m old (omega arith))
    ∙ ap (λ q. front ++ q ∷ polled p cursors later) is_new
    ∙ ap (λ l. front ++ polled p cursors l) (sym (drop-cons old m d h))

-- ---- counts

-- counts stay above 0
pub counts_kept : (blocks : List Header) (cursors : List Cursor) → All (λ c. 0 < c.count) cursors → All (λ c. 0 < c.count) (map (moved_past blocks) cursors)
counts_kept blocks cursors all =
    All-map (λ c. 0 < c.count) (moved_past blocks) cursors (λ k d h. rw (count_kept blocks (get_or cursors k d)) (all k d h))

-- the total stays
pub total_kept : (blocks : List Header) (cursors : List Cursor) → cursor_total (map (moved_past blocks) cursors) ≡ cursor_total cursors
total_kept blocks cursors =
    fold-map (λ a c. a + c.count) (moved_past blocks) 0 cursors ∙ ap (λ f. sum_by f cursors) (λ i c. count_kept blocks c i)

-- ---- votes at their own blocks

-- their counts are above 0
pub counts_started : (votes : List Vote) → All (λ v. 0 < v.count) votes → All (λ c. 0 < c.count) (map started votes)
counts_started votes all = All-map (λ c. 0 < c.count) started votes all

-- the bit step leaves the blocks as they are
pub blocks-polled : (p : Parameters) (cursors : List Cursor) (pending : List Pending) → blocks_of (polled p cursors pending) ≡ blocks_of pending
unfolding polled
blocks-polled p cursors [] = refl
blocks-polled p cursors (q ∷ later) = ap (λ l. q.block ∷ l) (blocks-polled p cursors later)
