-- Lemmas on votes that come to a parent: how they are counted by child, and how many there are.
use Rattle.std.proofs.Common.{◌≡◌, ℕ, ◌+◌, ◌<◌, ◌≤◌, Bool, true, false, List, [], ◌∷◌, length, get_or, take, cond, Some, None, Result, Ok, Err, IsOk, OnOk, refl, sym, ap, ◌∙◌, arith, Ordering, Less, Equal, Greater, true≢false, add-zero}
use Rattle.std.specs.Bool.{beq}
use Rattle.std.specs.List.{starts_with}
use Rattle.std.specs.Ordering.{bool_cmp, match_ordering}
use Rattle.std.specs.Cmp.Lexicographic.{slice_cmp}
use Rattle.std.proofs.lemmas.List.Sums.{sum_by-cons, sum_by_more}
use Rattle.snow_base.specs.declared.block.Vote.{Vote}
use Rattle.snow_base.specs.Model.Identifier.{bits, bit_cmp}
use Rattle.snow_base.specs.Model.Votes.{added}
use Rattle.snow_board.specs.declared.cursor.Cursor.{Cursor}
use Rattle.snow_board.specs.Model.Conflict.{votes_on}
use Rattle.snow_board.specs.Kept.Cursors.{votes_for, votes_at, child_at, cursor_total}

-- what a call that succeeded ensures
pub ok_then : {T E P : Type 0} (r : Result T E) → IsOk r → OnOk r P → P
ok_then (Ok x) h p = p
ok_then (Err e) h p = absurd (true≢false (sym h))

-- bits that are equal in order are the same
same_bits : (xs ys : List Bool) → slice_cmp bool_cmp xs ys ≡ Equal → xs ≡ ys
same_bits [] [] h = refl
same_bits [] (y ∷ ys) h = absurd cc
same_bits (x ∷ xs) [] h = absurd cc
same_bits (true ∷ xs) (true ∷ ys) h = ap (λ l. true ∷ l) (same_bits xs ys h)
same_bits (false ∷ xs) (false ∷ ys) h = ap (λ l. false ∷ l) (same_bits xs ys h)
same_bits (true ∷ xs) (false ∷ ys) h = absurd cc
same_bits (false ∷ xs) (true ∷ ys) h = absurd cc

-- one vote's share
abbrev share : List Bool → Vote → ℕ
share front v = cond (starts_with beq (bits v.id) front) v.count 0

-- more votes of one share
share_more : (t : Bool) (m n : ℕ) → cond t (m + n) 0 ≡ cond t m 0 + cond t n 0
share_more true m n = refl
share_more false m n = refl

-- votes after more for one identifier, by how it compares with the first
abbrev placed : Ordering → Vote → List Vote → List ℕ → ℕ → List Vote
placed o v votes id n =
    match_ordering o (v ∷ added votes id n) (record { id = v.id; count = v.count + n } ∷ votes) (record { id = id; count = n } ∷ v ∷ votes)

-- the votes on some bits after more for one identifier
placed_at : (o : Ordering) (v : Vote) (votes : List Vote) (id : List ℕ) (n : ℕ) (front : List Bool) → bit_cmp v.id id ≡ o
    → votes_on (added votes id n) front ≡ votes_on votes front + votes_for (Some id) n front
    → votes_on (placed o v votes id n) front ≡ votes_on (v ∷ votes) front + votes_for (Some id) n front
placed_at Less v votes id n front e rest =
    omega (arith, sum_by-cons (share front) v (added votes id n), sum_by-cons (share front) v votes, rest)
placed_at Equal v votes id n front e rest =
    let here : cond (starts_with beq (bits v.id) front) n 0 ≡ votes_for (Some id) n front = ap (λ b. cond (starts_with beq b front) n 0) (same_bits (bits v.id) (bits id) e) in
    omega (
      arith,
      sum_by-cons (share front) (record { id = v.id; count = v.count + n }) votes,
      sum_by-cons (share front) v votes,
      share_more (starts_with beq (bits v.id) front) v.count n,
      here,
    )
placed_at Greater v votes id n front e rest = omega (arith, sum_by-cons (share front) (record { id = id; count = n }) (v ∷ votes))

-- adding votes counts them, whatever the order
added_at : (votes : List Vote) (id : List ℕ) (n : ℕ) (front : List Bool) → votes_on (added votes id n) front ≡ votes_on votes front + votes_for (Some id) n front
unfolding added
added_at [] id n front = omega arith
added_at (v ∷ votes) id n front = placed_at (bit_cmp v.id id) v votes id n front refl (added_at votes id n front)

-- the length after more for one identifier
placed_length : (o : Ordering) (v : Vote) (votes : List Vote) (id : List ℕ) (n : ℕ) → length (added votes id n) ≤ length votes + 1
    → length (placed o v votes id n) ≤ length (v ∷ votes) + 1
placed_length Less v votes id n rest = omega arith
placed_length Equal v votes id n rest = omega arith
placed_length Greater v votes id n rest = omega arith

-- adding votes makes the list at most one longer
pub length-added : (votes : List Vote) (id : List ℕ) (n : ℕ) → length (added votes id n) ≤ length votes + 1
unfolding added
length-added [] id n = omega arith
length-added (v ∷ votes) id n = placed_length (bit_cmp v.id id) v votes id n (length-added votes id n)

-- ---- one more cursor

-- the votes of the cursors so far and of the next
votes_at_more : (cursors : List Cursor) (i : ℕ) (q : Cursor) (parent : List ℕ) (front : List Bool) → i < length cursors → q ≡ get_or cursors i q
    → votes_at (take (i + 1) cursors) parent front ≡ votes_at (take i cursors) parent front + votes_for (child_at parent q) q.count front
votes_at_more cursors i q parent front h is =
    sum_by_more (λ c. votes_for (child_at parent c) c.count front) cursors i q h
    ∙ ap (λ c. votes_at (take i cursors) parent front + votes_for (child_at parent c) c.count front) (sym is)

-- a cursor that came to the parent by a child
pub gathered_some : (cursors : List Cursor) (i : ℕ) (q : Cursor) (parent child : List ℕ) (list : List Vote) → i < length cursors → q ≡ get_or cursors i q
    → votes_on list ≡ votes_at (take i cursors) parent → child_at parent q ≡ Some child
    → votes_on (added list child q.count) ≡ votes_at (take (i + 1) cursors) parent
gathered_some cursors i q parent child list h is so_far found =
    λ j front.
    (added_at list child q.count front
    ∙ ap (λ f. f front + votes_for (Some child) q.count front) so_far
    ∙ ap (λ o. votes_at (take i cursors) parent front + votes_for o q.count front) (sym found)
    ∙ sym (votes_at_more cursors i q parent front h is)) j

-- a cursor that didn't come to the parent by a child
pub gathered_none : (cursors : List Cursor) (i : ℕ) (q : Cursor) (parent : List ℕ) (list : List Vote) → i < length cursors → q ≡ get_or cursors i q
    → votes_on list ≡ votes_at (take i cursors) parent → child_at parent q ≡ None
    → votes_on list ≡ votes_at (take (i + 1) cursors) parent
gathered_none cursors i q parent list h is so_far none =
    λ j front.
    (ap (λ f. f front) so_far
    ∙ sym (add-zero (votes_at (take i cursors) parent front))
    ∙ ap (λ o. votes_at (take i cursors) parent front + votes_for o q.count front) (sym none)
    ∙ sym (votes_at_more cursors i q parent front h is)) j

-- the votes of the cursors so far and of the next, in all
pub total_more : (cursors : List Cursor) (i : ℕ) (q : Cursor) → i < length cursors → q ≡ get_or cursors i q
    → cursor_total (take (i + 1) cursors) ≡ cursor_total (take i cursors) + q.count
total_more cursors i q h is = sum_by_more (λ c. c.count) cursors i q h ∙ ap (λ (c : Cursor). cursor_total (take i cursors) + c.count) (sym is)
