-- Lemmas on votes: how many there are, and the most that one identifier has.
use Rattle.std.proofs.Common.{◌≡◌, ℕ, zero, suc, ◌+◌, ◌<◌, ◌≤◌, max, ◌||◌, List, [], ◌∷◌, length, get_or, fold, sum_by, Some, None, Ok, Err, is_some, nat_le, if◌then◌else◌, refl, sym, ap, ◌∙◌, arith, Ordering, Less, Equal, Greater, rules}
use Rattle.std.specs.List.{list_any}
use Rattle.std.specs.Ordering.{match_ordering}
use Rattle.std.proofs.Math.Nat.{max_comm}
use Rattle.std.proofs.lemmas.Bool.{lt-leb}
use Rattle.std.proofs.lemmas.Cmp.{tied_itself, alike_right}
use Rattle.std.proofs.lemmas.List.Sums.{sum_by-cons}
use Rattle.snow_base.specs.declared.block.Vote.{Vote}
use Rattle.snow_base.specs.Model.Identifier.{bit_cmp}
use Rattle.snow_base.specs.Model.Votes.{IsInBitOrder, IsPlaceOf, added, total_count, most_count}
use Rattle.snow_base.proofs.Adding.{total_added}
use Rattle.snow_base.proofs.Bits.{bit_cmp-total}
use Rattle.snow_sample.specs.declared.draws.Draw.{Draw}
use Rattle.snow_poll.specs.declared.poll.Reply.{Reply}
use Rattle.snow_poll.specs.Model.Poll.{Poll, times_drawn, given, votes_of, received}
use Rattle.snow_poll.specs.Kept.Tallied.{count_of}

-- ---- how many there are

-- so many were given
abbrev pub weight : List Draw → Reply → ℕ
weight draws r = if is_some r.id then times_drawn draws r.node else 0

-- a reply's votes are counted
total_given : (votes : List Vote) (draws : List Draw) (r : Reply) → total_count (given votes r.id (times_drawn draws r.node)) ≡ total_count votes + weight draws r
total_given votes draws r =
    elim r.id as (λ id. total_count (given votes id (times_drawn draws r.node)) ≡ total_count votes + (if is_some id then times_drawn draws r.node else 0)) [
      | None ↦ omega arith
      | Some id ↦ total_added votes id (times_drawn draws r.node)
    ]

-- those of further replies come to those before
total_from : (draws : List Draw) (replies : List Reply) (votes : List Vote)
    → total_count (fold (λ votes r. given votes r.id (times_drawn draws r.node)) votes replies) ≡ total_count votes + sum_by (weight draws) replies
total_from draws [] votes = omega arith
total_from draws (r ∷ replies) votes =
    omega (arith, total_from draws replies (given votes r.id (times_drawn draws r.node)), total_given votes draws r, sum_by-cons (weight draws) r replies)

-- the votes of a poll are those received
pub total_received : (poll : Poll) → total_count (votes_of poll) ≡ received poll
total_received poll = omega (arith, total_from poll.draws poll.replies [])

-- ---- the most

-- an identifier's own votes, where its place is looked at
own : (id : List ℕ) (n m : ℕ) → match_ordering (bit_cmp id id) m n 0 ≡ n
own id n m = ap (λ o. match_ordering o m n 0) (tied_itself {R = bit_cmp} bit_cmp-total id)

abbrev step : Ordering → Vote → List Vote → List ℕ → ℕ → List Vote
step o v votes id n =
    match_ordering o (v ∷ added votes id n) (record { id = v.id; count = v.count + n } ∷ votes) (record { id = id; count = n } ∷ v ∷ votes)

-- after adding, the most is the most before or what the identifier has now
pub most_added : (votes : List Vote) (id : List ℕ) (n : ℕ) → most_count (added votes id n) ≡ max (most_count votes) (count_of (added votes id n) id)
unfolding added
most_added [] id n = max_comm n 0 ∙ ap (max 0) (sym (own id n 0))
most_added (v ∷ votes) id n =
    elim (bit_cmp v.id id) as (λ o. bit_cmp v.id id ≡ o → most_count (step o v votes id n) ≡ max (most_count (v ∷ votes)) (count_of (step o v votes id n) id)) [
      | Less ↦ λ is.
          let after : count_of (v ∷ added votes id n) id ≡ count_of (added votes id n) id = ap (λ o. match_ordering o (count_of (added votes id n) id) v.count 0) is in
          ap (max v.count) (most_added votes id n) ∙ three v.count (most_count votes) (count_of (added votes id n) id) ∙ ap (max (max v.count (most_count votes))) (sym after)
      | Equal ↦ λ is.
          let after : count_of (record { id = v.id; count = v.count + n } ∷ votes) id ≡ v.count + n = ap (λ o. match_ordering o (count_of votes id) (v.count + n) 0) is in
          more v.count n (most_count votes) ∙ ap (max (max v.count (most_count votes))) (sym after)
      | Greater ↦ λ is. max_comm n (max v.count (most_count votes)) ∙ ap (max (max v.count (most_count votes))) (sym (own id n (count_of (v ∷ votes) id)))
    ] refl
  where
    three : (a b c : ℕ) → max a (max b c) ≡ max (max a b) c
    three a b c = omega arith

    more : (a n b : ℕ) → max (a + n) b ≡ max (max a b) (a + n)
    more a n b = omega arith

-- one identifier has n votes exactly where the most is n
pub some_most : (n : ℕ) (votes : List Vote) → 1 ≤ n → list_any (λ v. nat_le n v.count) votes ≡ nat_le n (most_count votes)
some_most n [] h = sym (lt-leb n 0 h)
some_most n (v ∷ votes) h = ap (λ b. nat_le n v.count || b) (some_most n votes h) ∙ either n v.count (most_count votes)
  where
    either : (n a b : ℕ) → (nat_le n a || nat_le n b) ≡ nat_le n (max a b)
    either n a b = search rules

-- ---- where an identifier's votes stand

-- they are those at its place
counted_at : (votes : List Vote) (id : List ℕ) (at : ℕ) (w : Vote) → at < length votes → w ≡ get_or votes at w
    → ((k : ℕ) → k < at → bit_cmp (get_or votes k w).id id ≡ Less) → bit_cmp w.id id ≡ Equal → w.count ≡ count_of votes id
counted_at [] id at w h is less same = absurd (omega arith)
counted_at (v ∷ votes) id zero w h is less same =
    let here : bit_cmp v.id id ≡ Equal = ap (λ x. bit_cmp x.id id) (sym is) ∙ same in
    ap (λ x. x.count) is ∙ sym (ap (λ o. match_ordering o (count_of votes id) v.count 0) here)
counted_at (v ∷ votes) id (suc at) w h is less same =
    counted_at votes id at w (omega arith) is (λ k p. less (suc k) (omega arith)) same
    ∙ sym (ap (λ o. match_ordering o (count_of votes id) v.count 0) (less 0 (omega arith)))

pub count_there : (votes : List Vote) (id : List ℕ) (at : ℕ) (w : Vote) → IsInBitOrder votes → IsPlaceOf votes id (Ok at) → w ≡ get_or votes at w → w.count ≡ count_of votes id
count_there votes id at w order place is =
    let same : bit_cmp w.id id ≡ Equal = ap (λ v. bit_cmp v.id id) is ∙ place.1 w in
    counted_at votes id at w place.0 is
    (λ k p. sym (alike_right {R = bit_cmp} bit_cmp-total _ _ (get_or votes k w).id (place.1 w)) ∙ order k at w p place.0)
    same

-- at a place for new votes there are none
pub count_none : (votes : List Vote) (id : List ℕ) (at : ℕ) → IsPlaceOf votes id (Err at) → 0 ≡ count_of votes id
count_none [] id at place = refl
count_none (v ∷ votes) id zero place = sym (ap (λ o. match_ordering o (count_of votes id) v.count 0) (place.1.1 0 v (omega arith) (omega arith)))
count_none (v ∷ votes) id (suc at) place =
    count_none votes id at (omega arith, (λ k d p q. place.1.0 (suc k) d (omega arith) (omega arith), λ k d p q. place.1.1 (suc k) d (omega arith) (omega arith)))
    ∙ sym (ap (λ o. match_ordering o (count_of votes id) v.count 0) (place.1.0 0 v (omega arith) (omega arith)))
