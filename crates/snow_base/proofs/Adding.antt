-- Lemmas on votes in bit order: where an identifier's votes stand, and what adding to them does.
use Rattle.std.proofs.Common.{◌≡◌, ℕ, zero, suc, ◌+◌, ◌<◌, ◌≤◌, List, [], ◌∷◌, ◌++◌, length, get_or, set, take, insert, All, Result, Ok, Err, refl, sym, ap, ◌∙◌, arith, Ordering, Less, Equal, Greater, is_lt, inl, inr, ◌^◌, max, true, bytes_eq}
use Rattle.std.specs.List.Sorted.{IsSortedBy, IsSearchInRange, IsBinarySearchResult}
use Rattle.std.specs.Ordering.{match_ordering, ordering_reverse}
use Rattle.std.proofs.lemmas.Bool.{cases_lt}
use Rattle.std.proofs.lemmas.Cmp.{tied_itself, alike_right}
use Rattle.std.proofs.lemmas.Option.{slice_get-get_or, get_or_from_slice_get}
use Rattle.std.proofs.lemmas.List.Elements.{All-cons, All-head, All-tail}
use Rattle.std.proofs.lemmas.List.Sorted.{searchable_from_sorted}
use Rattle.std.proofs.lemmas.List.{take_more}
use Rattle.std.proofs.lemmas.Slice.Eq.{bytes_eq-Decides}
use Rattle.std.proofs.lemmas.List.Recursion.{max_push}
use Rattle.std.proofs.lemmas.List.Sums.{sum_by-cons}
use Rattle.snow_base.specs.declared.block.Vote.{Vote}
use Rattle.snow_base.specs.Model.Identifier.{bit_cmp}
use Rattle.snow_base.specs.Model.Votes.{IsInBitOrder, IsTally, HasVotesFor, IsPlaceOf, added, total_count, most_count}
use Rattle.snow_base.proofs.Bits.{bit_cmp-total}

-- ---- lists in bit order

-- the first stands before the rest
pub order_head : (v : Vote) (votes : List Vote) → IsInBitOrder (v ∷ votes) → All (λ w. bit_cmp v.id w.id ≡ Less) votes
order_head v votes h = λ k d p. h 0 (suc k) d (omega arith) (omega arith)

-- the rest is in bit order
pub order_tail : (v : Vote) (votes : List Vote) → IsInBitOrder (v ∷ votes) → IsInBitOrder votes
order_tail v votes h = λ i j d p q. h (suc i) (suc j) d (omega arith) (omega arith)

-- a vote before a list in bit order
pub order_cons : (v : Vote) (votes : List Vote) → All (λ w. bit_cmp v.id w.id ≡ Less) votes → IsInBitOrder votes → IsInBitOrder (v ∷ votes)
order_cons v votes first rest zero zero d p q = absurd (omega arith)
order_cons v votes first rest zero (suc j) d p q = first j d (omega arith)
order_cons v votes first rest (suc i) zero d p q = absurd (omega arith)
order_cons v votes first rest (suc i) (suc j) d p q = rest i j d (omega arith) (omega arith)

-- ---- the place of an identifier

-- all from this place on stand after an identifier
abbrev pub AllBehind : List Vote → List ℕ → ℕ → Type 0
AllBehind votes id at = (k : ℕ) (d : Vote) → at ≤ k → k < length votes → bit_cmp (get_or votes k d).id id ≡ Greater

flip : (a b : List ℕ) → bit_cmp a b ≡ ordering_reverse (bit_cmp b a)
flip a b = bit_cmp-total.antisymm a b

sorted : (votes : List Vote) → IsInBitOrder votes → IsSortedBy (λ a b. is_lt (bit_cmp a.id b.id)) votes
sorted votes order k d low high =
    ap is_lt (flip _ _ ∙ ap ordering_reverse (order k (k + 1) d (omega arith) high))

-- what a binary search finds in votes in bit order
pub searched : (votes : List Vote) (id : List ℕ) (r : Result ℕ ℕ) → IsInBitOrder votes → IsSearchInRange r (length votes)
    → IsBinarySearchResult (λ v. bit_cmp v.id id) votes r → IsPlaceOf votes id r
searched votes id (Ok at) order bound found = (bound, found)
searched votes id (Err at) order bound found =
    (bound, found (searchable_from_sorted bit_cmp-total (λ v. v.id) votes id (sorted votes order)))

-- within a list it doesn't matter what is read past its end
same_within : (votes : List Vote) (at : ℕ) (d w : Vote) → at < length votes → get_or votes at d ≡ get_or votes at w
same_within votes at d w some = get_or_from_slice_get votes at (get_or votes at w) d (slice_get-get_or votes at w some)

-- one stands before an identifier, and all behind it after: new votes belong between them
pub place_behind : (votes : List Vote) (id : List ℕ) (at : ℕ) (w : Vote) → IsInBitOrder votes → at < length votes → bit_cmp (get_or votes at w).id id ≡ Less
    → AllBehind votes id (at + 1) → IsPlaceOf votes id (Err (at + 1))
place_behind votes id at w order some less behind =
    let before : (d : Vote) → bit_cmp (get_or votes at d).id id ≡ Less = λ d. ap (λ v. bit_cmp v.id id) (same_within votes at d w some) ∙ less in (
      omega arith,
      (
        λ k d p q.
            elim (cases_lt k at) [
              | inl l ↦ bit_cmp-total.trans (get_or votes k d).id (get_or votes at d).id id (order k at d l some) (before d)
              | inr l ↦ let same : k ≡ at = omega arith in ap (λ j. bit_cmp (get_or votes j d).id id) same ∙ before d
            ],
        λ k d p q. behind k d (omega arith) q,
      ),
    )

-- one is the identifier
pub place_at : (votes : List Vote) (id : List ℕ) (at : ℕ) (w : Vote) → at < length votes → bit_cmp (get_or votes at w).id id ≡ Equal → IsPlaceOf votes id (Ok at)
place_at votes id at w some same = (some, λ d. ap (λ v. bit_cmp v.id id) (same_within votes at d w some) ∙ same)

-- one more stands behind an identifier
pub behind_more : (votes : List Vote) (id : List ℕ) (at : ℕ) (w : Vote) → at < length votes → bit_cmp (get_or votes at w).id id ≡ Greater → AllBehind votes id (at + 1)
    → AllBehind votes id at
behind_more votes id at w some greater behind k d p q =
    elim (cases_lt at k) [
      | inl l ↦ behind k d (omega arith) q
      | inr l ↦
          let same : k ≡ at = omega arith in
          ap (λ j. bit_cmp (get_or votes j d).id id) same ∙ ap (λ v. bit_cmp v.id id) (same_within votes at d w some) ∙ greater
    ]

-- all stand behind it
pub place_first : (votes : List Vote) (id : List ℕ) → AllBehind votes id 0 → IsPlaceOf votes id (Err 0)
place_first votes id behind = (omega arith, (λ k d p q. absurd (omega arith), λ k d p q. behind k d p q))

-- at a place for new votes there are none yet
pub none_there : (votes : List Vote) (id : List ℕ) (at : ℕ) → IsPlaceOf votes id (Err at) → HasVotesFor votes id → ⊥
none_there votes id at place has =
    let same : bit_cmp (get_or votes has.0 has.1).id id ≡ Equal =
    ap (λ v. bit_cmp v.id id) has.3 ∙ ap (λ i. bit_cmp i id) has.4 ∙ tied_itself {R = bit_cmp} bit_cmp-total id in
    elim (cases_lt has.0 at) [
      | inl h ↦ let less = place.1.0 has.0 has.1 (omega arith) h in cc
      | inr h ↦ let greater = place.1.1 has.0 has.1 h has.2 in cc
    ]

-- ---- what adding does

abbrev pub step : Ordering → Vote → List Vote → List ℕ → ℕ → List Vote
step o v votes id n =
    match_ordering o (v ∷ added votes id n) (record { id = v.id; count = v.count + n } ∷ votes) (record { id = id; count = n } ∷ v ∷ votes)

-- where the votes for id stand, n more are counted
counted_at : (votes : List Vote) (id : List ℕ) (n at : ℕ) (w : Vote) → at < length votes → w ≡ get_or votes at w
    → ((k : ℕ) → k < at → bit_cmp (get_or votes k w).id id ≡ Less) → bit_cmp w.id id ≡ Equal
    → set votes at (record { id = w.id; count = w.count + n }) ≡ added votes id n
unfolding added
counted_at [] id n at w h is less same = absurd (omega arith)
counted_at (v ∷ votes) id n zero w h is less same =
    let here : bit_cmp v.id id ≡ Equal = ap (λ x. bit_cmp x.id id) (sym is) ∙ same in
    let more : Vote → List Vote = λ x. record { id = x.id; count = x.count + n } ∷ votes in
    ap more is ∙ sym (ap (λ o. step o v votes id n) here)
counted_at (v ∷ votes) id n (suc at) w h is less same =
    ap (λ l. v ∷ l) (counted_at votes id n at w (omega arith) is (λ k p. less (suc k) (omega arith)) same)
    ∙ sym (ap (λ o. step o v votes id n) (less 0 (omega arith)))

-- the same from the place that a search found
pub added_counted : (votes : List Vote) (id : List ℕ) (n at : ℕ) (w : Vote) → IsInBitOrder votes → IsPlaceOf votes id (Ok at) → w ≡ get_or votes at w
    → set votes at (record { id = w.id; count = w.count + n }) ≡ added votes id n
added_counted votes id n at w order place is =
    let same : bit_cmp w.id id ≡ Equal = ap (λ v. bit_cmp v.id id) is ∙ place.1 w in
    counted_at votes id n at w place.0 is
    (λ k p. sym (alike_right {R = bit_cmp} bit_cmp-total _ _ (get_or votes k w).id (place.1 w)) ∙ order k at w p place.0)
    same

-- at a place for new votes they are put
pub added_inserted : (votes : List Vote) (id : List ℕ) (n at : ℕ) → IsPlaceOf votes id (Err at) → insert votes at (record { id = id; count = n }) ≡ added votes id n
unfolding added
added_inserted [] id n zero place = refl
added_inserted [] id n (suc at) place = absurd (omega arith)
added_inserted (v ∷ votes) id n zero place = sym (ap (λ o. step o v votes id n) (place.1.1 0 v (omega arith) (omega arith)))
added_inserted (v ∷ votes) id n (suc at) place =
    ap (λ l. v ∷ l) (added_inserted votes id n at (omega arith, (λ k d p q. place.1.0 (suc k) d (omega arith) (omega arith), λ k d p q. place.1.1 (suc k) d (omega arith) (omega arith))))
    ∙ sym (ap (λ o. step o v votes id n) (place.1.0 0 v (omega arith) (omega arith)))

-- at the end they are put behind the others
pub insert_end : (votes : List Vote) (v : Vote) → insert votes (length votes) v ≡ votes ++ v ∷ []
insert_end [] v = refl
insert_end (x ∷ votes) v = ap (λ l. x ∷ l) (insert_end votes v)

-- the first votes of all
pub added_first : (votes : List Vote) (id : List ℕ) (n : ℕ) → length votes ≡ 0 → votes ++ record { id = id; count = n } ∷ [] ≡ added votes id n
unfolding added
added_first [] id n none = refl
added_first (v ∷ votes) id n none = absurd (omega arith)

-- where the last votes are for id, n more are counted
pub added_last : (votes : List Vote) (id : List ℕ) (n at : ℕ) (last w : Vote) → IsInBitOrder votes → at < length votes → last ≡ get_or votes at last → bytes_eq last.id id ≡ true
    → w ≡ get_or votes at w → set votes at (record { id = w.id; count = w.count + n }) ≡ added votes id n
added_last votes id n at last w order some is same found =
    let one : last.id ≡ id = (bytes_eq-Decides last.id id).0 same in
    let tied : bit_cmp (get_or votes at last).id id ≡ Equal = ap (λ v. bit_cmp v.id id) (sym is) ∙ ap (λ i. bit_cmp i id) one ∙ tied_itself {R = bit_cmp} bit_cmp-total id in
    added_counted votes id n at w order (place_at votes id at last some tied) found

-- what holds of all votes, of the new ones, and of votes as more are counted, holds after adding
all_added : (P : Vote → Type 0) (votes : List Vote) (id : List ℕ) (n : ℕ) → All P votes → P (record { id = id; count = n })
    → ((v : Vote) → P v → P (record { id = v.id; count = v.count + n })) → All P (added votes id n)
unfolding added
all_added P [] id n all one more = All-cons P _ [] one all
all_added P (v ∷ votes) id n all one more =
    let head = All-head P v votes all in
    let tail = All-tail P v votes all in
    elim (bit_cmp v.id id) as (λ o. All P (step o v votes id n)) [
      | Less ↦ All-cons P v _ head (all_added P votes id n tail one more)
      | Equal ↦ All-cons P _ votes (more v head) tail
      | Greater ↦ All-cons P _ (v ∷ votes) one all
    ]

-- counts stay above 0
pub counts_added : (votes : List Vote) (id : List ℕ) (n : ℕ) → 0 < n → All (λ v. 0 < v.count) votes → All (λ v. 0 < v.count) (added votes id n)
counts_added votes id n h all = all_added (λ v. 0 < v.count) votes id n all h (λ v p. omega arith)

order_step : (o : Ordering) (v : Vote) (votes : List Vote) (id : List ℕ) (n : ℕ) → bit_cmp v.id id ≡ o → IsInBitOrder (v ∷ votes) → IsInBitOrder (added votes id n)
    → IsInBitOrder (step o v votes id n)
order_step Less v votes id n is order rest =
    order_cons v _ (all_added (λ w. bit_cmp v.id w.id ≡ Less) votes id n (order_head v votes order) is (λ w p. p)) rest
order_step Equal v votes id n is order rest = order_cons _ votes (order_head v votes order) (order_tail v votes order)
order_step Greater v votes id n is order rest =
    let first : bit_cmp id v.id ≡ Less = flip id v.id ∙ ap ordering_reverse is in
    order_cons _ (v ∷ votes) (All-cons (λ w. bit_cmp id w.id ≡ Less) v votes first
    (λ k d p. bit_cmp-total.trans id v.id _ first (order_head v votes order k d p))) order

-- votes stay in bit order
pub order_added : (votes : List Vote) (id : List ℕ) (n : ℕ) → IsInBitOrder votes → IsInBitOrder (added votes id n)
unfolding added
order_added [] id n order = order_cons _ [] (λ k d p. absurd (omega arith)) order
order_added (v ∷ votes) id n order = order_step (bit_cmp v.id id) v votes id n refl order (order_added votes id n (order_tail v votes order))

-- the total rises by n
pub total_added : (votes : List Vote) (id : List ℕ) (n : ℕ) → total_count (added votes id n) ≡ total_count votes + n
unfolding added
total_added [] id n = omega arith
total_added (v ∷ votes) id n =
    let count : Vote → ℕ = λ v. v.count in
    elim (bit_cmp v.id id) as (λ o. total_count (step o v votes id n) ≡ total_count (v ∷ votes) + n) [
      | Less ↦ omega (arith, sum_by-cons count v (added votes id n), total_added votes id n, sum_by-cons count v votes)
      | Equal ↦ omega (arith, sum_by-cons count (record { id = v.id; count = v.count + n }) votes, sum_by-cons count v votes)
      | Greater ↦ omega (arith, sum_by-cons count (record { id = id; count = n }) (v ∷ votes))
    ]

-- a tally stays one as votes are added
pub tally_added : (votes : List Vote) (total : ℕ) (id : List ℕ) (n : ℕ) → IsTally votes total → 1 ≤ n → total + n < 2 ^ 32 → IsTally (added votes id n) (total + n)
tally_added votes total id n tally some small =
    record {
      order = order_added votes id n tally.order;
      counts = counts_added votes id n some tally.counts;
      sum = omega (arith, tally.sum, total_added votes id n);
      small = small;
    }

-- ---- the greatest count

-- one more vote is looked at
pub most_more : (votes : List Vote) (i : ℕ) (v : Vote) → i < length votes → v ≡ get_or votes i v
    → most_count (take (i + 1) votes) ≡ max (most_count (take i votes)) v.count
most_more votes i v h is =
    ap most_count (take_more votes i v h)
    ∙ max_push most_count (λ w. w.count) refl (λ _ _. refl) (take i votes) (get_or votes i v)
    ∙ ap (λ w. max (most_count (take i votes)) w.count) (sym is)
