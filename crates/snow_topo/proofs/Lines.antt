-- Lemmas on the votes for one block, which climb its line alone.
use Rattle.std.proofs.Common.{◌≡◌, ℕ, ◌+◌, ◌<◌, ◌≤◌, false, nat_lt, Bool, List, [], ◌∷◌, length, reverse, filter_map, slice_get, All, Contains, IsPermutation, Some, None, refl, sym, ap, subst, ◌∙◌, arith}
use Rattle.std.proofs.lemmas.Grind.{common_steps}
use Rattle.std.proofs.lemmas.List.{length-map}
use Rattle.std.proofs.lemmas.List.Sums.{sum_by-cons}
use Rattle.std.proofs.lemmas.List.Elements.{All-cons, All-head, All-nil}
use Rattle.std.proofs.lemmas.List.Sorted.{All-permutation, IsPermutation-refl, IsPermutation-sym}
use Rattle.std.proofs.lemmas.Option.{slice_get_within}
use Rattle.snow_base.specs.declared.block.Header.{Header}
use Rattle.snow_base.specs.declared.block.Vote.{Vote}
use Rattle.snow_base.specs.Model.Ancestry.{votes_below}
use Rattle.snow_base.specs.Model.Votes.{added, total_count}
use Rattle.snow_flake.specs.Model.Parameters.{Parameters, AreGood}
use Rattle.snow_board.specs.Model.Conflict.{votes_on}
use Rattle.snow_board.specs.Kept.Cursors.{votes_at}
use Rattle.snow_board.specs.Kept.Grown.{IsGrown}
use Rattle.snow_tree.specs.Kept.Held.{Entry, Held, blocks_in, children_of, place_in, set_load}
use Rattle.snow_climb.specs.declared.climber.Climber.{Climber}
use Rattle.snow_climb.specs.Kept.Climbing.{reach, parent_in, id_in, cursor_of, cursors_of, climber_total, passing, begun, merged, ArePlaced, AreBelow, HasCome}
use Rattle.snow_climb.specs.Kept.Ladder.{under, up_from}
use Rattle.snow_climb.specs.Kept.Rising.{AreClimbing}
use Rattle.snow_climb.proofs.Begun.{no_block, begun_at, climbing_again}
use Rattle.snow_climb.proofs.Climbers.{passed_on, group_come_last, some_count}
use Rattle.snow_climb.proofs.Gatherings.{AreGathered, none_gathered, more_gathered, all_votes}
use Rattle.snow_climb.proofs.Reached.{reach_within}
use Rattle.snow_topo.specs.Kept.Children.{Kept}
use Rattle.snow_topo.specs.Kept.Counting.{HasStepped}
use Rattle.snow_topo.specs.Kept.Half.{IsHalf, HasTaken}
use Rattle.snow_topo.specs.Kept.View.{AllFit}
use Rattle.snow_topo.proofs.Climbs.{begun_half, came_here, step_half, block_at, parent_reach, ended_half, ended_fit}
use Rattle.snow_topo.proofs.Counted.{came_last}
use Rattle.snow_topo.proofs.Passing.{have_passed, HavePassed}

-- for whom votes look that passed the block at a place
abbrev pub sought : List Header → ℕ → List ℕ
sought bs at = parent_in (slice_get bs at)

-- the votes there, as votes for that block
abbrev pub vote_at : List Header → ℕ → ℕ → Vote
vote_at bs at n = record { id = id_in (slice_get bs at); count = n }

-- what is known of votes for one block that passed the block at a place of its line
pub record IsOnLine (p : Parameters) (polls : ℕ) (one : Vote) (first now : List (Entry Kept)) (at : ℕ) : Type 0 where
  pub half : IsHalf p polls (one ∷ []) first now (reach (blocks_in first) (sought (blocks_in first) at))
  pub climbing : AreClimbing p (one ∷ []) (blocks_in first) (reach (blocks_in first) (sought (blocks_in first) at)) (cursors_of (blocks_in first) (passing (blocks_in first) at one.count ∷ []))
  pub within : at < length first

-- what is so of one is so of it alone
just : (P : Climber → Type 0) (c : Climber) → P c → All P (c ∷ [])
just P c own = All-cons P c [] own (All-nil P)

same_order : {X : Type 0} (xs ys : List X) → xs ≡ ys → IsPermutation xs ys
same_order xs ys is = subst (IsPermutation xs) is (IsPermutation-refl xs)

-- the only one is on its rung
one_up : (rung : ℕ) (c : Climber) → rung ≤ c.place → up_from rung (c ∷ []) ≡ c ∷ []
one_up rung c high = rw (no_less c.place rung high) refl
  where
    no_less : (m n : ℕ) → n ≤ m → nat_lt m n ≡ false
    no_less m n h = grind (arith, common_steps)

none_left : (rung : ℕ) (c : Climber) → rung ≤ c.place → under rung (c ∷ []) ≡ []
none_left rung c high = rw (no_less c.place rung high) refl
  where
    no_less : (m n : ℕ) → n ≤ m → nat_lt m n ≡ false
    no_less m n h = grind (arith, common_steps)

-- it is placed
line_placed : (first : List (Entry Kept)) (at n : ℕ) → at < length first → ArePlaced (blocks_in first) (passing (blocks_in first) at n ∷ [])
line_placed first at n h =
    let bs = blocks_in first in
    just (λ c. (c.passed < length bs) × (c.place ≡ reach bs (parent_in (slice_get bs c.passed)))) (passing bs at n) (omega (arith, h, length-map first (λ e. e.block)), refl)

line_low : (bs : List Header) (at n : ℕ) → AreBelow bs (reach bs (sought bs at)) (cursors_of bs (passing bs at n ∷ []))
line_low bs at n = All-cons (λ c. reach bs c.sought ≤ reach bs (sought bs at)) (cursor_of bs (passing bs at n)) [] (omega arith) (All-nil (λ c. reach bs c.sought ≤ reach bs (sought bs at)))

-- the votes for one block begin
pub line_begun : (p : Parameters) (polls : ℕ) (one : Vote) (last : List ℕ) (first : List (Entry Kept)) (from : ℕ) → AreGood p → IsGrown last (reverse (blocks_in first))
    → AllFit p polls first → place_in first one.id ≡ Some from → from < length first → 0 < one.count → one.count ≤ p.k → IsOnLine p polls one first first from
line_begun p polls one last first from good g fits there inside some most =
    let bs = blocks_in first in
    let votes = one ∷ [] in
    let c = passing bs from one.count in
    let top = reach bs (sought bs from) in
    let begins : filter_map (begun first) votes ≡ c ∷ [] = rw there refl in
    let counts : All (λ (v : Vote). 0 < v.count) votes = All-cons (λ (v : Vote). 0 < v.count) one [] some (All-nil (λ (v : Vote). 0 < v.count)) in
    let total : total_count votes ≤ p.k = omega (arith, most, sum_by-cons (λ (v : Vote). v.count) one []) in
    let climbing = begun_at p votes last first (c ∷ []) g (same_order (filter_map (begun first) votes) (c ∷ []) begins) counts total in
    let less : top ≤ length first = omega (arith, reach_within bs (sought bs from), length-map first (λ e. e.block)) in
    let both = begun_half p polls votes last first top (cursors_of bs (c ∷ [])) good g fits climbing (line_low bs from one.count) less in
    record { half = both.0; climbing = both.1; within = inside }

-- they came to the block at the next place by a child
pub line_passed : (p : Parameters) (polls : ℕ) (one : Vote) (last : List ℕ) (first now : List (Entry Kept)) (at next : ℕ) (e : Entry Kept) → IsGrown last (reverse (blocks_in first))
    → IsOnLine p polls one first now at → reach (blocks_in first) (sought (blocks_in first) at) ≡ next + 1 → slice_get first next ≡ Some e → 0 < one.count
    → HavePassed first e (passing (blocks_in first) at one.count ∷ []) (passing (blocks_in first) at one.count ∷ []) (passing (blocks_in first) next one.count ∷ [])
line_passed p polls one last first now at next e g line is there some =
    let bs = blocks_in first in
    let votes = one ∷ [] in
    let c = passing bs at one.count in
    let high : next + 1 ≤ c.place = omega (arith, is) in
    let climbing = subst (λ n. AreClimbing p votes bs n (cursors_of bs (c ∷ []))) is line.climbing in
    let total : climber_total (c ∷ []) ≡ one.count = omega (arith, sum_by-cons (λ (x : Climber). x.count) c []) in
    let went : passed_on bs next (under (next + 1) (c ∷ [])) (c ∷ []) ≡ passing bs next one.count ∷ [] =
    ap (λ l. passed_on bs next l (c ∷ [])) (none_left (next + 1) c high) ∙ rw (total, some_count one.count some) refl
    in
    have_passed p votes last first next e (c ∷ []) (c ∷ []) (passing bs next one.count ∷ []) g there climbing (line_placed first at one.count line.within)
    (same_order (up_from (next + 1) (c ∷ [])) (c ∷ []) (one_up (next + 1) c high))
    (same_order (passed_on bs next (under (next + 1) (c ∷ [])) (c ∷ [])) (passing bs next one.count ∷ []) went)

-- votes by one child are gathered in one vote
gathered_one : (first : List (Entry Kept)) (at n : ℕ) → AreGathered first (passing (blocks_in first) at n ∷ []) [] (vote_at (blocks_in first) at n ∷ [])
unfolding added
gathered_one first at n =
    let c = passing (blocks_in first) at n in
    more_gathered first (c ∷ []) [] c (id_in (slice_get (blocks_in first) at)) [] refl (none_gathered first (c ∷ []) [] refl)

-- so they are all votes there
pub line_votes : (first : List (Entry Kept)) (at n : ℕ) (parent : List ℕ) → All (HasCome (blocks_in first) parent) (cursors_of (blocks_in first) (passing (blocks_in first) at n ∷ []))
    → (votes_on (vote_at (blocks_in first) at n ∷ []) ≡ votes_at (cursors_of (blocks_in first) (passing (blocks_in first) at n ∷ [])) parent)
    × All (λ v. Contains (children_of (blocks_in first) parent) v.id) (vote_at (blocks_in first) at n ∷ [])
line_votes first at n parent come =
    let c = passing (blocks_in first) at n in
    let gathered = gathered_one first at n in (
      all_votes first (c ∷ []) (vote_at (blocks_in first) at n ∷ []) parent gathered come,
      gathered.among parent come,
    )

-- they look for a block before their own
pub sought_low : (last : List ℕ) (first : List (Entry Kept)) (at : ℕ) (e : Entry Kept) → IsGrown last (reverse (blocks_in first)) → slice_get first at ≡ Some e
    → reach (blocks_in first) (sought (blocks_in first) at) ≤ at
sought_low last first at e g there = omega (arith, parent_reach last first at e g there, ap (λ o. reach (blocks_in first) (parent_in o)) (block_at first at e there))

-- a vote is counted where no bits are asked for
pub whole_vote : (v : Vote) → votes_on (v ∷ []) [] ≡ v.count
whole_vote v = omega (arith, sum_by-cons (λ (v : Vote). v.count) v [])

-- all votes below the block at the next place are these
pub line_counted : (p : Parameters) (polls : ℕ) (one : Vote) (last : List ℕ) (first now : List (Entry Kept)) (at next : ℕ) (e : Entry Kept) → IsGrown last (reverse (blocks_in first))
    → IsOnLine p polls one first now at → reach (blocks_in first) (sought (blocks_in first) at) ≡ next + 1 → slice_get first next ≡ Some e → 0 < one.count
    → votes_below (blocks_in first) (one ∷ []) e.block.id [] ≡ one.count
line_counted p polls one last first now at next e g line is there some =
    let bs = blocks_in first in
    let cs = cursors_of bs (passing bs at one.count ∷ []) in
    let passed = line_passed p polls one last first now at next e g line is there some in
    let came = came_here p (one ∷ []) last first next e cs g (subst (λ n. AreClimbing p (one ∷ []) bs n cs) is line.climbing) there in
    sym (ap (λ f. f []) ((line_votes first at one.count e.block.id passed.come).0 ∙ came)) ∙ whole_vote (vote_at bs at one.count)

-- one step up the line
pub line_step : (p : Parameters) (polls : ℕ) (one : Vote) (last : List ℕ) (first now : List (Entry Kept)) (at next : ℕ) (e : Entry Kept) (load : Kept) → AreGood p → IsGrown last (reverse (blocks_in first))
    → AllFit p polls first → IsOnLine p polls one first now at → reach (blocks_in first) (sought (blocks_in first) at) ≡ next + 1 → slice_get first next ≡ Some e → 0 < one.count
    → HasTaken p polls (votes_on (vote_at (blocks_in first) at one.count ∷ [])) e.load load → IsOnLine p polls one first (set_load now next load) next
line_step p polls one last first now at next e load good g fits line is there some took =
    let bs = blocks_in first in
    let votes = one ∷ [] in
    let c = passing bs at one.count in
    let cs = cursors_of bs (c ∷ []) in
    let later = cursors_of bs (passing bs next one.count ∷ []) in
    let top = reach bs (sought bs next) in
    let passed = line_passed p polls one last first now at next e g line is there some in
    let low : top ≤ next = sought_low last first next e g there in
    let below : AreBelow bs top (merged e.block cs) = All-permutation (λ x. reach bs x.sought ≤ top) later (merged e.block cs) (IsPermutation-sym (merged e.block cs) later passed.same) (line_low bs next one.count) in
    let taken = subst (λ f. HasTaken p polls f e.load load) ((line_votes first at one.count e.block.id passed.come).0) took in
    let r = step_half p polls votes last first now next top e load cs good g fits
    (subst (IsHalf p polls votes first now) is line.half) (subst (λ n. AreClimbing p votes bs n cs) is line.climbing) there taken below low
    in
    record {
      half = r.0;
      climbing = climbing_again p votes bs top (merged e.block cs) later passed.same r.1;
      within = slice_get_within first next e there;
    }

-- where the line ends it has come to the last accepted block
pub line_ended : (p : Parameters) (polls : ℕ) (one : Vote) (last : List ℕ) (first now : List (Entry Kept)) (at : ℕ) → IsGrown last (reverse (blocks_in first)) → IsOnLine p polls one first now at
    → reach (blocks_in first) (sought (blocks_in first) at) ≡ 0
    → (votes_on (vote_at (blocks_in first) at one.count ∷ []) ≡ votes_below (blocks_in first) (one ∷ []) last) × Contains (children_of (blocks_in first) last) (id_in (slice_get (blocks_in first) at))
line_ended p polls one last first now at g line is =
    let bs = blocks_in first in
    let votes = one ∷ [] in
    let c = passing bs at one.count in
    let climbing = subst (λ n. AreClimbing p votes bs n (cursors_of bs (c ∷ []))) is line.climbing in
    let come = group_come_last last bs no_block (c ∷ []) (c ∷ []) g climbing.below climbing.came (line_placed first at one.count line.within)
    (same_order (up_from 0 (c ∷ [])) (c ∷ []) (one_up 0 c (omega arith)))
    in
    let all = line_votes first at one.count last come in
    let child : Contains (children_of bs last) (id_in (slice_get bs at)) = All-head (λ (v : Vote). Contains (children_of bs last) v.id) (vote_at bs at one.count) [] all.1 in
    (all.0 ∙ came_last p votes last bs (cursors_of bs (c ∷ [])) g climbing, child)

-- all pending blocks took the poll then
pub all_stepped : (p : Parameters) (polls : ℕ) (votes : List Vote) (first now : Held Kept) → IsHalf p polls votes first.pending now.pending 0 → now ≡ record first { pending = now.pending }
    → blocks_in now.pending ≡ blocks_in first.pending → HasStepped p polls votes first now
all_stepped p polls votes first now half rest same = record {
  pending = ended_half p polls votes first.pending now.pending half;
  rest = rest;
  blocks = same;
  fit = ended_fit p polls votes first.pending now.pending half same;
}

-- votes for a block that isn't pending come nowhere
pub none_stepped : (p : Parameters) (polls : ℕ) (one : Vote) (first : Held Kept) → AreGood p → IsGrown first.last (reverse (blocks_in first.pending)) → AllFit p polls first.pending
    → place_in first.pending one.id ≡ None → 0 < one.count → one.count ≤ p.k
    → HasStepped p polls (one ∷ []) first first × ((front : List Bool) → votes_below (blocks_in first.pending) (one ∷ []) first.last front ≡ 0)
none_stepped p polls one first good g fits none some most =
    let pending = first.pending in
    let bs = blocks_in pending in
    let votes = one ∷ [] in
    let begins : filter_map (begun pending) votes ≡ [] = rw none refl in
    let counts : All (λ (v : Vote). 0 < v.count) votes = All-cons (λ (v : Vote). 0 < v.count) one [] some (All-nil (λ (v : Vote). 0 < v.count)) in
    let total : total_count votes ≤ p.k = omega (arith, most, sum_by-cons (λ (v : Vote). v.count) one []) in
    let climbing = begun_at p votes first.last pending [] g (same_order (filter_map (begun pending) votes) [] begins) counts total in
    let both = begun_half p polls votes first.last pending 0 [] good g fits climbing (All-nil _) (omega arith) in
    let last = came_last p votes first.last bs [] g both.1 in
    (all_stepped p polls votes first first both.0 refl refl, λ front. sym (ap (λ f. f front) last))
