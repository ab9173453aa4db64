-- Lemmas on the votes of a poll before they climb: each begins past its own block.
use Rattle.std.proofs.Common.{◌≡◌, ℕ, ◌+◌, ◌<◌, ◌≤◌, Bool, false, List, [], ◌∷◌, ◌++◌, length, get_or, reverse, filter_map, slice_get, bytes_eq, Option, Some, None, All, Contains, IsPermutation, refl, sym, ap, subst, ◌∙◌, arith, if◌then◌else◌}
use Rattle.std.specs.List.{cons_option}
use Rattle.std.specs.Option.{option_to_list}
use Rattle.std.proofs.lemmas.List.{length-map}
use Rattle.std.proofs.lemmas.List.Sums.{sum_by-cons}
use Rattle.std.proofs.lemmas.List.Sorted.{IsPermutation-map, IsPermutation-trans, IsPermutation-append_right, All-permutation, sum_by-IsPermutation}
use Rattle.std.proofs.lemmas.List.Elements.{All-nil, All-cons, All-head, All-tail, All-map}
use Rattle.std.proofs.lemmas.Option.{slice_get-get_or}
use Rattle.snow_base.specs.declared.block.Header.{Header}
use Rattle.snow_base.specs.declared.block.Vote.{Vote}
use Rattle.snow_base.specs.Model.Ancestry.{is_below, votes_below}
use Rattle.snow_base.specs.Model.Votes.{total_count}
use Rattle.snow_flake.specs.Model.Parameters.{Parameters}
use Rattle.snow_board.specs.declared.cursor.Cursor.{Cursor}
use Rattle.snow_board.specs.Kept.Grown.{has_block, IsGrown}
use Rattle.snow_board.proofs.Cases.{split_on, same_id}
use Rattle.snow_tree.specs.Kept.Held.{Entry, blocks_in, children_of, place_in}
use Rattle.snow_climb.specs.declared.climber.Climber.{Climber}
use Rattle.snow_climb.specs.Kept.Climbing.{above, reach, parent_in, id_in, cursor_of, cursors_of, climber_total, passing, begun, ArePlaced, CameBy, is_for, votes_for}
use Rattle.snow_climb.specs.Kept.Rising.{AreClimbing}
use Rattle.snow_climb.proofs.Climbers.{same_total}
use Rattle.snow_climb.proofs.Passed.{listed}
use Rattle.snow_climb.proofs.Reached.{reach_within, reach_seen, at_reach, below_at, off_below, not_own, reaches_none}

-- some block
abbrev pub no_block : Header
no_block = record { id = []; parent = []; height = 0 }

-- votes that passed a block count where the block is below
passed_for : (last : List ℕ) (bs : List Header) (at n : ℕ) (d : Header) (q : List ℕ) (front : List Bool) → IsGrown last (reverse bs) → at < length bs
    → is_for bs q front (cursor_of bs (passing bs at n)) ≡ is_below bs q front (get_or bs at d).id
passed_for last bs at n d q front g h =
    let b = get_or bs at d in
    let seen = slice_get-get_or bs at d h in
    let shown : is_for bs q front (cursor_of bs (passing bs at n)) ≡ is_for bs q front (record { sought = b.parent; passed = b.id; count = n }) =
    λ i. is_for bs q front (record { sought = parent_in (seen i); passed = id_in (seen i); count = n })
    in
    shown
    ∙ split_on (bytes_eq b.parent q)
    (λ t. let other : bytes_eq b.id q ≡ false = ap (bytes_eq b.id) (sym (same_id b.parent q t)) ∙ not_own last bs at d g h in
    rw (t, other) (sym (below_at last bs at d q front g h ∙ rw t refl)))
    (λ t. rw t (sym (below_at last bs at d q front g h ∙ rw t refl)))

module _ {T : Type 0} where
  -- the block of a vote at its place
  block_there : (pending : List (Entry T)) (id : List ℕ) (at : ℕ) (d : Header) → place_in pending id ≡ Some at
      → (at < length (blocks_in pending)) × ((get_or (blocks_in pending) at d).id ≡ id)
  block_there pending id at d there =
      let bs = blocks_in pending in
      let far : reach bs id ≡ at + 1 = sym (reach_seen pending id) ∙ ap above there in
      (omega (arith, far, reach_within bs id), same_id (get_or bs at d).id id (at_reach bs id at d far))

  pub vote_there : (pending : List (Entry T)) (id : List ℕ) (at : ℕ) (d : Header) → place_in pending id ≡ Some at → (at < length (blocks_in pending)) × (id_in (slice_get (blocks_in pending) at) ≡ id)
  vote_there pending id at d there =
      let here = block_there pending id at d there in
      (here.0, ap id_in (slice_get-get_or (blocks_in pending) at d here.0) ∙ here.1)

  -- or there is none
  pub block_off : (pending : List (Entry T)) (id : List ℕ) → place_in pending id ≡ None → has_block (blocks_in pending) id ≡ false
  block_off pending id none =
      let far : reach (blocks_in pending) id ≡ 0 = sym (reach_seen pending id) ∙ ap above none in
      reaches_none (blocks_in pending) id (omega (arith, far))

  -- they count where their blocks are below
  pub begun_for : (last : List ℕ) (pending : List (Entry T)) (q : List ℕ) (front : List Bool) (votes : List Vote) → IsGrown last (reverse (blocks_in pending))
      → votes_for (blocks_in pending) (cursors_of (blocks_in pending) (filter_map (begun pending) votes)) q front ≡ votes_below (blocks_in pending) votes q front
  begun_for last pending q front [] g = refl
  begun_for last pending q front (v ∷ votes) g =
      one (place_in pending v.id) refl (begun_for last pending q front votes g)
    where
      one : (o : Option ℕ) → place_in pending v.id ≡ o
          → votes_for (blocks_in pending) (cursors_of (blocks_in pending) (filter_map (begun pending) votes)) q front ≡ votes_below (blocks_in pending) votes q front
          → votes_for (blocks_in pending) (cursors_of (blocks_in pending) (filter_map (begun pending) (v ∷ votes))) q front ≡ votes_below (blocks_in pending) (v ∷ votes) q front
      one None e rest =
          let bs = blocks_in pending in
          let h : Vote → ℕ = λ v. if is_below bs q front v.id then v.count else 0 in
          let own : h v ≡ 0 = rw (off_below bs q v.id front (block_off pending v.id e)) refl in
          rw e (omega (arith, sum_by-cons h v votes, own, rest))
      one (Some at) e rest =
          let bs = blocks_in pending in
          let f : Cursor → ℕ = λ c. if is_for bs q front c then c.count else 0 in
          let h : Vote → ℕ = λ v. if is_below bs q front v.id then v.count else 0 in
          let there = block_there pending v.id at no_block e in
          let new = cursor_of bs (passing bs at v.count) in
          let is : is_for bs q front new ≡ is_below bs q front v.id = passed_for last bs at v.count no_block q front g there.0 ∙ ap (is_below bs q front) there.1 in
          let own : f new ≡ h v = ap (λ t. if t then v.count else 0) is in
          rw e (omega (arith, sum_by-cons f new (cursors_of bs (filter_map (begun pending) votes)), sum_by-cons h v votes, own, rest))

  -- what is so of each is so of all
  all_begun : (P : Climber → Type 0) (pending : List (Entry T)) (votes : List Vote)
      → All (λ v. (at : ℕ) → place_in pending v.id ≡ Some at → P (passing (blocks_in pending) at v.count)) votes → All P (filter_map (begun pending) votes)
  all_begun P pending [] each = All-nil P
  all_begun P pending (v ∷ votes) each =
      one (place_in pending v.id) refl (all_begun P pending votes (All-tail (λ v. (at : ℕ) → place_in pending v.id ≡ Some at → P (passing (blocks_in pending) at v.count)) v votes each))
    where
      one : (o : Option ℕ) → place_in pending v.id ≡ o → All P (filter_map (begun pending) votes) → All P (filter_map (begun pending) (v ∷ votes))
      one None e rest = rw e rest
      one (Some at) e rest =
          let own = All-head (λ v. (at : ℕ) → place_in pending v.id ≡ Some at → P (passing (blocks_in pending) at v.count)) v votes each at e in
          rw e (All-cons P (passing (blocks_in pending) at v.count) (filter_map (begun pending) votes) own rest)

  -- there are no more than votes
  begun_total : (pending : List (Entry T)) (votes : List Vote) → climber_total (filter_map (begun pending) votes) ≤ total_count votes
  begun_total pending [] = omega arith
  begun_total pending (v ∷ votes) = one (place_in pending v.id) refl (begun_total pending votes)
    where
      one : (o : Option ℕ) → place_in pending v.id ≡ o → climber_total (filter_map (begun pending) votes) ≤ total_count votes → climber_total (filter_map (begun pending) (v ∷ votes)) ≤ total_count (v ∷ votes)
      one None e rest = rw e (omega (arith, sum_by-cons (λ (v : Vote). v.count) v votes, rest))
      one (Some at) e rest =
          let bs = blocks_in pending in
          rw e (omega (arith, sum_by-cons (λ (c : Climber). c.count) (passing bs at v.count) (filter_map (begun pending) votes), sum_by-cons (λ (v : Vote). v.count) v votes, rest))

  pub begun_few : (pending : List (Entry T)) (votes : List Vote) → length (filter_map (begun pending) votes) ≤ length votes
  begun_few pending [] = omega arith
  begun_few pending (v ∷ votes) = one (place_in pending v.id) refl (begun_few pending votes)
    where
      one : (o : Option ℕ) → place_in pending v.id ≡ o → length (filter_map (begun pending) votes) ≤ length votes → length (filter_map (begun pending) (v ∷ votes)) ≤ length (v ∷ votes)
      one None e rest = rw e (omega (arith, rest))
      one (Some at) e rest = rw e (omega (arith, rest))

  -- where they look
  pub begun_placed : (pending : List (Entry T)) (votes : List Vote) → ArePlaced (blocks_in pending) (filter_map (begun pending) votes)
  begun_placed pending votes =
      all_begun (λ c. (c.passed < length (blocks_in pending)) × (c.place ≡ reach (blocks_in pending) (parent_in (slice_get (blocks_in pending) c.passed)))) pending votes
      (λ k d l at e. ((block_there pending (get_or votes k d).id at no_block e).0, refl))

  -- so they climb
  begun_climb : (p : Parameters) (votes : List Vote) (last : List ℕ) (pending : List (Entry T)) (n : ℕ) → IsGrown last (reverse (blocks_in pending)) → length (blocks_in pending) ≤ n
      → All (λ v. 0 < v.count) votes → total_count votes ≤ p.k → AreClimbing p votes (blocks_in pending) n (cursors_of (blocks_in pending) (filter_map (begun pending) votes))
  begun_climb p votes last pending n g long counts total =
      let bs = blocks_in pending in
      let cs = filter_map (begun pending) votes in
      record {
        below = λ k d l. omega (arith, long, reach_within bs (get_or (cursors_of bs cs) k d).sought);
        counted = λ q front low. begun_for last pending q front votes g;
        came = All-map (CameBy bs) (cursor_of bs) cs
            (all_begun (λ c. CameBy bs (cursor_of bs c)) pending votes
            (λ k d l at e.
            let inside = (block_there pending (get_or votes k d).id at no_block e).0 in
            subst (λ o. Contains (children_of bs (parent_in o)) (id_in o)) (sym (slice_get-get_or bs at no_block inside)) (listed bs at no_block inside)));
        counts = All-map (λ c. 0 < c.count) (cursor_of bs) cs (all_begun (λ c. 0 < c.count) pending votes (λ k d l at e. counts k d l));
        total = omega (arith, same_total bs cs, begun_total pending votes, total);
      }

-- votes climb in any order
pub climbing_again : (p : Parameters) (votes : List Vote) (bs : List Header) (top : ℕ) (cs ds : List Cursor) → IsPermutation cs ds → AreClimbing p votes bs top cs → AreClimbing p votes bs top ds
climbing_again p votes bs top cs ds same climbing = record {
  below = All-permutation (λ c. reach bs c.sought ≤ top) cs ds same climbing.below;
  counted = λ q front low. sum_by-IsPermutation (λ c. if is_for bs q front c then c.count else 0) cs ds same ∙ climbing.counted q front low;
  came = All-permutation (CameBy bs) cs ds same climbing.came;
  counts = All-permutation (λ c. 0 < c.count) cs ds same climbing.counts;
  total = omega (arith, sum_by-IsPermutation (λ c. c.count) cs ds same, climbing.total);
}

module _ {T : Type 0} where
  pub begun_at : (p : Parameters) (votes : List Vote) (last : List ℕ) (pending : List (Entry T)) (cs : List Climber) → IsGrown last (reverse (blocks_in pending))
      → IsPermutation (filter_map (begun pending) votes) cs → All (λ v. 0 < v.count) votes → total_count votes ≤ p.k → AreClimbing p votes (blocks_in pending) (length pending) (cursors_of (blocks_in pending) cs)
  begun_at p votes last pending cs g same counts total =
      let bs = blocks_in pending in
      climbing_again p votes bs (length pending) (cursors_of bs (filter_map (begun pending) votes)) (cursors_of bs cs) (IsPermutation-map (cursor_of bs) (filter_map (begun pending) votes) cs same)
      (begun_climb p votes last pending (length pending) g (omega (arith, length-map pending (λ e. e.block))) counts total)

  pub placed_at : (pending : List (Entry T)) (votes : List Vote) (cs : List Climber) → IsPermutation (filter_map (begun pending) votes) cs → ArePlaced (blocks_in pending) cs
  placed_at pending votes cs same =
      All-permutation (λ c. (c.passed < length (blocks_in pending)) × (c.place ≡ reach (blocks_in pending) (parent_in (slice_get (blocks_in pending) c.passed)))) (filter_map (begun pending) votes) cs same
      (begun_placed pending votes)

  -- one more begins
  pub begun_first : (pending : List (Entry T)) (v : Vote) (votes : List Vote) (cs ds : List Climber) → IsPermutation (filter_map (begun pending) votes) cs
      → IsPermutation (option_to_list (begun pending v) ++ cs) ds → IsPermutation (filter_map (begun pending) (v ∷ votes)) ds
  begun_first pending v votes cs ds same next =
      let whole : filter_map (begun pending) (v ∷ votes) ≡ option_to_list (begun pending v) ++ filter_map (begun pending) votes = single (begun pending v) (filter_map (begun pending) votes) in
      subst (λ l. IsPermutation l ds) (sym whole) (IsPermutation-trans _ _ _ (IsPermutation-append_right (option_to_list (begun pending v)) _ _ same) next)
    where
      single : (o : Option Climber) (rest : List Climber) → cons_option o rest ≡ option_to_list o ++ rest
      single None rest = refl
      single (Some c) rest = refl
