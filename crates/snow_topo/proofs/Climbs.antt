-- Lemmas on one step of a poll that climbs, and on its beginning and end.
use Rattle.std.proofs.Common.{◌≡◌, ℕ, zero, suc, ◌+◌, ◌<◌, ◌≤◌, false, List, [], ◌∷◌, length, get_or, map, reverse, bytes_eq, All, IsPermutation, Option, Some, None, IfSome, slice_get, refl, sym, ap, subst, ◌∙◌, arith}
use Rattle.std.specs.Option.{option_map}
use Rattle.std.proofs.lemmas.List.{get_or-map, length-map}
use Rattle.std.proofs.lemmas.Option.{none-some, slice_get-map, slice_get_within, get_or_from_slice_get, slice_get_past, slice_get-get_or}
use Rattle.snow_base.specs.declared.block.Header.{Header}
use Rattle.snow_base.specs.declared.block.Vote.{Vote}
use Rattle.snow_base.specs.Model.Ancestry.{votes_below}
use Rattle.snow_flake.specs.Model.Parameters.{Parameters, AreGood}
use Rattle.snow_board.specs.declared.cursor.Cursor.{Cursor}
use Rattle.snow_board.specs.Model.Conflict.{all_polled}
use Rattle.snow_board.specs.Kept.Cursors.{votes_at}
use Rattle.snow_board.specs.Kept.Grown.{IsGrown}
use Rattle.snow_tree.specs.Kept.Held.{Entry, blocks_in, children_of, set_load}
use Rattle.snow_topo.specs.Kept.Children.{Kept, shown, IsFit}
use Rattle.snow_topo.specs.Kept.View.{pending_of, all_pending}
use Rattle.snow_climb.specs.declared.climber.Climber.{Climber}
use Rattle.snow_climb.specs.Kept.Climbing.{reach, cursors_of, votes_for, merged, AreBelow, ArePlaced, HasCome}
use Rattle.snow_topo.specs.Kept.Half.{stepped_by, IsHalf, HasTaken}
use Rattle.snow_climb.specs.Kept.Rising.{AreClimbing}
use Rattle.snow_climb.specs.Kept.Ladder.{under, up_from}
use Rattle.snow_climb.proofs.Climbers.{group_came, rest_others}
use Rattle.snow_climb.proofs.Reached.{reach_at, parent_low}
use Rattle.snow_topo.proofs.Halfway.{sunk, visited}
use Rattle.snow_climb.proofs.Passed.{came_for, climbed}

-- there is an entry at a place within
pub entry_at : (pending : List (Entry Kept)) (at : ℕ) → at < length pending → (e : Entry Kept) × (slice_get pending at ≡ Some e)
entry_at [] at h = absurd (omega (arith, h))
entry_at (e ∷ pending) zero h = (e, refl)
entry_at (e ∷ pending) (suc at) h = entry_at pending at (omega (arith, h))

-- a load that is written
pub set_here : (pending : List (Entry Kept)) (at : ℕ) (e : Entry Kept) (load : Kept) → slice_get pending at ≡ Some e → slice_get (set_load pending at load) at ≡ Some (record e { load = load })
set_here [] at e load h = absurd (none-some e h)
set_here (x ∷ pending) zero e load h = let same : x ≡ e = cc in ap (λ (y : Entry Kept). Some (record y { load = load })) same
set_here (x ∷ pending) (suc at) e load h = set_here pending at e load h

-- leaves the others
pub set_other : (pending : List (Entry Kept)) (at j : ℕ) (load : Kept) → (j ≡ at → ⊥) → slice_get (set_load pending at load) j ≡ slice_get pending j
set_other [] at j load h = refl
set_other (x ∷ pending) zero zero load h = absurd (h refl)
set_other (x ∷ pending) zero (suc j) load h = refl
set_other (x ∷ pending) (suc at) zero load h = refl
set_other (x ∷ pending) (suc at) (suc j) load h = set_other pending at j load (λ e. h (ap suc e))

-- and the blocks
pub set_blocks : (pending : List (Entry Kept)) (at : ℕ) (load : Kept) → blocks_in (set_load pending at load) ≡ blocks_in pending
set_blocks [] at load = refl
set_blocks (x ∷ pending) zero load = refl
set_blocks (x ∷ pending) (suc at) load = ap (λ l. x.block ∷ l) (set_blocks pending at load)

-- what is so of all is so of the one at a place
pub one_of : (P : Entry Kept → Type 0) (pending : List (Entry Kept)) (at : ℕ) (e : Entry Kept) → All P pending → slice_get pending at ≡ Some e → P e
one_of P pending at e all there = subst P (get_or_from_slice_get pending at e e there) (all at e (slice_get_within pending at e there))

-- votes that climb look for what is lower still
pub narrowed : (p : Parameters) (votes : List Vote) (bs : List Header) (top m : ℕ) (cs : List Cursor) → AreClimbing p votes bs top cs → AreBelow bs m cs → m ≤ top → AreClimbing p votes bs m cs
narrowed p votes bs top m cs climbing below less = record {
  below = below;
  counted = λ q front low. climbing.counted q front (omega (arith, low, less));
  came = climbing.came;
  counts = climbing.counts;
  total = climbing.total;
}

-- before a poll
pub begun_half : (p : Parameters) (polls : ℕ) (votes : List Vote) (last : List ℕ) (first : List (Entry Kept)) (m : ℕ) (cs : List Cursor) → AreGood p
    → IsGrown last (reverse (blocks_in first)) → All (λ e. IsFit p polls (children_of (blocks_in first) e.block.id) e.load) first
    → AreClimbing p votes (blocks_in first) (length first) cs → AreBelow (blocks_in first) m cs → m ≤ length first
    → IsHalf p polls votes first first m × AreClimbing p votes (blocks_in first) m cs
begun_half p polls votes last first m cs good g fits climbing below less =
    let start : IsHalf p polls votes first first (length first) = record {
      low = λ j l. refl;
      high = λ j l.
          let past : slice_get first j ≡ None = slice_get_past first j l in
          slice_get-map (pending_of p (polls + 1)) first j ∙ ap (option_map (pending_of p (polls + 1))) past
          ∙ sym (ap (option_map (stepped_by p (blocks_in first) votes)) (slice_get-map (pending_of p polls) first j ∙ ap (option_map (pending_of p polls)) past));
      fit = λ j e l there. absurd (omega (arith, l, slice_get_within first j e there));
    }
    in
    (sunk p polls votes last first first (length first) m cs good g fits start climbing below less, narrowed p votes (blocks_in first) (length first) m cs climbing below less)

-- the votes that came to the block at a place are those below it
pub came_here : (p : Parameters) (votes : List Vote) (last : List ℕ) (first : List (Entry Kept)) (at : ℕ) (e : Entry Kept) (cs : List Cursor)
    → IsGrown last (reverse (blocks_in first)) → AreClimbing p votes (blocks_in first) (at + 1) cs → slice_get first at ≡ Some e
    → votes_at cs e.block.id ≡ votes_below (blocks_in first) votes e.block.id
came_here p votes last first at e cs g climbing there =
    let bs = blocks_in first in
    let inside : at < length first = slice_get_within first at e there in
    let within : at < length bs = subst (λ n. at < n) (sym (length-map first (λ x. x.block))) inside in
    let block : get_or bs at e.block ≡ e.block = get_or-map (λ x. x.block) first at e e.block inside ∙ ap (λ x. x.block) (get_or_from_slice_get first at e e there) in
    let reached : reach bs e.block.id ≡ at + 1 = ap (λ (b : Header). reach bs b.id) (sym block) ∙ reach_at last bs at e.block g within in
    λ i front.
    (subst (λ (b : Header). votes_at cs b.id front ≡ votes_for bs cs b.id front) block (came_for last bs at e.block front cs g within climbing.below)
    ∙ climbing.counted e.block.id front (omega (arith, reached))) i

-- one step
pub step_half : (p : Parameters) (polls : ℕ) (votes : List Vote) (last : List ℕ) (first now : List (Entry Kept)) (at m : ℕ) (e : Entry Kept) (load : Kept) (cs : List Cursor) → AreGood p
    → IsGrown last (reverse (blocks_in first)) → All (λ e. IsFit p polls (children_of (blocks_in first) e.block.id) e.load) first
    → IsHalf p polls votes first now (at + 1) → AreClimbing p votes (blocks_in first) (at + 1) cs → slice_get first at ≡ Some e
    → HasTaken p polls (votes_at cs e.block.id) e.load load → AreBelow (blocks_in first) m (merged e.block cs) → m ≤ at
    → IsHalf p polls votes first (set_load now at load) m × AreClimbing p votes (blocks_in first) m (merged e.block cs)
step_half p polls votes last first now at m e load cs good g fits half climbing there took below less =
    let bs = blocks_in first in
    let inside : at < length first = slice_get_within first at e there in
    let within : at < length bs = subst (λ n. at < n) (sym (length-map first (λ x. x.block))) inside in
    let block : get_or bs at e.block ≡ e.block = get_or-map (λ x. x.block) first at e e.block inside ∙ ap (λ x. x.block) (get_or_from_slice_get first at e e there) in
    let came : votes_at cs e.block.id ≡ votes_below bs votes e.block.id = came_here p votes last first at e cs g climbing there in
    let fit = one_of (λ e. IsFit p polls (children_of bs e.block.id) e.load) first at e fits there in
    let new = took (children_of bs e.block.id) fit in
    let counters = new.0 ∙ ap (λ f. all_polled p f (shown p polls e.load)) came in
    let next = visited p polls votes first now (set_load now at load) at e load half there
    (set_here now at e load (half.low at (omega arith) ∙ there)) (λ j other. set_other now at j load other)
    (λ i. record { block = e.block; counters = counters i }) new.1
    in
    let on : AreClimbing p votes bs at (merged e.block cs) = subst (λ b. AreClimbing p votes bs at (merged b cs)) block (climbed p votes last bs at e.block cs g within climbing) in
    (sunk p polls votes last first (set_load now at load) at m (merged e.block cs) good g fits next on below less, narrowed p votes bs at m (merged e.block cs) on below less)

-- lists with the same at each place are the same
pub same_slices : {X : Type 0} (xs ys : List X) → ((j : ℕ) → slice_get xs j ≡ slice_get ys j) → xs ≡ ys
same_slices [] [] h = refl
same_slices [] (y ∷ ys) h = absurd (none-some y (h 0))
same_slices (x ∷ xs) [] h = absurd (none-some x (sym (h 0)))
same_slices (x ∷ xs) (y ∷ ys) h =
    let first : Some x ≡ Some y = h 0 in
    let one : x ≡ y = cc in
    λ i. one i ∷ same_slices xs ys (λ j. h (suc j)) i

-- after a poll
pub ended_half : (p : Parameters) (polls : ℕ) (votes : List Vote) (first now : List (Entry Kept)) → IsHalf p polls votes first now 0
    → all_pending p (polls + 1) now ≡ map (stepped_by p (blocks_in first) votes) (all_pending p polls first)
ended_half p polls votes first now half =
    same_slices (all_pending p (polls + 1) now) (map (stepped_by p (blocks_in first) votes) (all_pending p polls first))
    (λ j. half.high j (omega arith) ∙ sym (slice_get-map (stepped_by p (blocks_in first) votes) (all_pending p polls first) j))

-- and what is kept fits then
pub ended_fit : (p : Parameters) (polls : ℕ) (votes : List Vote) (first now : List (Entry Kept)) → IsHalf p polls votes first now 0 → blocks_in now ≡ blocks_in first
    → All (λ e. IsFit p (polls + 1) (children_of (blocks_in now) e.block.id) e.load) now
ended_fit p polls votes first now half same =
    λ k d h.
    let e = get_or now k d in
    subst (λ l. IsFit p (polls + 1) (children_of l e.block.id) e.load) (sym same) (half.fit k e (omega arith) (slice_get-get_or now k d h))

-- what is known of something that is seen
pub some_of : {X : Type 0} (o : Option X) (P : X → Type 0) (x : X) → o ≡ Some x → IfSome o P → P x
some_of o P x e h = subst (λ o. IfSome o P) e h

-- votes that climbed past the block at a place
pub climbed_past : (p : Parameters) (votes : List Vote) (last : List ℕ) (first : List (Entry Kept)) (at : ℕ) (e : Entry Kept) (cs : List Cursor) → IsGrown last (reverse (blocks_in first))
    → slice_get first at ≡ Some e → AreClimbing p votes (blocks_in first) (at + 1) cs → AreBelow (blocks_in first) at (merged e.block cs)
climbed_past p votes last first at e cs g there climbing =
    let bs = blocks_in first in
    let inside : at < length first = slice_get_within first at e there in
    let within : at < length bs = subst (λ n. at < n) (sym (length-map first (λ x. x.block))) inside in
    let block : get_or bs at e.block ≡ e.block = get_or-map (λ x. x.block) first at e e.block inside ∙ ap (λ x. x.block) (get_or_from_slice_get first at e e there) in
    subst (λ b. AreBelow bs at (merged b cs)) block (climbed p votes last bs at e.block cs g within climbing).below

-- ---- the votes that look for the block at a place, behind those that look for earlier ones

-- the block at a place, where its entry was seen
pub block_at : (pending : List (Entry Kept)) (at : ℕ) (e : Entry Kept) → slice_get pending at ≡ Some e → slice_get (blocks_in pending) at ≡ Some e.block
block_at pending at e there = slice_get-map (λ x. x.block) pending at ∙ ap (option_map (λ (x : Entry Kept). x.block)) there

-- how far it reaches
pub reached_at : (last : List ℕ) (pending : List (Entry Kept)) (at : ℕ) (e : Entry Kept) → IsGrown last (reverse (blocks_in pending)) → slice_get pending at ≡ Some e
    → reach (blocks_in pending) e.block.id ≡ at + 1
reached_at last pending at e g there =
    let bs = blocks_in pending in
    let here = block_at pending at e there in
    ap (λ (b : Header). reach bs b.id) (sym (get_or_from_slice_get bs at e.block e.block here)) ∙ reach_at last bs at e.block g (slice_get_within bs at e.block here)

-- and its parent no further
pub parent_reach : (last : List ℕ) (pending : List (Entry Kept)) (at : ℕ) (e : Entry Kept) → IsGrown last (reverse (blocks_in pending)) → slice_get pending at ≡ Some e
    → reach (blocks_in pending) e.block.parent ≤ at
parent_reach last pending at e g there =
    let bs = blocks_in pending in
    let here = block_at pending at e there in
    subst (λ (b : Header). reach bs b.parent ≤ at) (get_or_from_slice_get bs at e.block e.block here) (parent_low last bs at e.block g (slice_get_within bs at e.block here))

-- a group came to it by a child
pub group_come : (p : Parameters) (votes : List Vote) (last : List ℕ) (pending : List (Entry Kept)) (at : ℕ) (e : Entry Kept) (cs came : List Climber) → IsGrown last (reverse (blocks_in pending))
    → slice_get pending at ≡ Some e → AreClimbing p votes (blocks_in pending) (at + 1) (cursors_of (blocks_in pending) cs) → ArePlaced (blocks_in pending) cs → IsPermutation (up_from (at + 1) cs) came
    → All (HasCome (blocks_in pending) e.block.id) (cursors_of (blocks_in pending) came)
group_come p votes last pending at e cs came g there climbing placed same =
    let bs = blocks_in pending in
    let block = get_or_from_slice_get bs at e.block e.block (block_at pending at e there) in
    subst (λ (b : Header). All (HasCome bs b.id) (cursors_of bs came)) block (group_came last bs at e.block cs came g climbing.below climbing.came placed same)

-- the others look for other blocks
pub group_others : (last : List ℕ) (pending : List (Entry Kept)) (at : ℕ) (e : Entry Kept) (cs : List Climber) → IsGrown last (reverse (blocks_in pending))
    → slice_get pending at ≡ Some e → ArePlaced (blocks_in pending) cs → All (λ c. bytes_eq c.sought e.block.id ≡ false) (cursors_of (blocks_in pending) (under (at + 1) cs))
group_others last pending at e cs g there placed = rest_others (blocks_in pending) e.block at cs (reached_at last pending at e g there) placed
