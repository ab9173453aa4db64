use Rattle.std.proofs.Common.{◌≡◌, ◌+◌, ◌*◌, ◌-◌, ◌<◌, ◌≤◌, nat_le, nat_lt, Bool, false, ◌||◌, [], ◌∷◌, drop, if◌then◌else◌, ℕ, List, All, Contains, Some, IsPermutation, slice_get, length, refl, sym, ap, subst, ◌∙◌, arith}
use Rattle.std.specs.Option.{option_map, option_copied_mut}
use Rattle.std.proofs.lemmas.Bool.{or_parts}
use Rattle.std.proofs.lemmas.List.{length-map}
use Rattle.std.proofs.lemmas.List.Sorted.{All-permutation, IsPermutation-sym}
use Rattle.snow_base.specs.declared.block.Header.{Header}
use Rattle.snow_base.specs.declared.block.Vote.{Vote}
use Rattle.snow_base.specs.Model.Ancestry.{votes_below}
use Rattle.snow_base.specs.Model.Votes.{total_count}
use Rattle.snow_board.specs.Model.Conflict.{votes_on}
use Rattle.snow_board.specs.Kept.Cursors.{votes_at}
use Rattle.snow_tree.specs.Kept.Held.{Entry, Held, blocks_in, children_of, set_load}
use Rattle.snow_climb.specs.declared.climber.Climber.{Climber}
use Rattle.snow_climb.specs.Kept.Climbing.{climber_total, cursor_of, cursors_of, merged, parent_in, passing, reach, AreBelow, HasCome}
use Rattle.snow_climb.specs.Kept.Ladder.{Rungs, up_from, under, KeepsRoom}
use Rattle.snow_climb.specs.Kept.Rising.{AreClimbing}
use Rattle.snow_climb.specs.Kept.Starting.{HaveBegun}
use Rattle.snow_climb.proofs.Begun.{climbing_again}
use Rattle.snow_climb.proofs.Climbers.{all_back, below_places, within_places, same_total, highest_place, of_group, group_total, group_few, passed_on}
use Rattle.snow_climb.proofs.Merged.{few_came}
use Rattle.snow_topo.specs.Kept.Children.{Kept, ids_in, IsFit}
use Rattle.snow_topo.specs.Kept.Half.{IsHalf, HasTaken}
use Rattle.snow_topo.specs.Kept.Leading.{IsSteady}
use Rattle.snow_topo.specs.Kept.Recording.{recording_at, recording_in}
use Rattle.snow_topo.proofs.Climbs.{block_at, entry_at, parent_reach, came_here, one_of, set_blocks, begun_half, step_half, climbed_past, ended_half, ended_fit}
use Rattle.snow_topo.proofs.Costing.{is_quorum, paid}
use Rattle.snow_topo.proofs.Passing.{have_passed, HavePassed}
use Rattle.snow_topo.proofs.Steady.{leads_set}
use Rattle.snow_topo.proofs.Taken.{same_load, left_alone, at_most}
use Rattle.snow_topo.proofs.climbing.climb.Given as given
use Rattle.snow_topo.proofs.climbing.climb.Goals as goal
use Rattle.snow_topo.proofs.climbing.climb.Goals.{After-min-top-in-loop-top, In-Some}

pub loop-top-init : goal.loop-top-init
loop-top-init g c =
    let first = c.args.tree.now.pending in
    let bs = blocks_in first in
    let climbers = c.args.ladder.now.climbers in
    let top = c.min-top.result in
    let long = length-map first (λ e. e.block) in
    let within : top ≤ length first = omega (arith, c.min-top.ensures, c.len.ensures) in
    let each : All (λ (x : Climber). x.place ≤ length first) climbers = subst (λ n. All (λ (x : Climber). x.place ≤ n) climbers) long (within_places bs climbers c.requires.loaded.placed) in
    let highest : All (λ (x : Climber). x.place ≤ top) climbers =
    λ k d h. omega (arith, c.min-top.ensures, c.top.ensures k d h, each k d h, c.len.ensures)
    in
    let below : AreBelow bs top (cursors_of bs climbers) = below_places bs top climbers c.requires.loaded.placed highest in
    record {
      all = λ votes climbing. begun_half c.args.params.now c.args.polls votes c.args.tree.now.last first top (cursors_of bs climbers)
          c.k-k.ensures.good c.last-last.ensures.grown c.requires.fit climbing below within;
      rest = refl;
      blocks = refl;
      within = within;
      placed = c.requires.loaded.placed;
      short = omega arith;
      places = omega arith;
      put = omega (arith, c.requires.loaded.put, within);
      below = omega (arith, c.requires.loaded.low, within);
      room = record { most = refl; votes = refl; rungs = refl };
      steady = λ s. refl;
      steps = λ votes climbing. omega arith;
    }

pub take-count-requires-clause-highest : goal.take-count-requires-clause-highest
take-count-requires-clause-highest g c =
    highest_place (blocks_in c.args.tree.now.pending) c.loop-top.top c.loop-top.ladder.climbers c.loop-top.invariant.placed
    (c.loop-top.invariant.all c.requires.begun.0 c.requires.begun.1).1.below

pub pass-requires-clause-below : goal.pass-requires-clause-below
pass-requires-clause-below g c =
    let held = c.args.tree.now in
    let at = c.loop-top.top - 1 in
    let found = entry_at held.pending at (omega (arith, c.loop-top-test.true, c.loop-top.invariant.within)) in
    let here = block_at held.pending at found.0 found.1 in
    rw c.loop-top.invariant.blocks (omega (
      arith,
      c.loop-top-test.true,
      parent_reach held.last held.pending at found.0 c.last-last.ensures.grown found.1,
      ap (λ o. reach (blocks_in held.pending) (parent_in o)) here,
      ap (λ (s : Rungs). s.low) c.take-count.ensures.rest,
    ))

-- the place above the block's
above : (g : given.Over) (c : After-min-top-in-loop-top g) → c.loop-top.top ≡ c.loop-top.top - 1 + 1
above g c = omega (arith, c.loop-top-test.true)

-- the entry at the place, as it was before the poll
here : (g : given.Over) (c : After-min-top-in-loop-top g) → (e : Entry Kept) × (slice_get c.args.tree.now.pending (c.loop-top.top - 1) ≡ Some e)
here g c = entry_at c.args.tree.now.pending (c.loop-top.top - 1) (omega (arith, c.loop-top-test.true, c.loop-top.invariant.within))

-- and still is
seen : (g : given.Over) (c : After-min-top-in-loop-top g) → slice_get c.loop-top.tree.pending (c.loop-top.top - 1) ≡ Some (here g c).0
seen g c =
    (c.loop-top.invariant.all c.requires.begun.0 c.requires.begun.1).0.low (c.loop-top.top - 1) (omega (arith, c.loop-top-test.true)) ∙ (here g c).1

-- it fits
fits : (g : given.Over) (c : After-min-top-in-loop-top g)
    → IsFit c.args.params.now c.args.polls (children_of (blocks_in c.args.tree.now.pending) (here g c).0.block.id) (here g c).0.load
fits g c =
    let first = c.args.tree.now.pending in
    one_of (λ e. IsFit c.args.params.now c.args.polls (children_of (blocks_in first) e.block.id) e.load) first (c.loop-top.top - 1) (here g c).0 c.requires.fit (here g c).1

-- the votes climb to it
rising : (g : given.Over) (c : After-min-top-in-loop-top g) (votes : List Vote) → HaveBegun c.args.params.now votes c.args.tree.now.pending c.args.ladder.now
    → AreClimbing c.args.params.now votes (blocks_in c.args.tree.now.pending) (c.loop-top.top - 1 + 1) (cursors_of (blocks_in c.args.tree.now.pending) c.loop-top.ladder.climbers)
rising g c votes begun =
    let bs = blocks_in c.args.tree.now.pending in
    subst (λ n. AreClimbing c.args.params.now votes bs n (cursors_of bs c.loop-top.ladder.climbers)) (above g c) (c.loop-top.invariant.all votes begun).1

-- those that came are still told when they went on
told : (g : given.Over) (c : After-min-top-in-loop-top g) → IsPermutation (up_from (c.loop-top.top - 1 + 1) c.loop-top.ladder.climbers) c.pass.new.ladder.came
told g c =
    let climbers = c.loop-top.ladder.climbers in
    subst (λ n. IsPermutation (up_from n climbers) c.pass.new.ladder.came) (above g c)
    (subst (IsPermutation (up_from c.loop-top.top climbers)) (sym c.pass.ensures.came) c.take-count.ensures.came)

-- they are no more than K
few : (g : given.Over) (c : After-min-top-in-loop-top g) → climber_total c.pass.new.ladder.came ≤ c.args.params.now.k
few g c =
    let climbers = c.loop-top.ladder.climbers in
    omega (
      arith,
      group_total (c.loop-top.top - 1 + 1) climbers c.pass.new.ladder.came (told g c),
      same_total (blocks_in c.args.tree.now.pending) climbers,
      (rising g c c.requires.begun.0 c.requires.begun.1).total,
    )

-- and were counted
counted : (g : given.Over) (c : After-min-top-in-loop-top g) → c.take-count.result ≡ climber_total c.pass.new.ladder.came
counted g c = omega (arith, c.take-count.ensures.total, ap climber_total c.pass.ensures.came, few g c, c.k-k.ensures.value)

-- those that stand on the ladder when they went on
stand : (g : given.Over) (c : After-min-top-in-loop-top g)
    → IsPermutation (passed_on (blocks_in c.args.tree.now.pending) (c.loop-top.top - 1) (under (c.loop-top.top - 1 + 1) c.loop-top.ladder.climbers) c.pass.new.ladder.came) c.pass.new.ladder.climbers
stand g c =
    let bs = blocks_in c.args.tree.now.pending in
    let went = λ (b : List Header) (l : List Climber) (n : ℕ). IsPermutation (if nat_lt 0 n then passing b (c.loop-top.top - 1) n ∷ l else l) c.pass.new.ladder.climbers in
    let all = climber_total c.pass.new.ladder.came in
    subst (λ n. went bs (under n c.loop-top.ladder.climbers) all) (above g c)
    (subst (λ l. went bs l all) c.take-count.ensures.climbers
    (subst (went bs c.take-count.new.self.climbers) (counted g c)
    (subst (λ b. went b c.take-count.new.self.climbers c.take-count.result) c.loop-top.invariant.blocks c.pass.ensures.same)))

-- so the votes at the block passed it
passed : (g : given.Over) (c : After-min-top-in-loop-top g)
    → HavePassed c.args.tree.now.pending (here g c).0 c.loop-top.ladder.climbers c.pass.new.ladder.came c.pass.new.ladder.climbers
passed g c =
    let held = c.args.tree.now in
    have_passed c.args.params.now c.requires.begun.0 held.last held.pending (c.loop-top.top - 1) (here g c).0 c.loop-top.ladder.climbers c.pass.new.ladder.came c.pass.new.ladder.climbers
    c.last-last.ensures.grown (here g c).1 (rising g c c.requires.begun.0 c.requires.begun.1) c.loop-top.invariant.placed (told g c) (stand g c)

-- the next place is lower
lower : (g : given.Over) (c : After-min-top-in-loop-top g) → c.min-top-in-loop-top.result ≤ c.loop-top.top - 1
lower g c = omega (arith, c.min-top-in-loop-top.ensures)

-- and nobody looks for what is above it
below : (g : given.Over) (c : After-min-top-in-loop-top g)
    → AreBelow (blocks_in c.args.tree.now.pending) c.min-top-in-loop-top.result (merged (here g c).0.block (cursors_of (blocks_in c.args.tree.now.pending) c.loop-top.ladder.climbers))
below g c =
    let last = c.args.tree.now.last in
    let first = c.args.tree.now.pending in
    let bs = blocks_in first in
    let e = (here g c).0 in
    let cs = cursors_of bs c.loop-top.ladder.climbers in
    let later = c.pass.new.ladder.climbers in
    let past : AreBelow bs (c.loop-top.top - 1) (merged e.block cs) =
    climbed_past c.args.params.now c.requires.begun.0 last first (c.loop-top.top - 1) e cs c.last-last.ensures.grown (here g c).1 (rising g c c.requires.begun.0 c.requires.begun.1)
    in
    let high : AreBelow bs c.top-in-loop-top.result (merged e.block cs) =
    All-permutation (λ x. reach bs x.sought ≤ c.top-in-loop-top.result) (cursors_of bs later) (merged e.block cs)
    (IsPermutation-sym (merged e.block cs) (cursors_of bs later) (passed g c).same)
    (below_places bs c.top-in-loop-top.result later (passed g c).placed c.top-in-loop-top.ensures)
    in
    λ k d l. omega (arith, c.min-top-in-loop-top.ensures, high k d l, past k d l)

-- the ladder has the room that it had
room : (g : given.Over) (c : After-min-top-in-loop-top g) → KeepsRoom c.args.ladder.now c.pass.new.ladder
room g c =
    let inv = c.loop-top.invariant in
    record {
      most = c.pass.ensures.room.most ∙ ap (λ (s : Rungs). s.most) c.take-count.ensures.rest ∙ inv.room.most;
      votes = c.pass.ensures.room.votes ∙ ap (λ (s : Rungs). s.votes) c.take-count.ensures.rest ∙ inv.room.votes;
      rungs = c.pass.ensures.room.rungs ∙ ap (λ (s : Rungs). s.rungs) c.take-count.ensures.rest ∙ inv.room.rungs;
    }

-- where its load takes the poll, the half that is done grows
half_on : (g : given.Over) (c : After-min-top-in-loop-top g) (load : Kept)
    → HasTaken c.args.params.now c.args.polls (votes_at (cursors_of (blocks_in c.args.tree.now.pending) c.loop-top.ladder.climbers) (here g c).0.block.id) (here g c).0.load load
    → (votes : List Vote) → HaveBegun c.args.params.now votes c.args.tree.now.pending c.args.ladder.now
    → IsHalf c.args.params.now c.args.polls votes c.args.tree.now.pending (set_load c.loop-top.tree.pending (c.loop-top.top - 1) load) c.min-top-in-loop-top.result
    × AreClimbing c.args.params.now votes (blocks_in c.args.tree.now.pending) c.min-top-in-loop-top.result (cursors_of (blocks_in c.args.tree.now.pending) c.pass.new.ladder.climbers)
half_on g c load took votes begun =
    let p = c.args.params.now in
    let first = c.args.tree.now.pending in
    let bs = blocks_in first in
    let at = c.loop-top.top - 1 in
    let m = c.min-top-in-loop-top.result in
    let e = (here g c).0 in
    let cs = cursors_of bs c.loop-top.ladder.climbers in
    let r = step_half p c.args.polls votes c.args.tree.now.last first c.loop-top.tree.pending at m e load cs c.k-k.ensures.good c.last-last.ensures.grown c.requires.fit
    (subst (IsHalf p c.args.polls votes first c.loop-top.tree.pending) (above g c) (c.loop-top.invariant.all votes begun).0) (rising g c votes begun) (here g c).1 took (below g c) (lower g c)
    in
    (r.0, climbing_again p votes bs m (merged e.block cs) (cursors_of bs c.pass.new.ladder.climbers) (passed g c).same r.1)

-- and what it took of steps is paid by its children
steps_on : (g : given.Over) (c : After-min-top-in-loop-top g) (n : ℕ) (votes : List Vote) → HaveBegun c.args.params.now votes c.args.tree.now.pending c.args.ladder.now
    → n ≤ c.loop-top.steps + 5 * recording_at c.args.params.now (blocks_in c.args.tree.now.pending) votes (here g c).0.block.id
    → n ≤ c.args.steps.now + 5 * recording_in c.args.params.now (blocks_in c.args.tree.now.pending) votes (drop c.min-top-in-loop-top.result (blocks_in c.args.tree.now.pending))
steps_on g c n votes begun own =
    let p = c.args.params.now in
    let first = c.args.tree.now.pending in
    let bs = blocks_in first in
    let at = c.loop-top.top - 1 in
    let before : c.loop-top.steps ≤ c.args.steps.now + 5 * recording_in p bs votes (drop (at + 1) bs) =
    subst (λ n. c.loop-top.steps ≤ c.args.steps.now + 5 * recording_in p bs votes (drop n bs)) (above g c) (c.loop-top.invariant.steps votes begun)
    in
    omega (arith, own, before, paid p votes first at c.min-top-in-loop-top.result (here g c).0 (here g c).1 (lower g c))

-- where there is no quorum the tree stays as it is
pub loop-top-preserved-then-count-alpha_preference : goal.loop-top-preserved-then-count-alpha_preference
loop-top-preserved-then-count-alpha_preference g c =
    let at = (goal.at.loop-top-preserved-then-count-alpha_preference g c).After-min-top-in-loop-top in
    let p = c.args.params.now in
    let polls = c.args.polls in
    let first = c.args.tree.now.pending in
    let bs = blocks_in first in
    let came = c.pass.new.ladder.came in
    let inv = c.loop-top.invariant in
    let e = (here g at).0 in
    let took : HasTaken p polls (votes_at (cursors_of bs c.loop-top.ladder.climbers) e.block.id) e.load e.load =
    λ children fits. left_alone p polls children e.load (votes_at (cursors_of bs c.loop-top.ladder.climbers) e.block.id) c.k-k.ensures.good fits
    (λ front. omega (
      arith,
      ap (λ f. f front) (passed g at).votes,
      few_came e.block.id (cursors_of bs came) front,
      same_total bs came,
      counted g at,
      c.if-count-alpha_preference.true,
      c.alpha_preference.ensures.value,
    ))
    in
    record {
      all = λ votes begun.
          let r = half_on g at e.load took votes begun in
          (subst (λ l. IsHalf p polls votes first l c.min-top-in-loop-top.result) (same_load c.loop-top.tree.pending (c.loop-top.top - 1) e (seen g at)) r.0, r.1);
      rest = inv.rest;
      blocks = inv.blocks;
      within = omega (arith, lower g at, inv.within);
      short = omega (arith, (passed g at).short, inv.short);
      placed = (passed g at).placed;
      places = inv.places;
      put = omega (arith, c.pass.ensures.put, c.pass.ensures.room.most, ap (λ (s : Rungs). s.put) c.take-count.ensures.rest, ap (λ (s : Rungs). s.most) c.take-count.ensures.rest, lower g at, c.loop-top-test.true, inv.put);
      below = omega (arith, c.pass.ensures.low, ap (λ (s : Rungs). s.low) c.take-count.ensures.rest, lower g at, c.loop-top-test.true);
      room = room g at;
      steady = inv.steady;
      steps = λ votes begun. steps_on g at c.loop-top.steps votes begun (omega arith);
    }

pub gather-requires-clause-total : goal.gather-requires-clause-total
gather-requires-clause-total g c = omega (arith, few g (goal.at.gather-requires-clause-total g c).After-min-top-in-loop-top, c.k-k.ensures.value)

pub gather-requires-clause-places : goal.gather-requires-clause-places
gather-requires-clause-places g c =
    omega (
      arith,
      c.requires.places,
      c.loop-top.invariant.places,
      c.loop-top.invariant.short,
      group_few (c.loop-top.top - 1 + 1) c.loop-top.ladder.climbers c.pass.new.ladder.came (told g (goal.at.gather-requires-clause-places g c).After-min-top-in-loop-top),
    )

pub gather-requires-clause-placed : goal.gather-requires-clause-placed
gather-requires-clause-placed g c =
    let bs = blocks_in c.args.tree.now.pending in
    let all = of_group (λ x. (x.passed < length bs) × (x.place ≡ reach bs (parent_in (slice_get bs x.passed)))) (c.loop-top.top - 1 + 1) c.loop-top.ladder.climbers c.pass.new.ladder.came
    (told g (goal.at.gather-requires-clause-placed g c).After-min-top-in-loop-top) c.loop-top.invariant.placed
    in
    λ k d h. omega (arith, (all k d h).0, ap length c.loop-top.invariant.blocks, length-map c.loop-top.tree.pending (λ e. e.block))

pub gather-requires-clause-counts : goal.gather-requires-clause-counts
gather-requires-clause-counts g c =
    let at = (goal.at.gather-requires-clause-counts g c).After-min-top-in-loop-top in
    let climbers = c.loop-top.ladder.climbers in
    of_group (λ x. 0 < x.count) (c.loop-top.top - 1 + 1) climbers c.pass.new.ladder.came (told g at)
    (all_back (λ x. 0 < x.count) (cursor_of (blocks_in c.args.tree.now.pending)) climbers (rising g at c.requires.begun.0 c.requires.begun.1).counts)

-- the load that was lent is the entry's
lent : (g : given.Over) (c : In-Some g) (e : Entry Kept) → slice_get c.loop-top.tree.pending (c.loop-top.top - 1) ≡ Some e → e.load ≡ c.in-Some.load.now
lent g c e there =
    let one : Some e.load ≡ Some c.in-Some.load.now =
    sym (ap (option_map (λ (x : Entry Kept). x.load)) there) ∙ sym c.load_mut.ensures.value ∙ ap option_copied_mut c.in-Some.is
    in
    cc

pub record-moved-requires-clause-most : goal.record-moved-requires-clause-most
record-moved-requires-clause-most g c =
    let at = (goal.at.record-moved-requires-clause-most g c).After-min-top-in-loop-top in
    let load = lent g (goal.at.record-moved-requires-clause-most g c).In-Some (here g at).0 (seen g at) in
    let fit = subst (IsFit c.args.params.now c.args.polls (children_of (blocks_in c.args.tree.now.pending) (here g at).0.block.id)) load (fits g at) in
    at_most c.args.params.now c.in-Some.load.now.conflict _ fit.parameters
    (omega (arith, ap total_count c.entries.ensures.list, c.gather.ensures.total, few g at))

pub record-moved-requires-clause-given : goal.record-moved-requires-clause-given
record-moved-requires-clause-given g c =
    let at = (goal.at.record-moved-requires-clause-given g c).After-min-top-in-loop-top in
    let id = (here g at).0.block.id in
    let load = lent g (goal.at.record-moved-requires-clause-given g c).In-Some (here g at).0 (seen g at) in
    let fit = subst (IsFit c.args.params.now c.args.polls (children_of (blocks_in c.args.tree.now.pending) id)) load (fits g at) in
    let among = subst (λ bs. All (HasCome bs id) (cursors_of bs c.pass.new.ladder.came) → All (λ v. Contains (children_of bs id) v.id) c.gather.new.children.list) c.loop-top.invariant.blocks
    (c.gather.ensures.among id)
    in
    rw c.entries.ensures.list (subst (λ l. All (λ v. Contains l v.id) c.gather.new.children.list) (sym fit.ids) (among (passed g at).come))

-- where there is one its load records the votes
pub loop-top-preserved-in-Some : goal.loop-top-preserved-in-Some
loop-top-preserved-in-Some g c =
    let at = (goal.at.loop-top-preserved-in-Some g c).After-min-top-in-loop-top in
    let p = c.args.params.now in
    let polls = c.args.polls in
    let first = c.args.tree.now.pending in
    let bs = blocks_in first in
    let now = c.loop-top.tree.pending in
    let place = c.loop-top.top - 1 in
    let inv = c.loop-top.invariant in
    let cs = cursors_of bs c.loop-top.ladder.climbers in
    let e = (here g at).0 in
    let load : e.load ≡ c.in-Some.load.now = lent g (goal.at.loop-top-preserved-in-Some g c).In-Some e (seen g at) in
    let new = c.record-moved.new.self in
    let gathered = subst (λ b. All (HasCome b e.block.id) (cursors_of b c.pass.new.ladder.came) → votes_on c.gather.new.children.list ≡ votes_at (cursors_of b c.pass.new.ladder.came) e.block.id) inv.blocks
    (c.gather.ensures.votes e.block.id)
    in
    let all : votes_on c.entries.result.now ≡ votes_at cs e.block.id = ap votes_on c.entries.ensures.list ∙ gathered (passed g at).come ∙ sym (passed g at).votes in
    let recorded : HasTaken p polls (votes_on c.entries.result.now) c.in-Some.load.now new = λ children fit. (c.record-moved.ensures.counters p children fit, c.record-moved.ensures.fit p children fit) in
    let took : HasTaken p polls (votes_at cs e.block.id) e.load new =
    subst (λ (f : List Bool → ℕ). HasTaken p polls f e.load new) all (subst (λ (k : Kept). HasTaken p polls (votes_on c.entries.result.now) k new) (sym load) recorded)
    in
    let both = λ (s : (c.loop-top.moved || c.record-moved.result) ≡ false). or_parts c.loop-top.moved c.record-moved.result s in
    let reached = is_quorum p.alpha_preference c.take-count.result (omega (arith, c.if-count-alpha_preference.false, c.alpha_preference.ensures.value)) in
    let steps : ℕ → Type 0 = λ n. c.record-moved.new.steps ≤ c.loop-top.steps + 5 * n in
    record {
      all = half_on g at new took;
      rest = ap (λ (t : Held Kept). record t { pending = set_load now place new }) inv.rest;
      blocks = set_blocks now place new ∙ inv.blocks;
      within = omega (arith, lower g at, inv.within);
      short = omega (arith, (passed g at).short, inv.short);
      placed = (passed g at).placed;
      places = omega (arith, c.gather.ensures.places, inv.places);
      put = omega (arith, c.pass.ensures.put, c.pass.ensures.room.most, ap (λ (s : Rungs). s.put) c.take-count.ensures.rest, ap (λ (s : Rungs). s.most) c.take-count.ensures.rest, lower g at, c.loop-top-test.true, inv.put);
      below = omega (arith, c.pass.ensures.low, ap (λ (s : Rungs). s.low) c.take-count.ensures.rest, lower g at, c.loop-top-test.true);
      room = room g at;
      steady = λ s.
          leads_set g.R.Rule.answer now place e new (seen g at)
          (subst (λ (k : Kept). IsSteady g.R.Rule.answer c.record-moved.result k new) (sym load) c.record-moved.ensures.steady (both s).1) ∙ inv.steady (both s).0;
      steps = λ votes begun.
          let came = came_here p votes c.args.tree.now.last first place e cs c.last-last.ensures.grown (rising g at votes begun) (here g at).1 in
          let many : votes_below bs votes e.block.id [] ≡ c.take-count.result = sym (ap (λ f. f []) came) ∙ (passed g at).total ∙ sym (counted g at) in
          let own : steps (if nat_le p.alpha_preference (votes_below bs votes e.block.id []) then length (children_of bs e.block.id) else 0) =
          rw (many, reached) (subst (λ (l : List (List ℕ)). steps (length l)) (fits g at).ids
          (subst (λ (k : Kept). steps (length (ids_in k.conflict))) (sym load) c.record-moved.ensures.steps))
          in
          steps_on g at c.record-moved.new.steps votes begun own;
    }

pub returns-clause-steps : goal.returns-clause-steps
returns-clause-steps g c =
    λ votes climbing.
    let bs = blocks_in c.args.tree.now.pending in
    let zero_left : c.loop-top.top ≡ 0 = omega (arith, c.loop-top-test.false) in
    subst (λ n. c.loop-top.steps ≤ c.args.steps.now + 5 * recording_in c.args.params.now bs votes (drop n bs)) zero_left (c.loop-top.invariant.steps votes climbing)

pub returns-clause-climbed : goal.returns-clause-climbed
returns-clause-climbed g c =
    let p = c.args.params.now in
    let first = c.args.tree.now.pending in
    let now = c.loop-top.tree.pending in
    let inv = c.loop-top.invariant in
    let zero_left : c.loop-top.top ≡ 0 = omega (arith, c.loop-top-test.false) in
    let ended : (votes : List Vote) → HaveBegun p votes first c.args.ladder.now → IsHalf p c.args.polls votes first now 0 =
    λ votes begun. subst (IsHalf p c.args.polls votes first now) zero_left (inv.all votes begun).0
    in
    record {
      pending = λ votes begun. ended_half p c.args.polls votes first now (ended votes begun);
      climbing = λ votes begun. subst (λ n. AreClimbing p votes (blocks_in first) n (cursors_of (blocks_in first) c.loop-top.ladder.climbers)) zero_left (inv.all votes begun).1;
      placed = inv.placed;
      short = inv.short;
      rest = inv.rest;
      blocks = inv.blocks;
      fit = ended_fit p c.args.polls c.requires.begun.0 first now (ended c.requires.begun.0 c.requires.begun.1) inv.blocks;
      low = omega (arith, inv.below);
      room = inv.room;
    }
