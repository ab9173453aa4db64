use Rattle.std.proofs.Common.{◌≡◌, ◌+◌, ◌*◌, ◌<◌, ◌≤◌, nat_le, Bool, false, ◌||◌, [], ◌∷◌, drop, if◌then◌else◌, ℕ, List, All, Contains, Some, slice_get, length, None, refl, sym, ap, subst, ◌∙◌, arith}
use Rattle.std.specs.Option.{option_map, option_copied_mut}
use Rattle.std.proofs.lemmas.Bool.{or_parts}
use Rattle.std.proofs.lemmas.List.{length-map}
use Rattle.std.proofs.lemmas.List.Elements.{All-cons, All-nil}
use Rattle.std.proofs.lemmas.List.Sums.{sum_by-cons}
use Rattle.std.proofs.lemmas.Option.{none-some}
use Rattle.snow_base.specs.declared.block.Vote.{Vote}
use Rattle.snow_base.specs.Model.Ancestry.{votes_below}
use Rattle.snow_base.specs.Model.Votes.{total_count}
use Rattle.snow_board.specs.Model.Conflict.{votes_on}
use Rattle.snow_tree.specs.Kept.Held.{Entry, Held, blocks_in, children_of, set_load}
use Rattle.snow_climb.specs.Kept.Climbing.{above, id_in, reach}
use Rattle.snow_climb.proofs.Begun.{no_block, vote_there}
use Rattle.snow_climb.proofs.Climbers.{parent_placed}
use Rattle.snow_climb.proofs.Reached.{reach_within}
use Rattle.snow_topo.specs.Kept.Children.{Kept, ids_in, IsFit}
use Rattle.snow_topo.specs.Kept.Half.{IsHalf, HasTaken}
use Rattle.snow_topo.specs.Kept.Leading.{IsSteady}
use Rattle.snow_topo.specs.Kept.Recording.{recording_at, recording_in}
use Rattle.snow_topo.proofs.Climbs.{entry_at, one_of, set_blocks}
use Rattle.snow_topo.proofs.Costing.{is_quorum, paid}
use Rattle.snow_topo.proofs.Counted.{counted_all}
use Rattle.snow_topo.proofs.Lines.{sought, vote_at, sought_low, line_begun, line_counted, line_ended, line_passed, line_step, line_votes, whole_vote, all_stepped, none_stepped}
use Rattle.snow_topo.proofs.Steady.{leads_set}
use Rattle.snow_topo.proofs.Taken.{at_most, left_alone}
use Rattle.snow_topo.proofs.counting.count_votes.Given as given
use Rattle.snow_topo.proofs.counting.count_votes.Goals as goal
use Rattle.snow_topo.proofs.counting.count_votes.Goals.{After-parent_place, After-from_ref}

-- there are some votes
some : (g : given.Over) (c : After-parent_place g) → 0 < c.in-Some.one.count
some g c = omega (arith, c.in-Some.ensures.quorum, c.k-k.ensures.good.majority)

pub loop-above-init : goal.loop-above-init
loop-above-init g c =
    let first = c.args.tree.now.pending in
    let one = c.in-Some.one in
    let there = vote_there first one.id c.in-Some-place_of.from no_block (sym c.place_of.ensures.place ∙ c.in-Some-place_of.is) in
    record {
      line = line_begun c.args.params.now c.args.polls one c.args.tree.now.last first c.in-Some-place_of.from c.k-k.ensures.good c.last-last.ensures.grown c.requires.fit.pending (sym c.place_of.ensures.place ∙ c.in-Some-place_of.is)
          (omega (arith, there.0, length-map first (λ e. e.block))) (omega (arith, c.in-Some.ensures.quorum, c.k-k.ensures.good.majority)) c.in-Some.ensures.most;
      vote = λ i. record { id = sym there.1 i; count = one.count };
      rest = refl;
      blocks = refl;
      steady = λ s. refl;
      steps = omega arith;
    }

-- where the parent stands
found : (g : given.Over) (c : After-parent_place g)
    → above c.parent_place.result ≡ reach (blocks_in c.args.tree.now.pending) (sought (blocks_in c.args.tree.now.pending) c.loop-above.at)
found g c =
    let now = c.loop-above.tree.pending in
    let inv = c.loop-above.invariant in
    let inside : c.loop-above.at < length now =
    omega (arith, inv.line.within, ap length inv.blocks, length-map now (λ e. e.block), length-map c.args.tree.now.pending (λ e. e.block))
    in
    subst (λ bs. above c.parent_place.result ≡ reach bs (sought bs c.loop-above.at)) inv.blocks (parent_placed now c.loop-above.at c.parent_place.result inside c.parent_place.ensures)

-- the entry there, as it was before the poll
here : (g : given.Over) (c : After-parent_place g) (n : ℕ) → c.parent_place.result ≡ Some n → (e : Entry Kept) × (slice_get c.args.tree.now.pending n ≡ Some e)
here g c n is =
    let bs = blocks_in c.args.tree.now.pending in
    entry_at c.args.tree.now.pending n (omega (arith, found g c, ap above is, reach_within bs (sought bs c.loop-above.at), length-map c.args.tree.now.pending (λ e. e.block)))

-- and still is
seen : (g : given.Over) (c : After-parent_place g) (n : ℕ) (is : c.parent_place.result ≡ Some n) → slice_get c.loop-above.tree.pending n ≡ Some (here g c n is).0
seen g c n is = c.loop-above.invariant.line.half.low n (omega (arith, found g c, ap above is)) ∙ (here g c n is).1

-- it fits
fits : (g : given.Over) (c : After-parent_place g) (n : ℕ) (is : c.parent_place.result ≡ Some n)
    → IsFit c.args.params.now c.args.polls (children_of (blocks_in c.args.tree.now.pending) (here g c n is).0.block.id) (here g c n is).0.load
fits g c n is =
    let first = c.args.tree.now.pending in
    one_of (λ e. IsFit c.args.params.now c.args.polls (children_of (blocks_in first) e.block.id) e.load) first n (here g c n is).0 c.requires.fit.pending (here g c n is).1

pub id_at-requires : goal.id_at-requires
id_at-requires g c =
    let at = (goal.at.id_at-requires g c).After-parent_place in
    let first = c.args.tree.now.pending in
    let bs = blocks_in first in
    omega (
      arith,
      found g at,
      ap above c.in-Some-parent_place.is,
      reach_within bs (sought bs c.loop-above.at),
      ap length c.loop-above.invariant.blocks,
      length-map c.loop-above.tree.pending (λ e. e.block),
    )

-- the load that was lent is the entry's
lent : (g : given.Over) (c : After-from_ref g) (e : Entry Kept) → slice_get c.loop-above.tree.pending c.in-Some-parent_place.above ≡ Some e → e.load ≡ c.in-Some-load_mut.load.now
lent g c e there =
    let one : Some e.load ≡ Some c.in-Some-load_mut.load.now =
    sym (ap (option_map (λ (x : Entry Kept). x.load)) there) ∙ sym c.load_mut.ensures.value ∙ ap option_copied_mut c.in-Some-load_mut.is
    in
    cc

pub record-moved-requires-clause-most : goal.record-moved-requires-clause-most
record-moved-requires-clause-most g c =
    let at = (goal.at.record-moved-requires-clause-most g c).After-parent_place in
    let n = c.in-Some-parent_place.above in
    let load = lent g (goal.at.record-moved-requires-clause-most g c).After-from_ref (here g at n c.in-Some-parent_place.is).0 (seen g at n c.in-Some-parent_place.is) in
    let fit = subst (IsFit c.args.params.now c.args.polls (children_of (blocks_in c.args.tree.now.pending) (here g at n c.in-Some-parent_place.is).0.block.id)) load (fits g at n c.in-Some-parent_place.is) in
    at_most c.args.params.now c.in-Some-load_mut.load.now.conflict _ fit.parameters
    (omega (
      arith,
      ap total_count c.from_ref.ensures.value,
      sum_by-cons (λ (v : Vote). v.count) c.loop-above.vote [],
      ap (λ (v : Vote). v.count) c.loop-above.invariant.vote,
      c.in-Some.ensures.most,
    ))

pub record-moved-requires-clause-given : goal.record-moved-requires-clause-given
record-moved-requires-clause-given g c =
    let at = (goal.at.record-moved-requires-clause-given g c).After-parent_place in
    let first = c.args.tree.now.pending in
    let one = c.in-Some.one in
    let n = c.in-Some-parent_place.above in
    let inv = c.loop-above.invariant in
    let e = (here g at n c.in-Some-parent_place.is).0 in
    let load = lent g (goal.at.record-moved-requires-clause-given g c).After-from_ref e (seen g at n c.in-Some-parent_place.is) in
    let fit = subst (IsFit c.args.params.now c.args.polls (children_of (blocks_in first) e.block.id)) load (fits g at n c.in-Some-parent_place.is) in
    let is = sym (found g at) ∙ ap above c.in-Some-parent_place.is in
    let passed = line_passed c.args.params.now c.args.polls one c.args.tree.now.last first c.loop-above.tree.pending c.loop-above.at n e c.last-last.ensures.grown inv.line is (here g at n c.in-Some-parent_place.is).1
    (some g at)
    in
    let all = (line_votes first c.loop-above.at one.count e.block.id passed.come).1 in
    let given = subst (λ l. All (λ v. Contains l v.id) (vote_at (blocks_in first) c.loop-above.at one.count ∷ [])) (sym fit.ids) all in
    rw c.from_ref.ensures.value (subst (λ v. All (λ w. Contains (ids_in c.in-Some-load_mut.load.now.conflict) w.id) (v ∷ [])) (sym inv.vote) given)

-- the parent stands before
falls : (g : given.Over) (c : After-parent_place g) (n : ℕ) → c.parent_place.result ≡ Some n → n < c.loop-above.at
falls g c n is =
    let first = c.args.tree.now.pending in
    let own = entry_at first c.loop-above.at c.loop-above.invariant.line.within in
    omega (arith, found g c, ap above is, sought_low c.args.tree.now.last first c.loop-above.at own.0 c.last-last.ensures.grown own.1)

pub loop-above-smaller-in-Some-load_mut : goal.loop-above-smaller-in-Some-load_mut
loop-above-smaller-in-Some-load_mut g c = falls g (goal.at.loop-above-smaller-in-Some-load_mut g c).After-parent_place c.in-Some-parent_place.above c.in-Some-parent_place.is

pub loop-above-smaller : goal.loop-above-smaller
loop-above-smaller g c = falls g (goal.at.loop-above-smaller g c).After-parent_place c.in-Some-parent_place.above c.in-Some-parent_place.is

pub loop-above-preserved : goal.loop-above-preserved
loop-above-preserved g c =
    let at = (goal.at.loop-above-preserved g c).After-parent_place in
    let e = (here g at c.in-Some-parent_place.above c.in-Some-parent_place.is).0 in
    absurd (none-some e.load
    (sym (ap option_copied_mut c.in_default-load_mut.is) ∙ c.load_mut.ensures.value ∙ ap (option_map (λ (x : Entry Kept). x.load)) (seen g at c.in-Some-parent_place.above c.in-Some-parent_place.is)))

pub loop-above-preserved-in-Some-load_mut : goal.loop-above-preserved-in-Some-load_mut
loop-above-preserved-in-Some-load_mut g c =
    let at = (goal.at.loop-above-preserved-in-Some-load_mut g c).After-parent_place in
    let p = c.args.params.now in
    let polls = c.args.polls in
    let one = c.in-Some.one in
    let votes = one ∷ [] in
    let last = c.args.tree.now.last in
    let first = c.args.tree.now.pending in
    let bs = blocks_in first in
    let now = c.loop-above.tree.pending in
    let n = c.in-Some-parent_place.above in
    let inv = c.loop-above.invariant in
    let grown = c.last-last.ensures.grown in
    let there = (here g at n c.in-Some-parent_place.is).1 in
    let e = (here g at n c.in-Some-parent_place.is).0 in
    let some = some g at in
    let is = sym (found g at) ∙ ap above c.in-Some-parent_place.is in
    let load : e.load ≡ c.in-Some-load_mut.load.now = lent g (goal.at.loop-above-preserved-in-Some-load_mut g c).After-from_ref e (seen g at n c.in-Some-parent_place.is) in
    let new = c.record-moved.new.self in
    let all : votes_on c.from_ref.result.now ≡ votes_on (vote_at bs c.loop-above.at one.count ∷ []) = ap votes_on c.from_ref.ensures.value ∙ ap (λ v. votes_on (v ∷ [])) inv.vote in
    let recorded : HasTaken p polls (votes_on c.from_ref.result.now) c.in-Some-load_mut.load.now new = λ children fit. (c.record-moved.ensures.counters p children fit, c.record-moved.ensures.fit p children fit) in
    let took : HasTaken p polls (votes_on (vote_at bs c.loop-above.at one.count ∷ [])) e.load new =
    subst (λ (f : List Bool → ℕ). HasTaken p polls f e.load new) all (subst (λ (k : Kept). HasTaken p polls (votes_on c.from_ref.result.now) k new) (sym load) recorded)
    in
    let id = c.id_at.ensures ∙ ap (λ l. id_in (slice_get l n)) inv.blocks in
    let both = λ (s : (c.loop-above.moved || c.record-moved.result) ≡ false). or_parts c.loop-above.moved c.record-moved.result s in
    let many = line_counted p polls one last first now c.loop-above.at n e grown inv.line is there some in
    let reached = is_quorum p.alpha_preference one.count c.in-Some.ensures.quorum in
    let steps : ℕ → Type 0 = λ m. c.record-moved.new.steps ≤ c.loop-above.steps + 5 * m in
    let own : steps (if nat_le p.alpha_preference (votes_below bs votes e.block.id []) then length (children_of bs e.block.id) else 0) =
    rw (many, reached) (subst (λ (l : List (List ℕ)). steps (length l)) (fits g at n c.in-Some-parent_place.is).ids
    (subst (λ (k : Kept). steps (length (ids_in k.conflict))) (sym load) c.record-moved.ensures.steps))
    in
    let before : c.loop-above.steps ≤ c.args.steps.now + 5 * recording_in p bs votes (drop (n + 1) bs) =
    subst (λ m. c.loop-above.steps ≤ c.args.steps.now + 5 * recording_in p bs votes (drop m bs)) is inv.steps
    in
    record {
      line = line_step p polls one last first now c.loop-above.at n e new c.k-k.ensures.good grown c.requires.fit.pending inv.line is there some took;
      vote = λ i. record { id = id i; count = one.count };
      rest = ap (λ (t : Held Kept). record t { pending = set_load now n new }) inv.rest;
      blocks = set_blocks now n new ∙ inv.blocks;
      steady = λ s.
          leads_set g.R.Rule.answer now n e new (seen g at n c.in-Some-parent_place.is)
          (subst (λ (k : Kept). IsSteady g.R.Rule.answer c.record-moved.result k new) (sym load) c.record-moved.ensures.steady (both s).1) ∙ inv.steady (both s).0;
      steps = omega (arith, own, before, paid p votes first n (reach bs (sought bs n)) e there (sought_low last first n e grown there));
    }

-- at the end the votes look for no pending block
ended : (g : given.Over) (c : After-parent_place g) → c.parent_place.result ≡ None → reach (blocks_in c.args.tree.now.pending) (sought (blocks_in c.args.tree.now.pending) c.loop-above.at) ≡ 0
ended g c none = sym (found g c) ∙ ap above none

-- they came to the last accepted block
came : (g : given.Over) (c : After-parent_place g) → c.parent_place.result ≡ None
    → (votes_on (vote_at (blocks_in c.args.tree.now.pending) c.loop-above.at c.in-Some.one.count ∷ []) ≡ votes_below (blocks_in c.args.tree.now.pending) (c.in-Some.one ∷ []) c.args.tree.now.last)
    × Contains (children_of (blocks_in c.args.tree.now.pending) c.args.tree.now.last) (id_in (slice_get (blocks_in c.args.tree.now.pending) c.loop-above.at))
came g c none =
    line_ended c.args.params.now c.args.polls c.in-Some.one c.args.tree.now.last c.args.tree.now.pending c.loop-above.tree.pending c.loop-above.at c.last-last.ensures.grown c.loop-above.invariant.line (ended g c none)

pub record-moved-requires-2-clause-given : goal.record-moved-requires-2-clause-given
record-moved-requires-2-clause-given g c =
    let at = (goal.at.record-moved-requires-2-clause-given g c).After-parent_place in
    let bs = blocks_in c.args.tree.now.pending in
    let ids = ids_in c.args.root.now.conflict in
    let child = subst (λ l. Contains l (id_in (slice_get bs c.loop-above.at))) (sym c.requires.fit.root.ids) (came g at c.in_default-parent_place.is).1 in
    let given : All (λ (v : Vote). Contains ids v.id) (vote_at bs c.loop-above.at c.in-Some.one.count ∷ []) =
    All-cons (λ (v : Vote). Contains ids v.id) (vote_at bs c.loop-above.at c.in-Some.one.count) [] child (All-nil (λ (v : Vote). Contains ids v.id))
    in
    rw c.from_ref-2.ensures.value (subst (λ v. All (λ (w : Vote). Contains ids w.id) (v ∷ [])) (sym c.loop-above.invariant.vote) given)

pub returns-clause-counted : goal.returns-clause-counted
returns-clause-counted g c =
    let at = (goal.at.returns-clause-counted g c).After-parent_place in
    let p = c.args.params.now in
    let polls = c.args.polls in
    let one = c.in-Some.one in
    let votes = one ∷ [] in
    let root = c.args.root.now in
    let held = c.args.tree.now in
    let bs = blocks_in held.pending in
    let new = c.record-moved-2.new.self in
    let inv = c.loop-above.invariant in
    let end = ended g at c.in_default-parent_place.is in
    let come = (came g at c.in_default-parent_place.is).0 in
    let stepped = all_stepped p polls votes held c.loop-above.tree (subst (IsHalf p polls votes held.pending c.loop-above.tree.pending) end inv.line.half) inv.rest inv.blocks in
    let all = ap votes_on c.from_ref-2.ensures.value ∙ ap (λ v. votes_on (v ∷ [])) inv.vote ∙ come in
    let recorded : HasTaken p polls (votes_on c.from_ref-2.result.now) root new = λ children fit. (c.record-moved-2.ensures.counters p children fit, c.record-moved-2.ensures.fit p children fit) in
    let took = subst (λ (f : List Bool → ℕ). HasTaken p polls f root new) all recorded in
    let many : votes_below bs votes held.last [] ≡ one.count = sym (ap (λ f. f []) come) ∙ whole_vote (vote_at bs c.loop-above.at one.count) in
    let own : c.record-moved-2.new.steps ≤ c.loop-above.steps + 5 * recording_at p bs votes held.last =
    rw (many, is_quorum p.alpha_preference one.count c.in-Some.ensures.quorum) (omega (arith, c.record-moved-2.ensures.steps, ap length c.requires.fit.root.ids))
    in
    let before : c.loop-above.steps ≤ c.args.steps.now + 5 * recording_in p bs votes bs =
    subst (λ n. c.loop-above.steps ≤ c.args.steps.now + 5 * recording_in p bs votes (drop n bs)) end inv.steps
    in (
      votes,
      counted_all g.R.Rule.answer p polls votes root new held c.loop-above.tree _ c.requires.fit.root stepped took
          (λ s. c.record-moved-2.ensures.steady (or_parts c.loop-above.moved c.record-moved-2.result s).1)
          (λ s. inv.steady (or_parts c.loop-above.moved c.record-moved-2.result s).0),
      c.in-Some.ensures.same,
      omega (arith, own, before),
    )

-- votes for a block that isn't pending come nowhere
pub returns-in_default-place_of-clause-counted : goal.returns-in_default-place_of-clause-counted
returns-in_default-place_of-clause-counted g c =
    let p = c.args.params.now in
    let polls = c.args.polls in
    let one = c.in-Some.one in
    let root = c.args.root.now in
    let held = c.args.tree.now in
    let good = c.k-k.ensures.good in
    let some : 0 < one.count = omega (arith, c.in-Some.ensures.quorum, good.majority) in
    let none = none_stepped p polls one held good c.last-last.ensures.grown c.requires.fit.pending (sym c.place_of.ensures.place ∙ c.in_default-place_of.is) some c.in-Some.ensures.most in
    let votes = votes_below (blocks_in held.pending) (one ∷ []) held.last in
    let took : HasTaken p polls votes root root = λ children fits. left_alone p polls children root votes good fits (λ front. omega (arith, none.1 front, good.majority)) in (
      one ∷ [],
      counted_all g.R.Rule.answer p polls (one ∷ []) root root held held _ c.requires.fit.root none.0 took (λ s. refl) (λ s. refl),
      c.in-Some.ensures.same,
      omega arith,
    )
