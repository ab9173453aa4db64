use Rattle.std.proofs.Common.{◌≡◌, ◌+◌, ◌*◌, ◌<◌, ◌≤◌, ℕ, Bool, [], List, All, Contains, length, slice_get, refl, sym, ap, subst, ◌∙◌, arith}
use Rattle.std.proofs.lemmas.Bool.{or_parts}
use Rattle.std.proofs.lemmas.List.{length-map}
use Rattle.snow_base.specs.Model.Ancestry.{votes_below}
use Rattle.snow_base.specs.Model.Votes.{total_count}
use Rattle.snow_board.specs.Model.Conflict.{votes_on}
use Rattle.snow_board.specs.Kept.Cursors.{votes_at}
use Rattle.snow_tree.specs.Kept.Held.{blocks_in, children_of}
use Rattle.snow_climb.specs.Kept.Climbing.{climber_total, cursor_of, cursors_of, parent_in, reach, HasCome}
use Rattle.snow_topo.specs.Clauses.Ballot.{votes_of}
use Rattle.snow_topo.specs.Kept.Counting.{HasStepped}
use Rattle.snow_topo.specs.Kept.Half.{HasTaken}
use Rattle.snow_topo.specs.Kept.Recording.{recording_at}
use Rattle.snow_climb.proofs.Begun.{no_block}
use Rattle.snow_climb.proofs.Climbers.{all_back, same_total, highest_place, of_group, group_total, group_few, group_come_last, votes_of_all}
use Rattle.snow_climb.proofs.Merged.{all_came, few_came}
use Rattle.snow_topo.proofs.Costing.{is_quorum}
use Rattle.snow_topo.proofs.Counted.{came_last, counted_all}
use Rattle.snow_topo.proofs.Taken.{left_alone, at_most}
use Rattle.snow_topo.proofs.counting.count_all.Given as given
use Rattle.snow_topo.proofs.counting.count_all.Goals as goal
use Rattle.snow_topo.proofs.counting.count_all.Goals.{After-take-count}

pub take-count-requires-clause-highest : goal.take-count-requires-clause-highest
take-count-requires-clause-highest g c =
    let climbed = c.climb-moved.ensures.climbed in
    highest_place (blocks_in c.args.tree.now.pending) 0 c.climb-moved.new.ladder.climbers climbed.placed (climbed.climbing (votes_of c.args.ballot) c.start.ensures.begun).below

-- those that came are no more than K
few : (g : given.Over) (c : After-take-count g) → climber_total c.take-count.new.self.came ≤ c.args.params.now.k
few g c =
    let climbers = c.climb-moved.new.ladder.climbers in
    omega (
      arith,
      (c.climb-moved.ensures.climbed.climbing (votes_of c.args.ballot) c.start.ensures.begun).total,
      same_total (blocks_in c.args.tree.now.pending) climbers,
      group_total 0 climbers c.take-count.new.self.came c.take-count.ensures.came,
    )

-- they were counted
number : (g : given.Over) (c : After-take-count g) → c.take-count.result ≡ climber_total c.take-count.new.self.came
number g c = omega (arith, c.take-count.ensures.total, few g c, c.k-k.ensures.value)

-- they came to the last accepted block by a child
come : (g : given.Over) (c : After-take-count g) → All (HasCome (blocks_in c.args.tree.now.pending) c.args.tree.now.last) (cursors_of (blocks_in c.args.tree.now.pending) c.take-count.new.self.came)
come g c =
    let held = c.args.tree.now in
    let climbed = c.climb-moved.ensures.climbed in
    let climbing = climbed.climbing (votes_of c.args.ballot) c.start.ensures.begun in
    group_come_last held.last (blocks_in held.pending) no_block c.climb-moved.new.ladder.climbers c.take-count.new.self.came c.last-last.ensures.grown climbing.below climbing.came climbed.placed c.take-count.ensures.came

-- they are all votes below it
below : (g : given.Over) (c : After-take-count g) → votes_at (cursors_of (blocks_in c.args.tree.now.pending) c.take-count.new.self.came) c.args.tree.now.last ≡ votes_below (blocks_in c.args.tree.now.pending) (votes_of c.args.ballot) c.args.tree.now.last
below g c =
    let held = c.args.tree.now in
    let bs = blocks_in held.pending in
    let climbers = c.climb-moved.new.ladder.climbers in
    let votes = votes_of c.args.ballot in
    (λ i front. sym (votes_of_all bs held.last climbers c.take-count.new.self.came front c.take-count.ensures.came) i)
    ∙ came_last c.args.params.now votes held.last bs (cursors_of bs climbers) c.last-last.ensures.grown (c.climb-moved.ensures.climbed.climbing votes c.start.ensures.begun)

-- as many as they are
total : (g : given.Over) (c : After-take-count g) → votes_below (blocks_in c.args.tree.now.pending) (votes_of c.args.ballot) c.args.tree.now.last [] ≡ c.take-count.result
total g c =
    let held = c.args.tree.now in
    let bs = blocks_in held.pending in
    let came = c.take-count.new.self.came in
    sym (ap (λ f. f []) (below g c)) ∙ all_came bs held.last (cursors_of bs came) (come g c) ∙ same_total bs came ∙ sym (number g c)

pub gather-requires-clause-total : goal.gather-requires-clause-total
gather-requires-clause-total g c = omega (arith, few g (goal.at.gather-requires-clause-total g c).After-take-count, c.k-k.ensures.value)

pub gather-requires-clause-places : goal.gather-requires-clause-places
gather-requires-clause-places g c =
    omega (
      arith,
      c.start.ensures.few,
      c.requires.places,
      c.climb-moved.ensures.climbed.short,
      c.climb-moved.ensures.places,
      group_few 0 c.climb-moved.new.ladder.climbers c.take-count.new.self.came c.take-count.ensures.came,
    )

pub gather-requires-clause-placed : goal.gather-requires-clause-placed
gather-requires-clause-placed g c =
    let climbed = c.climb-moved.ensures.climbed in
    let bs = blocks_in c.args.tree.now.pending in
    let all = of_group (λ x. (x.passed < length bs) × (x.place ≡ reach bs (parent_in (slice_get bs x.passed)))) 0 c.climb-moved.new.ladder.climbers c.take-count.new.self.came c.take-count.ensures.came climbed.placed in
    λ k d h. omega (arith, (all k d h).0, ap length climbed.blocks, length-map c.climb-moved.new.tree.pending (λ e. e.block))

pub gather-requires-clause-counts : goal.gather-requires-clause-counts
gather-requires-clause-counts g c =
    let climbers = c.climb-moved.new.ladder.climbers in
    of_group (λ x. 0 < x.count) 0 climbers c.take-count.new.self.came c.take-count.ensures.came
    (all_back (λ x. 0 < x.count) (cursor_of (blocks_in c.args.tree.now.pending)) climbers (c.climb-moved.ensures.climbed.climbing (votes_of c.args.ballot) c.start.ensures.begun).counts)

pub record-moved-requires-clause-most : goal.record-moved-requires-clause-most
record-moved-requires-clause-most g c =
    at_most c.args.params.now c.args.root.now.conflict _ c.requires.fit.root.parameters
    (omega (arith, ap total_count c.entries.ensures.list, c.gather.ensures.total, few g (goal.at.record-moved-requires-clause-most g c).After-take-count))

pub record-moved-requires-clause-given : goal.record-moved-requires-clause-given
record-moved-requires-clause-given g c =
    let last = c.args.tree.now.last in
    let came = c.take-count.new.self.came in
    let among = subst (λ bs. All (HasCome bs last) (cursors_of bs came) → All (λ v. Contains (children_of bs last) v.id) c.gather.new.children.list) c.climb-moved.ensures.climbed.blocks (c.gather.ensures.among last) in
    rw c.entries.ensures.list
    (subst (λ l. All (λ v. Contains l v.id) c.gather.new.children.list) (sym c.requires.fit.root.ids) (among (come g (goal.at.record-moved-requires-clause-given g c).After-take-count)))

-- the pending blocks took the poll
stepped : (g : given.Over) (c : After-take-count g) → HasStepped c.args.params.now c.args.polls (votes_of c.args.ballot) c.args.tree.now c.climb-moved.new.tree
stepped g c =
    let climbed = c.climb-moved.ensures.climbed in
    record { pending = climbed.pending (votes_of c.args.ballot) c.start.ensures.begun; rest = climbed.rest; blocks = climbed.blocks; fit = climbed.fit }

pub returns-then-count-alpha_preference-clause-counted : goal.returns-then-count-alpha_preference-clause-counted
returns-then-count-alpha_preference-clause-counted g c =
    let at = (goal.at.returns-then-count-alpha_preference-clause-counted g c).After-take-count in
    let p = c.args.params.now in
    let polls = c.args.polls in
    let root = c.args.root.now in
    let last = c.args.tree.now.last in
    let came = c.take-count.new.self.came in
    let new = c.record-moved.new.self in
    let gathered = subst (λ bs. All (HasCome bs last) (cursors_of bs came) → votes_on c.gather.new.children.list ≡ votes_at (cursors_of bs came) last) c.climb-moved.ensures.climbed.blocks (c.gather.ensures.votes last) (come g at) in
    let recorded : HasTaken p polls (votes_on c.entries.result.now) root new = λ children fit. (c.record-moved.ensures.counters p children fit, c.record-moved.ensures.fit p children fit) in
    let took = subst (λ (f : List Bool → ℕ). HasTaken p polls f root new) (ap votes_on c.entries.ensures.list ∙ gathered ∙ below g at) recorded in
    counted_all g.R.Rule.answer p polls (votes_of c.args.ballot) root new c.args.tree.now c.climb-moved.new.tree _ c.requires.fit.root (stepped g at) took
    (λ s. c.record-moved.ensures.steady (or_parts c.climb-moved.result c.record-moved.result s).1)
    (λ s. c.climb-moved.ensures.steady (or_parts c.climb-moved.result c.record-moved.result s).0)

pub returns-else-count-alpha_preference-clause-counted : goal.returns-else-count-alpha_preference-clause-counted
returns-else-count-alpha_preference-clause-counted g c =
    let at = (goal.at.returns-else-count-alpha_preference-clause-counted g c).After-take-count in
    let p = c.args.params.now in
    let polls = c.args.polls in
    let root = c.args.root.now in
    let held = c.args.tree.now in
    let bs = blocks_in held.pending in
    let came = c.take-count.new.self.came in
    let votes = votes_below bs (votes_of c.args.ballot) held.last in
    let took : HasTaken p polls votes root root =
    λ children fits. left_alone p polls children root votes c.k-k.ensures.good fits
    (λ front. omega (
      arith,
      ap (λ f. f front) (below g at),
      number g at,
      few_came held.last (cursors_of bs came) front,
      same_total bs came,
      c.if-count-alpha_preference.false,
      c.alpha_preference.ensures.value,
    ))
    in
    counted_all g.R.Rule.answer p polls (votes_of c.args.ballot) root root held c.climb-moved.new.tree _ c.requires.fit.root (stepped g at) took (λ s. refl) c.climb-moved.ensures.steady

pub returns-then-count-alpha_preference-clause-steps : goal.returns-then-count-alpha_preference-clause-steps
returns-then-count-alpha_preference-clause-steps g c =
    let at = (goal.at.returns-then-count-alpha_preference-clause-steps g c).After-take-count in
    let p = c.args.params.now in
    let held = c.args.tree.now in
    let bs = blocks_in held.pending in
    let votes = votes_of c.args.ballot in
    let n = length (children_of bs held.last) in
    let own : c.record-moved.new.steps ≤ c.climb-moved.new.steps + 5 * recording_at p bs votes held.last =
    rw (total g at, is_quorum p.alpha_preference c.take-count.result (omega (arith, c.if-count-alpha_preference.true, c.alpha_preference.ensures.value)))
    (omega (arith, c.record-moved.ensures.steps, ap length c.requires.fit.root.ids))
    in
    omega (arith, own, c.climb-moved.ensures.steps votes c.start.ensures.begun)
