use Rattle.std.proofs.Common.{◌≡◌, ◌+◌, ◌≤◌, [], length, refl, sym, ap, subst, arith}
use Rattle.snow_base.specs.Clauses.Gathered.{one_each}
use Rattle.snow_board.proofs.OneEach.{total_each}
use Rattle.snow_climb.specs.Kept.Ladder.{Rungs}
use Rattle.snow_climb.specs.Kept.Starting.{votes_by, ids_by, HaveStarted}
use Rattle.snow_climb.proofs.Started.{none_started, same_started, each_passes, begun_from, begun_fewer, begun_places}
use Rattle.snow_climb.proofs.starting.start_each.Given as given
use Rattle.snow_climb.proofs.starting.start_each.Goals as goal
use Rattle.snow_climb.proofs.starting.start_each.Goals.{After-start_by_seats}

pub start_by_seats-requires : goal.start_by_seats-requires
start_by_seats-requires g c = record {
  put = omega (arith, c.requires.few, c.requires.ready.most, ap (λ (s : Rungs). s.put) c.begin.ensures, ap (λ (s : Rungs). s.most) c.begin.ensures);
  small = c.requires.small;
  low = omega (arith, c.requires.ready.rungs, ap (λ (s : Rungs). s.low) c.begin.ensures);
}

started : (g : given.Over) (c : After-start_by_seats g) → HaveStarted c.args.tree.now.pending (λ test. 0) (λ test. votes_by test (one_each c.args.ids.now)) c.start_by_seats.new.ladder.climbers
started g c =
    let pending = c.args.tree.now.pending in
    let ids = c.args.ids.now in
    let empty : c.begin.new.self.climbers ≡ [] = ap (λ (s : Rungs). s.climbers) c.begin.ensures in
    let first : HaveStarted pending (λ test. 0) (λ test. 0) c.begin.new.self.climbers = subst (λ l. HaveStarted pending (λ test. 0) (λ test. 0) l) (sym empty) (none_started pending (λ test. 0)) in
    same_started pending (λ test. 0) (λ test. 0) (λ test. ids_by test ids + 0) (λ test. votes_by test (one_each ids)) c.start_by_seats.new.ladder.climbers (λ test. refl)
    (λ test. omega (arith, each_passes ids c.all_named.ensures test))
    (c.start_by_seats.ensures.started (λ test. 0) first)

pub returns-clause-begun : goal.returns-clause-begun
returns-clause-begun g c =
    λ p few.
    let ids = c.args.ids.now in
    begun_from p (one_each ids) c.args.tree.now.last c.args.tree.now.pending c.start_by_seats.new.ladder c.last-last.ensures.grown (started g (goal.at.returns-clause-begun g c).After-start_by_seats)
    (omega (arith, few, total_each ids))

-- there are no more than identifiers
fewer : (g : given.Over) (c : After-start_by_seats g) → length c.start_by_seats.new.ladder.climbers ≤ length c.args.ids.now
fewer g c = omega (arith, begun_fewer (one_each c.args.ids.now) c.args.tree.now.pending c.start_by_seats.new.ladder.climbers (started g c), total_each c.args.ids.now)

pub returns-clause-few : goal.returns-clause-few
returns-clause-few g c = fewer g (goal.at.returns-clause-few g c).After-start_by_seats

pub returns-clause-loaded : goal.returns-clause-loaded
returns-clause-loaded g c =
    let at = (goal.at.returns-clause-loaded g c).After-start_by_seats in
    let ids = c.args.ids.now in
    let room = c.start_by_seats.ensures.room in
    record {
      placed = begun_places c.args.tree.now.pending (λ test. 0) (λ test. votes_by test (one_each ids)) c.start_by_seats.new.ladder.climbers (started g at);
      put =
          omega (
            arith,
            c.requires.few,
            c.requires.ready.most,
            c.start_by_seats.ensures.put,
            room.most,
            ap (λ (s : Rungs). s.put) c.begin.ensures,
            ap (λ (s : Rungs). s.most) c.begin.ensures,
          );
      low = omega (arith, c.requires.ready.rungs, c.start_by_seats.ensures.low, ap (λ (s : Rungs). s.low) c.begin.ensures);
    }
