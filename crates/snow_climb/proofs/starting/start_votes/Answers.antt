use Rattle.std.proofs.Common.{◌≡◌, [], sym, ap, subst, arith}
use Rattle.snow_climb.specs.Kept.Ladder.{Rungs}
use Rattle.snow_climb.specs.Kept.Starting.{votes_by, HaveStarted}
use Rattle.snow_climb.proofs.Started.{none_started, begun_from, begun_fewer, begun_places}
use Rattle.snow_climb.proofs.starting.start_votes.Given as given
use Rattle.snow_climb.proofs.starting.start_votes.Goals as goal
use Rattle.snow_climb.proofs.starting.start_votes.Goals.{After-start_all_waiting}

started : (g : given.Over) (c : After-start_all_waiting g) → HaveStarted c.args.tree.now.pending (λ test. 0) (λ test. votes_by test c.args.votes.now) c.start_all_waiting.new.ladder.climbers
started g c =
    let pending = c.args.tree.now.pending in
    let empty : c.begin.new.self.climbers ≡ [] = ap (λ (s : Rungs). s.climbers) c.begin.ensures in
    c.start_all_waiting.ensures.started (λ test. votes_by test c.args.votes.now)
    (subst (λ l. HaveStarted pending (λ test. votes_by test c.args.votes.now) (λ test. votes_by test c.args.votes.now) l) (sym empty) (none_started pending (λ test. votes_by test c.args.votes.now)))

pub returns-clause-begun : goal.returns-clause-begun
returns-clause-begun g c =
    λ p few.
    begun_from p c.args.votes.now c.args.tree.now.last c.args.tree.now.pending c.start_all_waiting.new.ladder c.last-last.ensures.grown (started g (goal.at.returns-clause-begun g c).After-start_all_waiting) few

pub returns-clause-loaded : goal.returns-clause-loaded
returns-clause-loaded g c =
    let at = (goal.at.returns-clause-loaded g c).After-start_all_waiting in
    let votes = c.args.votes.now in
    let pending = c.args.tree.now.pending in
    let room = c.start_all_waiting.ensures.room in
    record {
      placed = begun_places pending (λ test. 0) (λ test. votes_by test votes) c.start_all_waiting.new.ladder.climbers (started g at);
      put =
          omega (
            arith,
            c.requires.few,
            c.requires.ready.most,
            c.start_all_waiting.ensures.put,
            room.most,
            ap (λ (s : Rungs). s.put) c.begin.ensures,
            ap (λ (s : Rungs). s.most) c.begin.ensures,
          );
      low = omega (arith, c.requires.ready.rungs, c.start_all_waiting.ensures.low, ap (λ (s : Rungs). s.low) c.begin.ensures);
    }

pub returns-clause-few : goal.returns-clause-few
returns-clause-few g c = begun_fewer c.args.votes.now c.args.tree.now.pending c.start_all_waiting.new.ladder.climbers (started g (goal.at.returns-clause-few g c).After-start_all_waiting)
