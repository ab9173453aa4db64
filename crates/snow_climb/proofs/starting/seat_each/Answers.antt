use Rattle.std.proofs.Common.{◌+◌, sym, refl, ◌∙◌, arith}
use Rattle.snow_climb.specs.Kept.Starting.{votes_by, ids_by}
use Rattle.snow_climb.proofs.Started.{same_started}
use Rattle.snow_climb.proofs.starting.seat_each.Goals as goal

pub returns : goal.returns
returns g c = record {
  started = λ counted h.
      c.start_all_waiting.ensures.started (λ test. ids_by test c.args.ids.now + counted test)
      (c.count_each.ensures.started counted
      (same_started c.args.tree.now.pending (λ test. 0) (λ test. votes_by test c.args.waiting.now) counted counted c.args.ladder.now.climbers
      (λ test. sym (c.requires.empty test)) (λ test. refl) h));
  put = omega (arith, c.start_all_waiting.ensures.put, c.count_each.ensures.put, c.requires.nobody);
  low = c.start_all_waiting.ensures.low ∙ c.count_each.ensures.low;
  room = record {
    most = c.start_all_waiting.ensures.room.most ∙ c.count_each.ensures.room.most;
    votes = c.start_all_waiting.ensures.room.votes ∙ c.count_each.ensures.room.votes;
    rungs = c.start_all_waiting.ensures.room.rungs ∙ c.count_each.ensures.room.rungs;
  };
}
