use Rattle.std.proofs.Common.{◌+◌, ap, ◌∙◌, drop, arith}
use Rattle.std.proofs.lemmas.List.Sums.{sum_by_more, sum_by_more_le, sum_by-take-le}
use Rattle.snow_base.specs.declared.block.Vote.{Vote}
use Rattle.snow_climb.specs.Kept.Starting.{votes_by}
use Rattle.snow_climb.proofs.Started.{next_waits, all_started}
use Rattle.snow_climb.proofs.starting.start_all_waiting.Goals as goal

pub start_waiting-requires-clause-room : goal.start_waiting-requires-clause-room
start_waiting-requires-clause-room g c =
    let v = c.vote-item.result in
    omega (
      arith,
      c.requires.room,
      c.loop-vote.invariant.put,
      c.loop-vote.invariant.room.most,
      sum_by_more_le (λ (v : Vote). v.count) c.args.votes.now c.loop-vote.vote-index v c.loop-vote-test.true,
      ap (λ (v : Vote). v.count) c.vote-item.is,
    )

pub loop-vote-preserved : goal.loop-vote-preserved
loop-vote-preserved g c =
    let so_far = c.loop-vote.invariant in
    let votes = c.args.votes.now in
    let i = c.loop-vote.vote-index in
    let v = c.vote-item.result in
    record {
      started = λ counted h.
          c.start_waiting.ensures.started (λ test. votes_by test (drop (i + 1) votes)) counted
          (next_waits c.args.tree.now.pending votes i v counted c.loop-vote.ladder.climbers c.loop-vote-test.true c.vote-item.is (so_far.started counted h));
      put = omega (arith, c.start_waiting.ensures.put, so_far.put, sum_by_more (λ (v : Vote). v.count) votes i v c.loop-vote-test.true, ap (λ (v : Vote). v.count) c.vote-item.is);
      low = c.start_waiting.ensures.low ∙ so_far.low;
      room = record {
        most = c.start_waiting.ensures.room.most ∙ so_far.room.most;
        votes = c.start_waiting.ensures.room.votes ∙ so_far.room.votes;
        rungs = c.start_waiting.ensures.room.rungs ∙ so_far.room.rungs;
      };
    }

pub returns-clause-started : goal.returns-clause-started
returns-clause-started g c =
    λ counted h.
    all_started c.args.tree.now.pending c.args.votes.now c.loop-vote.vote-index counted c.loop-vote.ladder.climbers (omega (arith, c.loop-vote-test.false)) (c.loop-vote.invariant.started counted h)

pub returns-clause-put : goal.returns-clause-put
returns-clause-put g c = omega (arith, c.loop-vote.invariant.put, sum_by-take-le (λ (v : Vote). v.count) c.args.votes.now c.loop-vote.vote-index)
