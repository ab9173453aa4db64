use Rattle.std.proofs.Common.{◌+◌, ◌<◌, ◌∙◌, length, get_or, take, take_all, refl, ap, arith}
use Rattle.std.proofs.lemmas.List.{length-set}
use Rattle.snow_climb.specs.Kept.Starting.{votes_by, ids_by}
use Rattle.snow_climb.proofs.Started.{same_started, beside, seat_taken, seat_back, total_set, one_of_total}
use Rattle.snow_climb.proofs.starting.count_each.Goals as goal

pub count_one-requires-clause-room : goal.count_one-requires-clause-room
count_one-requires-clause-room g c =
    let inv = c.loop-id.invariant in
    let within : c.seat_of.result < length c.loop-id.waiting = omega (arith, c.seat_of.ensures, inv.seats) in
    omega (
      arith,
      c.requires.room,
      inv.put,
      inv.room.most,
      c.loop-id-test.true,
      one_of_total c.loop-id.waiting c.seat_of.result (get_or c.loop-id.waiting c.seat_of.result c.index-waiting-seat_of.result) within
          (ap (get_or c.loop-id.waiting c.seat_of.result) c.index-waiting-seat_of.is),
    )

pub count_one-requires-clause-few : goal.count_one-requires-clause-few
count_one-requires-clause-few g c =
    let inv = c.loop-id.invariant in
    let within : c.seat_of.result < length c.loop-id.waiting = omega (arith, c.seat_of.ensures, inv.seats) in
    omega (
      arith,
      c.requires.few,
      inv.base,
      c.loop-id-test.true,
      one_of_total c.loop-id.waiting c.seat_of.result (get_or c.loop-id.waiting c.seat_of.result c.index-waiting-seat_of.result) within
          (ap (get_or c.loop-id.waiting c.seat_of.result) c.index-waiting-seat_of.is),
    )

pub loop-id-preserved : goal.loop-id-preserved
loop-id-preserved g c =
    let inv = c.loop-id.invariant in
    let pending = c.args.tree.now.pending in
    let waiting = c.loop-id.waiting in
    let at = c.seat_of.result in
    let v = get_or waiting at c.index-waiting-seat_of.result in
    let is = ap (get_or waiting at) c.index-waiting-seat_of.is in
    let w = c.count_one.new.waiting in
    let ids = c.args.ids.now in
    let i = c.loop-id.id-index in
    let id = c.id-item.result in
    let within : at < length waiting = omega (arith, c.seat_of.ensures, inv.seats) in
    record {
      some = inv.some;
      seats = length-set waiting at w ∙ inv.seats;
      started = λ counted h.
          seat_back pending waiting at v w ids i id counted c.count_one.new.ladder.climbers within is c.loop-id-test.true c.id-item.is
          (c.count_one.ensures.started (beside waiting at v) (λ test. ids_by test (take i ids) + counted test)
          (seat_taken pending waiting at v (λ test. ids_by test (take i ids) + counted test) c.loop-id.ladder.climbers within is (inv.started counted h)));
      put = omega (arith, c.count_one.ensures.put, inv.put, total_set waiting at v w within is);
      base = omega (arith, c.count_one.ensures.more, inv.base, total_set waiting at v w within is);
      low = c.count_one.ensures.low ∙ inv.low;
      room = record {
        most = c.count_one.ensures.room.most ∙ inv.room.most;
        votes = c.count_one.ensures.room.votes ∙ inv.room.votes;
        rungs = c.count_one.ensures.room.rungs ∙ inv.room.rungs;
      };
    }

pub returns-clause-started : goal.returns-clause-started
returns-clause-started g c =
    λ counted h.
    let ids = c.args.ids.now in
    let i = c.loop-id.id-index in
    same_started c.args.tree.now.pending (λ test. votes_by test c.loop-id.waiting) (λ test. votes_by test c.loop-id.waiting) (λ test. ids_by test (take i ids) + counted test) (λ test. ids_by test ids + counted test)
    c.loop-id.ladder.climbers (λ test. refl) (λ test. ap (λ l. ids_by test l + counted test) (take_all i ids (omega (arith, c.loop-id-test.false)))) (c.loop-id.invariant.started counted h)
