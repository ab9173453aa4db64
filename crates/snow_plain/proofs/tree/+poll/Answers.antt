use Rattle.std.proofs.Common.{◌<◌, ◌^◌, arith, refl}
use Rattle.std.proofs.lemmas.List.Sums.{sum_by-take-le, sum_by-take-drop}
use Rattle.snow_base.specs.Model.Votes.{total_count}
use Rattle.snow_flake.specs.Kept.Instance.{counter_of}
use Rattle.snow_board.specs.Model.Conflict.{all_polled}
use Rattle.snow_plain.specs.Kept.Trees.{counters_of}
use Rattle.snow_board.proofs.Polling.{polled_fork}
use Rattle.snow_plain.proofs.tree.+poll.Goals as goal

pub poll-poll_side-requires : goal.poll-poll_side-requires
poll-poll_side-requires t c =
    let deep = rw c.in-Fork.is at c.requires.deep in
    let falls = rw c.in-Fork.is at c.decreases in
    let few : total_count c.split_at.result.0.now < 2 ^ 32 =
    rw c.split_at.ensures.front (omega (arith, sum_by-take-le (λ v. v.count) c.args.votes.now c.split.result)) in (
      rw c.deref_mut.ensures.value (omega arith),
      (
        rw c.deref_mut.ensures.value (omega arith),
        (rw c.split_at.ensures.front c.split.ensures.zeros_order, (rw c.split_at.ensures.front c.split.ensures.zeros_agree, few)),
      ),
    )

pub poll-poll_side-requires-in-Fork : goal.poll-poll_side-requires-in-Fork
poll-poll_side-requires-in-Fork t c =
    let deep = rw c.in-Fork.is at c.requires.deep in
    let falls = rw c.in-Fork.is at c.decreases in
    let few : total_count c.split_at.result.1.now < 2 ^ 32 =
    rw c.split_at.ensures.back (omega (arith, sum_by-take-drop (λ v. v.count) c.args.votes.now c.split.result)) in (
      rw c.deref_mut-in-Fork.ensures.value (omega arith),
      (
        rw c.deref_mut-in-Fork.ensures.value (omega arith),
        (rw c.split_at.ensures.back c.split.ensures.ones_order, (rw c.split_at.ensures.back c.split.ensures.ones_agree, few)),
      ),
    )

pub poll-returns-in-Fork : goal.poll-returns-in-Fork
poll-returns-in-Fork t c =
    let deep = rw c.in-Fork.is at c.requires.deep in
    rw c.in-Fork.is (polled_fork c.args.params.now c.args.bit c.split.result c.args.votes.now c.split_at.result.0.now c.split_at.result.1.now
    (counter_of c.in-Fork.counter) (counter_of c.step.new.counter) (counters_of c.in-Fork.zeros.value) (counters_of c.in-Fork.ones.value)
    (counters_of c.poll_side.new.side) (counters_of c.poll_side-in-Fork.new.side)
    (omega arith) c.split.ensures.zeros c.split.ensures.ones c.split_at.ensures.front c.split_at.ensures.back
    (rw (c.total.ensures, c.total-in-Fork.ensures) at c.step.ensures)
    (rw (c.admits.ensures, c.deref_mut.ensures.value) at c.poll_side.ensures)
    (rw (c.admits-in-Fork.ensures, c.deref_mut-in-Fork.ensures.value) at c.poll_side-in-Fork.ensures))

pub poll-returns-in_default : goal.poll-returns-in_default
unfolding all_polled
poll-returns-in_default t c = rw c.in_default.is refl
