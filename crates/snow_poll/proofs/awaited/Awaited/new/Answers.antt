-- No entry is chained to none.
use Rattle.std.proofs.Common.{◌≡◌, ◌+◌, ◌-◌, ◌<◌, arith}
use Rattle.std.proofs.lemmas.Nat.{pow_pos}
use Rattle.snow_poll.proofs.Waiting.{waits_none}
use Rattle.snow_poll.proofs.awaited.Awaited.new.Goals as goal

pub invariant_of-result-clause-chained : goal.invariant_of-result-clause-chained
invariant_of-result-clause-chained c =
    let some : 0 < c.next_power_of_two.result = rw c.next_power_of_two.ensures.power.1 (pow_pos c.next_power_of_two.ensures.power.0) in
    let classes : c.min-classes.result - 1 + 1 ≡ c.min-classes.result = omega (arith, c.min-classes.ensures) in
    rw (c.in_ok-reserve.ensures.items, c.new-waits.ensures.items)
    (waits_none (c.min-classes.result - 1) c.in_ok-zeros.field-0.items (omega (arith, c.min-classes.ensures)) (rw classes c.in_ok-zeros.ensures))
