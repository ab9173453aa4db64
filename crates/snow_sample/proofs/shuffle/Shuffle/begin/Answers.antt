-- No move is chained to none, and each unit of the list stands at its own position.
use Rattle.std.proofs.Common.{◌≡◌, ◌+◌, ◌-◌, ◌<◌, arith}
use Rattle.std.proofs.lemmas.Nat.{pow_pos}
use Rattle.snow_sample.proofs.Moves.{moves_none}
use Rattle.snow_sample.proofs.shuffle.Shuffle.begin.Goals as goal

pub returns-clause-chained : goal.returns-clause-chained
returns-clause-chained c =
    let some : 0 < c.next_power_of_two-classes.result = rw c.next_power_of_two-classes.ensures.power.1 (pow_pos c.next_power_of_two-classes.ensures.power.0) in
    let classes : c.next_power_of_two-classes.result - 1 + 1 ≡ c.next_power_of_two-classes.result = omega arith in
    rw (c.in_ok-reserve.ensures.items, c.clear.ensures.items)
    (moves_none (c.next_power_of_two-classes.result - 1) c.write_zeros.new.room.items (rw classes c.in_ok-write_zeros.ensures))
