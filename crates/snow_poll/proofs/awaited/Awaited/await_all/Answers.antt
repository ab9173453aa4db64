-- The map has the number of each node that was entered.
use Rattle.std.proofs.Common.{◌≡◌}
use Rattle.snow_poll.proofs.awaited.Awaited.await_all.Goals as goal

pub invariant_of-self-then-longest-ge-LONGEST_WALK-clause-numbered : goal.invariant_of-self-then-longest-ge-LONGEST_WALK-clause-numbered
invariant_of-self-then-longest-ge-LONGEST_WALK-clause-numbered c numbers is node =
    let same : c.in_ok-number_all.field-0 ≡ numbers = cc in
    rw (← same, ← c.as_slice.ensures.value) (c.in_ok-number_all.ensures node)
