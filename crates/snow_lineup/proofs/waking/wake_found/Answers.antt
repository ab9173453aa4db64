-- The one slot with the place is woken.
use Rattle.snow_lineup.proofs.Placed.{woken_at_first, woken_none}
use Rattle.snow_lineup.proofs.waking.wake_found.Goals as goal

pub returns-then-at-slots-clause-slots : goal.returns-then-at-slots-clause-slots
returns-then-at-slots-clause-slots g c =
    woken_at_first c.args.slots.now c.wake_at.new.slots c.args.place c.search_place-at.result c.requires.rising c.search_place-at.ensures c.if-at-slots.true c.wake_at.ensures.slots

pub returns-else-at-slots-clause-slots : goal.returns-else-at-slots-clause-slots
returns-else-at-slots-clause-slots g c = woken_none c.args.slots.now c.args.place c.search_place-at.result c.search_place-at.ensures c.if-at-slots.false
