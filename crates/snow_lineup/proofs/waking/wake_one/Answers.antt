-- The slot at the likely place is the one with this place.
use Rattle.snow_lineup.proofs.Placed.{woken_at_first, found_place}
use Rattle.snow_lineup.proofs.waking.wake_one.Goals as goal

pub returns-then-slots-likely-clause-slots : goal.returns-then-slots-likely-clause-slots
returns-then-slots-likely-clause-slots g c =
    let slots = c.args.slots.now in
    let at = c.likely_place-likely.result in
    let first = found_place slots c.args.place at c.index-slots-likely.result c.requires.rising c.if-likely-slots.true c.if-slots-likely.true in
    woken_at_first slots c.wake_at.new.slots c.args.place at c.requires.rising first c.if-likely-slots.true c.wake_at.ensures.slots
