use Rattle.std.proofs.Common.{map, sym, ap, ◌∙◌, subst}
use Rattle.std.specs.Option.{option_to_list}
use Rattle.snow_lineup.specs.Kept.Index.{woken_at}
use Rattle.snow_lineup.proofs.Placed.{Rises, rises_woken, woken_row}
use Rattle.snow_lineup.proofs.waking.wake_row.Goals as goal

pub wake_last-requires-clause-rising : goal.wake_last-requires-clause-rising
wake_last-requires-clause-rising g c = subst Rises (sym c.wake_each.ensures.slots) (rises_woken c.args.slots.now c.args.before.now c.requires.rising)

pub returns-clause-slots : goal.returns-clause-slots
returns-clause-slots g c =
    c.wake_last.ensures.slots ∙ ap (map (woken_at (option_to_list c.args.last))) c.wake_each.ensures.slots ∙ woken_row c.args.slots.now c.args.before.now c.args.last
