use Rattle.std.proofs.Common.{map, sym, ap, ◌∙◌}
use Rattle.std.specs.Option.{option_to_list}
use Rattle.snow_lineup.specs.Kept.Index.{woken_at}
use Rattle.snow_lineup.proofs.Placed.{woken_by_none}
use Rattle.snow_lineup.proofs.waking.wake_last.Goals as goal

pub returns-in-None-clause-slots : goal.returns-in-None-clause-slots
returns-in-None-clause-slots g c = woken_by_none c.args.slots.now ∙ ap (λ o. map (woken_at (option_to_list o)) c.args.slots.now) (sym c.in-None.is)
