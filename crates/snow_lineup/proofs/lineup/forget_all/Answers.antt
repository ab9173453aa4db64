use Rattle.std.proofs.Common.{slice_index_or, ap}
use Rattle.std.proofs.lemmas.List.Edits.{map_over_more}
use Rattle.snow_lineup.specs.Kept.Index.{reset}
use Rattle.snow_lineup.proofs.lineup.forget_all.Goals as goal

pub loop-slot-preserved : goal.loop-slot-preserved
loop-slot-preserved g c =
    let slots = c.loop-slot.slots in
    let at = c.loop-slot.slot-index in
    map_over_more reset c.args.slots.now slots at (slice_index_or slots at c.slot-item.result) c.loop-slot-test.true c.loop-slot.invariant
    (ap (slice_index_or slots at) c.slot-item.is)
