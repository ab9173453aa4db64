use Rattle.std.proofs.Common.{map, slice_index_or, arith}
use Rattle.std.proofs.lemmas.List.{length-map}
use Rattle.snow_lineup.specs.declared.marks.Mark.TheVariants.{New}
use Rattle.snow_lineup.specs.Kept.Index.{seat_of, reset}
use Rattle.snow_lineup.proofs.Tagged.{seats_set}
use Rattle.snow_lineup.proofs.Windowed.{within_marked}
use Rattle.snow_lineup.proofs.waking.wake_at.Goals as goal

pub returns-clause-within : goal.returns-clause-within
returns-clause-within g c =
    let s = slice_index_or c.args.slots.now c.args.at c.index-slots-at.result in
    rw (seats_set c.args.slots.now c.args.at (reset s), c.marked.ensures)
    (within_marked (map seat_of c.args.slots.now) c.args.windows.now c.args.at s.item New (omega (arith, c.requires.there, length-map c.args.slots.now seat_of)) c.requires.within)
