use Rattle.std.proofs.Common.{slice_index, refl, arith}
use Rattle.snow_show.proofs.Shortened.{front_more}
use Rattle.snow_show.proofs.bytes.times_of.Goals as goal

pub loop-times-init : goal.loop-times-init
loop-times-init c =
    let more = front_more (slice_index c.args.bytes.now 0) 0 c.args.bytes.now c.requires refl in
    grind (arith, more)
