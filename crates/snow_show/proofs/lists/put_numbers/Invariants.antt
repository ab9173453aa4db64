use Rattle.std.proofs.Common.{map, length}
use Rattle.byteorder.specs.Endian.{big_number}
use Rattle.snow_text_model.specs.Model.Shown.{times_texts}
use Rattle.snow_show.specs.Kept.Listing.{led}
use Rattle.snow_show.proofs.Putting.{Going}
use Rattle.snow_show.proofs.lists.put_numbers.Given as goal

abbrev pub invariant-loop-rest : goal.invariant-loop-rest
invariant-loop-rest l = Going l.initial.text.items l.text.items (led l.before l.gap (times_texts (map (big_number 8) l.rest))) (led l.mark l.gap (times_texts (map (big_number 8) l.numbers)))

abbrev pub decreases-loop-rest : goal.decreases-loop-rest
decreases-loop-rest l = length l.rest
