use Rattle.std.proofs.Common.{◌++◌, codes, decimal, refl}
use Rattle.snow_show.proofs.Putting.{puts_four}
use Rattle.snow_show.proofs.events.put_first_numbers.Goals as goal

pub returns : goal.returns
returns c =
    puts_four c.put_marked_number-4.result _ _ _ _ _ (codes "start k=" ++ decimal c.from.result) (codes " alpha-preference=" ++ decimal c.from-2.result) (codes " alpha-confidence=" ++ decimal c.from-3.result) (codes " beta=" ++ decimal c.from-4.result) _
    c.in_ok-put_marked_number.ensures c.in_ok-put_marked_number-2.ensures c.in_ok-put_marked_number-3.ensures c.put_marked_number-4.ensures
    (rw (c.from.ensures, c.from-2.ensures, c.from-3.ensures, c.from-4.ensures) refl)
