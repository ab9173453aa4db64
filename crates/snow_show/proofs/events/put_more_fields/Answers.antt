use Rattle.std.proofs.Common.{◌++◌, codes, decimal, refl}
use Rattle.snow_show.proofs.Putting.{puts_three}
use Rattle.snow_show.proofs.events.put_more_fields.Goals as goal

pub returns : goal.returns
returns c =
    puts_three c.put_last.result _ _ _ _ (codes " repolls=" ++ decimal c.from.result) (codes " boot=" ++ decimal c.flag_of.result) _ _
    c.in_ok-put_marked_number.ensures c.in_ok-put_marked_number-2.ensures c.put_last.ensures
    (rw (c.from.ensures, c.flag_of.ensures) refl)
