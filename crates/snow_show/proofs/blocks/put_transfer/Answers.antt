use Rattle.std.proofs.Common.{◌∷◌, decimal, refl}
use Rattle.std.proofs.lemmas.List.{take_rest}
use Rattle.snow_show.proofs.Putting.{puts_four}
use Rattle.snow_show.proofs.blocks.put_transfer.Goals as goal

pub returns : goal.returns
returns c =
    puts_four c.put_marked_number-4.result _ _ _ _ _ (32 ∷ decimal c.from.result) (62 ∷ decimal c.from-2.result) (58 ∷ decimal c.read_u64.result) (64 ∷ decimal c.read_u64-2.result) _
    c.in_ok-put_marked_number.ensures c.in_ok-put_marked_number-2.ensures c.in_ok-put_marked_number-3.ensures c.put_marked_number-4.ensures
    (rw (c.from.ensures, c.from-2.ensures, c.read_u16.ensures, c.read_u16-2.ensures, c.read_u64.ensures, c.read_u64-2.ensures, take_rest, take_rest, take_rest) refl)
