use Rattle.std.proofs.Common.{refl}
use Rattle.snow_show.proofs.Evented.{nodes_same}
use Rattle.snow_show.proofs.Putting.{puts_three}
use Rattle.snow_show.proofs.events.put_last_fields.Goals as goal

pub returns : goal.returns
returns c =
    puts_three c.put_nodes.result _ _ _ _ _ _ _ _ c.in_ok-put_marked_number.ensures c.in_ok-put_numbers.ensures c.put_nodes.ensures
    (rw (nodes_same c.args.fields.now.nodes.now) refl)
