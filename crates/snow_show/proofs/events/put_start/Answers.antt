use Rattle.snow_wire.specs.Clauses.Spelled.{as_start}
use Rattle.snow_show.proofs.Evented.{start_line}
use Rattle.snow_show.proofs.Putting.{puts_three}
use Rattle.snow_show.proofs.events.put_start.Goals as goal

pub returns : goal.returns
returns c =
    puts_three c.put_last_fields.result _ _ _ _ _ _ _ _ c.in_ok-put_first_numbers.ensures c.in_ok-put_more_fields.ensures c.put_last_fields.ensures (start_line (as_start c.args.fields.now))
