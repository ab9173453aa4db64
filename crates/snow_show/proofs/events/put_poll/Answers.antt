use Rattle.std.proofs.Common.{codes, map, sym}
use Rattle.snow_text_model.specs.Model.Bytes.{fixed_text}
use Rattle.snow_show.proofs.Itemed.{line_led}
use Rattle.snow_show.proofs.Putting.{puts_behind}
use Rattle.snow_show.proofs.events.put_poll.Goals as goal

pub returns : goal.returns
returns c = puts_behind c.put_ids.result _ _ _ (codes "poll") _ _ c.in_ok-put.ensures c.put_ids.ensures (sym (line_led (codes "poll") (map fixed_text c.args.ids.now)))
