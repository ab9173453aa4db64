use Rattle.std.proofs.Common.{map}
use Rattle.snow_text_model.specs.Model.Bytes.{fixed_text}
use Rattle.snow_show.proofs.Evented.{sent_line}
use Rattle.snow_show.proofs.Putting.{puts_behind}
use Rattle.snow_show.proofs.events.put_listing.Goals as goal

pub returns : goal.returns
returns c =
    puts_behind c.put_ids.result _ _ _ _ _ _ c.in_ok-put_sender.ensures c.put_ids.ensures (sent_line c.args.name.now c.args.listing.now.node.now c.args.listing.now.request (map fixed_text c.args.listing.now.ids.now))
