use Rattle.std.proofs.Common.{codes, map}
use Rattle.snow_text_model.specs.Model.Blocks.{block_line}
use Rattle.snow_show.proofs.Evented.{sent_some}
use Rattle.snow_show.proofs.Putting.{puts_behind}
use Rattle.snow_show.proofs.events.put_parcel.Goals as goal

pub returns : goal.returns
returns c =
    puts_behind c.put_blocks.result _ _ _ _ _ _ c.in_ok-put_sender.ensures c.put_blocks.ensures
    (sent_some (codes "ancestors") c.args.parcel.now.node.now c.args.parcel.now.request (map (block_line c.args.form) c.args.parcel.now.blocks))
