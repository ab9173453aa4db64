use Rattle.snow_text_model.specs.Model.Bytes.{fixed_text}
use Rattle.snow_show.proofs.Evented.{sent_one}
use Rattle.snow_show.proofs.Putting.{puts_behind}
use Rattle.snow_show.proofs.events.put_named.Goals as goal

pub returns : goal.returns
returns c =
    puts_behind c.put_fixed_word.result _ _ _ _ _ _ c.in_ok-put_sender.ensures c.put_fixed_word.ensures (sent_one c.args.name.now c.args.named.now.node.now c.args.named.now.request (fixed_text c.args.named.now.id.now))
