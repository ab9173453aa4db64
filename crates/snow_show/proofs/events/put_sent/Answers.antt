use Rattle.snow_show.proofs.Evented.{sent_none}
use Rattle.snow_show.proofs.Putting.{puts_as}
use Rattle.snow_show.proofs.events.put_sent.Goals as goal

pub returns : goal.returns
returns c = puts_as c.put_sender.result _ _ _ _ (sent_none c.args.name.now c.args.sender.now.node.now c.args.sender.now.request) c.put_sender.ensures
