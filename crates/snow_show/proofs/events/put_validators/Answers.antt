use Rattle.std.proofs.Common.{codes}
use Rattle.snow_show.proofs.Evented.{nodes_some}
use Rattle.snow_show.proofs.Putting.{puts_behind}
use Rattle.snow_show.proofs.events.put_validators.Goals as goal

pub returns : goal.returns
returns c = puts_behind c.put_nodes.result _ _ _ (codes "validators") _ _ c.in_ok-put.ensures c.put_nodes.ensures (nodes_some (codes "validators") c.args.nodes.now)
