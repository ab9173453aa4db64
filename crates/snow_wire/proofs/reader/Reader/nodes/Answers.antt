use Rattle.snow_wire.proofs.Together.{nodes_made}
use Rattle.snow_wire.proofs.reader.Reader.nodes.Goals as goal

pub returns : goal.returns
returns c = nodes_made c.list.result c.list.new.self c.args.limit c.args.self.now c.list.ensures
