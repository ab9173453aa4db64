use Rattle.snow_wire.proofs.Together.{words_made}
use Rattle.snow_wire.proofs.reader.Reader.words.Goals as goal

pub returns : goal.returns
returns c = words_made c.list.result c.list.new.self c.args.limit c.args.self.now c.list.ensures
