use Rattle.snow_trie.proofs.Parting.{is_new}
use Rattle.snow_trie.proofs.run.Run.fresh.Goals as goal

pub returns : goal.returns
returns c = let new = is_new c.new.result c.new.ensures in λ i. record { id = c.args.id.now; to = 256; counter = new i; seen = 0 }
