use Rattle.std.proofs.Common.{arith}
use Rattle.snow_trie.proofs.forked.Forked.nodes.Goals as goal

pub count-requires : goal.count-requires
count-requires g c = omega (arith, c.self.invariant.few, c.self.invariant.fits)
