use Rattle.snow_trie.proofs.Lasts.{final_alone}
use Rattle.snow_trie.proofs.alone.Alone.is_final.Goals as goal

pub returns : goal.returns
returns c = rw (← c.self.view_is, c.is_final.ensures) (final_alone c.self.inside.id c.self.inside.counter c.self.invariant)
