use Rattle.snow_trie.proofs.Lasts.{chosen_last}
use Rattle.snow_trie.proofs.alone.Alone.id.Goals as goal

pub returns-clause-chosen : goal.returns-clause-chosen
returns-clause-chosen c = λ answer law. rw (← c.self.view_is) (chosen_last answer c.self.inside.id c.self.inside.counter law)
