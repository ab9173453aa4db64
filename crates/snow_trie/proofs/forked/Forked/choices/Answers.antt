use Rattle.std.proofs.Common.{◌∷◌}
use Rattle.snow_trie.specs.Kept.Tree.{tree_of}
use Rattle.snow_trie.proofs.Chosen.{chosen_alone}
use Rattle.snow_trie.proofs.forked.Forked.choices.Goals as goal

pub returns-clause-alone : goal.returns-clause-alone
returns-clause-alone g c =
    let inside = c.self.inside in
    rw (← c.self.view_is)
    (chosen_alone g.R.Rule.answer (inside.first ∷ inside.more.items) inside.polls inside.decided inside.leader (tree_of inside.root) g.met.R.Rule.agrees c.self.invariant)
