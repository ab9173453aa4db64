use Rattle.std.proofs.Common.{◌∷◌}
use Rattle.snow_trie.specs.Kept.Tree.{tree_of}
use Rattle.snow_trie.proofs.Chosen.{chosen_whole, chosen_given}
use Rattle.snow_trie.proofs.forked.Forked.preference.Goals as goal

pub returns-clause-bits : goal.returns-clause-bits
returns-clause-bits g c =
    let inside = c.self.inside in
    rw (← c.self.view_is, c.preference.ensures)
    (chosen_whole g.R.Rule.answer (inside.first ∷ inside.more.items) inside.polls inside.decided inside.leader (tree_of inside.root) g.met.R.Rule.agrees c.self.invariant)

pub returns-clause-given : goal.returns-clause-given
returns-clause-given g c =
    let inside = c.self.inside in
    rw (← c.self.view_is, c.preference.ensures)
    (chosen_given g.R.Rule.answer (inside.first ∷ inside.more.items) inside.polls inside.decided inside.leader (tree_of inside.root) g.met.R.Rule.agrees c.self.invariant)
