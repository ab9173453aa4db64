use Rattle.std.proofs.Common.{◌∷◌}
use Rattle.snow_trie.specs.Kept.Tree.{tree_of}
use Rattle.snow_trie.proofs.Chosen.{final_whole}
use Rattle.snow_trie.proofs.forked.Forked.is_final.Goals as goal

pub returns : goal.returns
returns g c =
    let inside = c.self.inside in
    rw (← c.self.view_is) (final_whole (inside.first ∷ inside.more.items) inside.polls inside.decided inside.leader (tree_of inside.root) c.self.invariant)
