use Rattle.std.proofs.Common.{◌∷◌, max, refl, ap, ◌∙◌}
use Rattle.snow_flake.specs.Model.Counter.{Decided}
use Rattle.snow_board.specs.Model.Conflict.{chosen}
use Rattle.snow_board.specs.Laws.FailingLaw.{failed}
use Rattle.snow_trie.specs.Kept.Tree.{tree_of}
use Rattle.snow_trie.specs.Kept.Stamped.{between, strand, whole}
use Rattle.snow_trie.proofs.Chosen.{chosen_failed}
use Rattle.snow_trie.proofs.Wholes.{whole_restamped, whole_failed, failed_counters, same_size, few_nodes}
use Rattle.snow_trie.proofs.forked.Forked.fail.Goals as goal

pub invariant_of-self : goal.invariant_of-self
invariant_of-self g c =
    let inside = c.self.inside in
    let now = tree_of c.ready-before.new.root in
    whole_failed (inside.first ∷ inside.more.items) inside.params c.ready-before.result inside.decided inside.leader now c.k-k.ensures.good
    (whole_restamped (inside.first ∷ inside.more.items) inside.polls c.ready-before.result inside.decided inside.leader (tree_of inside.root) now c.self.invariant c.ready-before.ensures.tree)

pub returns-clause-trie : goal.returns-clause-trie
returns-clause-trie g c =
    let inside = c.self.inside in
    let now = tree_of c.ready-before.new.root in
    let same = c.ready-before.ensures.tree in
    let counters =
    failed_counters inside.params c.ready-before.result inside.decided inside.leader now c.k-k.ensures.good (same.stamped c.self.invariant.stamped)
    ∙ ap (λ rest. failed inside.params (strand (between inside.leader 0 inside.decided) Decided rest)) (same.counters inside.decided)
    in
    let nodes = ap (max 1) (same_size inside.decided (tree_of inside.root) now (same.outline inside.decided)) in
    rw (← c.self.view_is) (λ i. record { parameters = inside.params; ids = inside.first ∷ inside.more.items; counters = counters i; nodes = nodes i })

pub returns-clause-few : goal.returns-clause-few
returns-clause-few g c =
    let inside = c.self.inside in
    let now = tree_of c.ready-before.new.root in
    few_nodes (inside.first ∷ inside.more.items) c.ready-before.result inside.decided inside.leader now _
    (whole_restamped (inside.first ∷ inside.more.items) inside.polls c.ready-before.result inside.decided inside.leader (tree_of inside.root) now c.self.invariant c.ready-before.ensures.tree) refl refl

pub returns-clause-steady : goal.returns-clause-steady
returns-clause-steady g c =
    let inside = c.self.inside in
    let now = tree_of c.ready-before.new.root in
    let same = c.ready-before.ensures.tree in
    let counters =
    failed_counters inside.params c.ready-before.result inside.decided inside.leader now c.k-k.ensures.good (same.stamped c.self.invariant.stamped)
    ∙ ap (λ rest. failed inside.params (strand (between inside.leader 0 inside.decided) Decided rest)) (same.counters inside.decided)
    in
    rw (← c.self.view_is)
    (ap (chosen g.R.Rule.answer) counters ∙ chosen_failed g.R.Rule.answer inside.params (whole inside.polls inside.decided inside.leader (tree_of inside.root)) c.k-k.ensures.good)
