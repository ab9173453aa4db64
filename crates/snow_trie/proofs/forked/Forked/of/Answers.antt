use Rattle.std.proofs.Common.{[], ◌∷◌, sym, ◌∙◌}
use Rattle.snow_trie.proofs.Lasts.{whole_alone, counters_alone, nodes_alone}
use Rattle.snow_trie.proofs.forked.Forked.of.Goals as goal

pub invariant_of-result : goal.invariant_of-result
invariant_of-result g c =
    rw (c.new.ensures.items, c.peel-decided.ensures.leader, c.peel-decided.ensures.from, c.peel-decided.ensures.root, c.run-run.ensures.run)
    (whole_alone c.run-run.result.id c.run-run.result.counter c.run-run.ensures.order)

pub returns : goal.returns
returns g c =
    let id = c.run-run.result.id in
    let counters = counters_alone id c.run-run.result.counter in
    let nodes = nodes_alone id c.run-run.result.counter in
    rw (c.new.ensures.items, c.peel-decided.ensures.leader, c.peel-decided.ensures.from, c.peel-decided.ensures.root, c.run-run.ensures.run)
    ((λ i. record { parameters = c.params-params.ensures i; ids = id ∷ []; counters = counters i; nodes = nodes i }) ∙ sym c.run-run.ensures.shown)
