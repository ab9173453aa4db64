use Rattle.std.proofs.Common.{is_some, sym, ap, ◌∙◌}
use Rattle.std.specs.Option.{option_copied}
use Rattle.snow_topo.proofs.Endings.{tree_none, tree_some, tree_kept, copied_some}
use Rattle.snow_topo.proofs.topo.Topo.trie_of.Goals as goal

pub returns-clause-some : goal.returns-clause-some
returns-clause-some g c =
    let a = c.self.inside in
    rw (← c.self.view_is)
    (sym (copied_some c.trie.result)
    ∙ tree_some a.params a.polls a.root a.tree c.args.parent.now c.in_ok-kept_of.field-0.now (option_copied c.trie.result) c.self.invariant.fit
    (sym c.in_ok-kept_of.ensures) c.trie.ensures.conflict c.trie.ensures.few)

pub returns-clause-counters : goal.returns-clause-counters
returns-clause-counters g c =
    let a = c.self.inside in
    rw (← c.self.view_is)
    (tree_kept a.params a.polls a.root a.tree c.args.parent.now c.in_ok-kept_of.field-0.now (option_copied c.trie.result)
    (sym c.in_ok-kept_of.ensures) c.trie.ensures.conflict)

pub returns-in_err-kept_of-clause-some : goal.returns-in_err-kept_of-clause-some
returns-in_err-kept_of-clause-some g c =
    let a = c.self.inside in
    rw (← c.self.view_is) (ap is_some c.from_residual.ensures ∙ sym (tree_none a.params a.polls a.root a.tree c.args.parent.now (sym c.in_err-kept_of.ensures)))
