use Rattle.std.proofs.Common.{◌≡◌, All, Contains, sym, ap, subst, ◌∙◌}
use Rattle.snow_base.specs.declared.block.Vote.{Vote}
use Rattle.snow_trie.specs.Kept.Form.{shown_form}
use Rattle.snow_trie.specs.Kept.Whole.{Compressed}
use Rattle.snow_trie.proofs.trie.Trie.record.Goals as goal

pub record-requires-clause-given : goal.record-requires-clause-given
record-requires-clause-given g c =
    let same : c.args.self.now ≡ c.in-Alone.alone = sym c.self.view_is ∙ ap shown_form c.in-Alone.is in
    subst (λ (t : Compressed). All (λ (v : Vote). Contains t.ids v.id) c.args.votes.now) same c.requires.given

pub record-requires-in-Forked-clause-given : goal.record-requires-in-Forked-clause-given
record-requires-in-Forked-clause-given g c =
    let same : c.args.self.now ≡ c.deref_mut.result.now = sym c.self.view_is ∙ ap shown_form c.in-Forked.is ∙ sym c.deref_mut.ensures.value in
    subst (λ (t : Compressed). All (λ (v : Vote). Contains t.ids v.id) c.args.votes.now) same c.requires.given
