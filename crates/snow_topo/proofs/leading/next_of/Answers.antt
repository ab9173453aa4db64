use Rattle.std.proofs.Common.{◌≡◌, ◌∷◌, Contains, sym, ap, subst, ◌∙◌}
use Rattle.std.specs.Option.{option_map}
use Rattle.std.proofs.lemmas.Option.{none-some, same_Some}
use Rattle.snow_base.specs.Model.Identifier.{bits}
use Rattle.snow_board.specs.Kept.Grown.{has_block}
use Rattle.snow_board.specs.Model.Preference.{path_from}
use Rattle.snow_board.proofs.Cases.{clash}
use Rattle.snow_tree.specs.Kept.Held.{Entry, blocks_in, children_of}
use Rattle.snow_topo.specs.Kept.Children.{Kept, conflict_of, shown, IsFit}
use Rattle.snow_topo.specs.Kept.View.{all_pending}
use Rattle.snow_topo.proofs.Climbs.{one_of}
use Rattle.snow_topo.proofs.Gained.{placed}
use Rattle.snow_topo.proofs.Walked.{walk_on, walk_ends, given_there}
use Rattle.snow_topo.proofs.leading.next_of.Goals as goal

pub returns-in_err-trie-clause-none : goal.returns-in_err-trie-clause-none
returns-in_err-trie-clause-none g c =
    λ _. walk_ends g.R.Rule.answer c.args.params.now c.args.polls c.args.id.now c.args.load.now (all_pending c.args.params.now c.args.polls c.args.tree.now.pending)
    (sym c.in_err-trie.ensures.conflict)

pub returns-in_err-place-clause-none : goal.returns-in_err-place-clause-none
returns-in_err-place-clause-none g c =
    λ _.
    let blocks = blocks_in c.args.tree.now.pending in
    clash (has_block blocks c.preference-next.result)
    (given_there c.args.params.now c.args.polls blocks c.args.id.now c.args.load.now (conflict_of c.in_ok-trie.trie.now) c.preference-next.result c.requires.fit
    (sym c.in_ok-trie.ensures.conflict) c.preference-next.ensures.given)
    (sym c.in_err-place.ensures.pending)

pub returns-in_err-below-clause-none : goal.returns-in_err-below-clause-none
returns-in_err-below-clause-none g c =
    λ _.
    let found = placed c.args.tree.now.pending c.preference-next.result c.in_ok-place.place (sym c.in_ok-place.ensures.place) in
    absurd (none-some found.0.load (c.in_err-below.ensures ∙ ap (option_map (λ (e : Entry Kept). e.load)) found.1))

pub returns-clause-some : goal.returns-clause-some
returns-clause-some g c =
    let p = c.args.params.now in
    let polls = c.args.polls in
    let tree = c.args.tree.now in
    let t = conflict_of c.in_ok-trie.trie.now in
    let found = placed tree.pending c.preference-next.result c.in_ok-place.place (sym c.in_ok-place.ensures.place) in
    let e = found.0 in
    let load : e.load ≡ c.in_ok-below.below.now = sym (same_Some c.in_ok-below.below.now e.load (c.in_ok-below.ensures ∙ ap (option_map (λ (e : Entry Kept). e.load)) found.1)) in
    walk_on g.R.Rule.answer p polls tree.last c.args.id.now c.args.load.now tree.pending c.in_ok-place.place e t c.k-k.ensures.good c.last-last.ensures.grown
    c.requires.named c.requires.fit (sym c.in_ok-trie.ensures.conflict) found.1 (subst (Contains t.ids) (sym found.2) c.preference-next.ensures.given)
    (c.preference-next.ensures.bits ∙ ap bits (sym found.2))
    ∙ (λ i. found.2 i ∷ path_from g.R.Rule.answer (found.2 i) (shown p polls (load i)) (all_pending p polls tree.pending))

pub returns-clause-fit : goal.returns-clause-fit
returns-clause-fit g c =
    let p = c.args.params.now in
    let polls = c.args.polls in
    let tree = c.args.tree.now in
    let children = children_of (blocks_in tree.pending) in
    let found = placed tree.pending c.preference-next.result c.in_ok-place.place (sym c.in_ok-place.ensures.place) in
    let e = found.0 in
    let load : e.load ≡ c.in_ok-below.below.now = sym (same_Some c.in_ok-below.below.now e.load (c.in_ok-below.ensures ∙ ap (option_map (λ (e : Entry Kept). e.load)) found.1)) in
    subst (λ id. IsFit p polls (children id) c.in_ok-below.below.now) found.2
    (subst (IsFit p polls (children e.block.id)) load
    (one_of (λ e. IsFit p polls (children e.block.id) e.load) tree.pending c.in_ok-place.place e c.requires.all found.1))
