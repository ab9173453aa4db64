use Rattle.std.proofs.Common.{Some, length, sym, ap, subst, ◌∙◌, arith, length-append}
use Rattle.std.specs.Option.{option_map}
use Rattle.std.proofs.lemmas.List.{length-map}
use Rattle.snow_tree.specs.Kept.Held.{Held, entry_in, promoted}
use Rattle.snow_topo.specs.Kept.Children.{Kept}
use Rattle.snow_topo.specs.Kept.View.{AreFit}
use Rattle.snow_topo.specs.Clauses.Told.{rejection, told}
use Rattle.snow_topo.proofs.Climbs.{some_of}
use Rattle.snow_topo.proofs.Promoted.{next_entry, accepted_next, accepted_none, fewer_left, fit_promoted}
use Rattle.snow_topo.proofs.accepting.accept_next.Goals as goal

pub accept-requires-clause-child : goal.accept-requires-clause-child
accept-requires-clause-child g c =
    let p = c.args.params.now in
    let n = next_entry p c.args.polls c.args.root.now c.args.tree.now c.in-Some.child c.last-last.ensures.grown (c.in-Some.ensures c.args.polls) in
    ap (option_map (λ e. e.block.parent)) n.there ∙ ap Some n.parent

pub returns-in-Some-clause-accepts : goal.returns-in-Some-clause-accepts
returns-in-Some-clause-accepts g c =
    let p = c.args.params.now in
    let held = c.args.tree.now in
    let n = next_entry p c.args.polls c.args.root.now held c.in-Some.child c.last-last.ensures.grown (c.in-Some.ensures c.args.polls) in
    accepted_next p c.args.polls c.args.root.now c.accept.new.root held c.accept.new.tree c.in-Some.child c.args.decisions.now.items c.accept.new.decisions.items n
    (some_of (entry_in held.pending c.in-Some.child) _ n.entry n.there c.accept.ensures.root)
    (some_of (entry_in held.pending c.in-Some.child) _ n.entry n.there c.accept.ensures.tree)
    (some_of (entry_in held.pending c.in-Some.child) _ n.entry n.there c.accept.ensures.told)

pub returns-in-Some-clause-fit : goal.returns-in-Some-clause-fit
returns-in-Some-clause-fit g c =
    let p = c.args.params.now in
    let held = c.args.tree.now in
    let n = next_entry p c.args.polls c.args.root.now held c.in-Some.child c.last-last.ensures.grown (c.in-Some.ensures c.args.polls) in
    let root = some_of (entry_in held.pending c.in-Some.child) _ n.entry n.there c.accept.ensures.root in
    let tree = some_of (entry_in held.pending c.in-Some.child) _ n.entry n.there c.accept.ensures.tree in
    subst (λ (k : Kept). AreFit p c.args.polls k c.accept.new.tree) (sym root)
    (subst (AreFit p c.args.polls n.entry.load) (sym tree)
    (fit_promoted p c.args.polls c.args.root.now held n.entry c.last-last.ensures.grown (ap (entry_in held.pending) n.named ∙ n.there) n.parent c.requires.fit))

pub returns-in-Some-clause-fewer : goal.returns-in-Some-clause-fewer
returns-in-Some-clause-fewer g c =
    let held = c.args.tree.now in
    let n = next_entry c.args.params.now c.args.polls c.args.root.now held c.in-Some.child c.last-last.ensures.grown (c.in-Some.ensures c.args.polls) in
    let tree = some_of (entry_in held.pending c.in-Some.child) _ n.entry n.there c.accept.ensures.tree in
    let news = some_of (entry_in held.pending c.in-Some.child) _ n.entry n.there c.accept.ensures.told in
    let gone = (promoted held n.entry.block).rejected in
    omega (
      arith,
      fewer_left held c.in-Some.child n.entry n.there,
      ap (λ (t : Held Kept). length t.pending) tree,
      ap length news,
      length-append c.args.decisions.now.items (told c.in-Some.child gone),
      length-map gone rejection,
    )

pub returns-in-None-clause-accepts : goal.returns-in-None-clause-accepts
returns-in-None-clause-accepts g c = accepted_none c.args.params.now c.args.polls c.args.root.now c.args.tree.now c.args.decisions.now.items (c.in-None.ensures c.args.polls)
