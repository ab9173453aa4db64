use Rattle.std.proofs.Common.{◌≡◌, ℕ, List, Bool, false, not, bytes_eq, sym, ap, ◌∙◌}
use Rattle.snow_board.proofs.Cases.{split_on, clash, same_id}
use Rattle.snow_topo.proofs.Endings.{bare_top}
use Rattle.snow_topo.proofs.leading.is_top.Goals as goal

-- identifiers that aren't found different are the same
same : (preference id : List ℕ) (differs : Bool) → differs ≡ not (bytes_eq preference id) → differs ≡ false → preference ≡ id
same preference id differs is isnt =
    split_on (bytes_eq preference id)
    (λ t. same_id preference id t)
    (λ t. clash differs (is ∙ ap not t) isnt)

pub returns-in-None-clause-top : goal.returns-in-None-clause-top
returns-in-None-clause-top g c =
    λ _.
    let id = c.args.id.now in
    bare_top g.R.Rule.answer c.args.params.now c.args.polls c.args.root.now c.args.tree.now id c.in-Some.load.now c.last-last.ensures.grown c.requires.fit
    (sym (same c.args.preference.now id c.ne.result c.ne.ensures c.if-ne.false) ∙ c.requires.preference) (sym c.in-Some.ensures) (sym c.in-None.ensures.conflict)

pub returns-in-None-clause-same : goal.returns-in-None-clause-same
returns-in-None-clause-same g c = λ _. same c.args.preference.now c.args.id.now c.ne.result c.ne.ensures c.if-ne.false
