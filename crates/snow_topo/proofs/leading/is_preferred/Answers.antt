use Rattle.std.proofs.Common.{◌≡◌, false, bytes_eq, sym, ap, ◌∙◌}
use Rattle.std.specs.Option.{option_copied}
use Rattle.snow_topo.proofs.Endings.{kept_off, none_preferred, bare_preferred}
use Rattle.snow_topo.proofs.leading.is_preferred.Goals as goal

pub returns-in_default : goal.returns-in_default
returns-in_default g c =
    sym (none_preferred g.R.Rule.answer c.args.params.now c.args.polls c.args.root.now c.args.tree.now c.args.id.now
    (kept_off c.args.root.now c.args.tree.now c.args.id.now (sym c.kept_of.ensures ∙ ap option_copied c.in_default.is)))

pub returns-in-None : goal.returns-in-None
returns-in-None g c =
    let tree = c.args.tree.now in
    let id = c.args.id.now in
    let away : bytes_eq tree.last id ≡ false = ap (λ l. bytes_eq l id) (sym c.last.ensures.last) ∙ sym c.eq.ensures ∙ c.if-eq.false in
    c.eq-in-None.ensures ∙ ap (λ l. bytes_eq l id) c.requires.preference
    ∙ sym (bare_preferred g.R.Rule.answer c.args.params.now c.args.polls c.args.root.now tree id c.in-Some.load.now c.last.ensures.grown away (sym c.in-Some.ensures) (sym c.in-None.ensures.conflict))
