use Rattle.std.proofs.Common.{◌≡◌, false, bytes_eq, sym, ap, ◌∙◌}
use Rattle.std.specs.Option.{option_map, option_copied}
use Rattle.snow_topo.proofs.Endings.{entry_found, entry_none, kept_away}
use Rattle.snow_topo.proofs.leading.kept_of.Goals as goal

pub returns-in_err-place : goal.returns-in_err-place
returns-in_err-place g c =
    let tree = c.args.tree.now in
    let id = c.args.id.now in
    let away : bytes_eq tree.last id ≡ false = ap (λ l. bytes_eq l id) (sym c.last.ensures.last) ∙ sym c.eq.ensures ∙ c.if-eq.false in
    ap option_copied c.from_residual.ensures
    ∙ sym (kept_away c.args.root.now tree id away ∙ ap (option_map (λ e. e.load)) (entry_none tree.pending id (sym c.in_err-place.ensures.place)))

pub returns : goal.returns
returns g c =
    let tree = c.args.tree.now in
    let id = c.args.id.now in
    let away : bytes_eq tree.last id ≡ false = ap (λ l. bytes_eq l id) (sym c.last.ensures.last) ∙ sym c.eq.ensures ∙ c.if-eq.false in
    c.load.ensures
    ∙ sym (kept_away c.args.root.now tree id away ∙ ap (option_map (λ e. e.load)) (entry_found tree.pending id c.in_ok-place.place (sym c.in_ok-place.ensures.place)))
