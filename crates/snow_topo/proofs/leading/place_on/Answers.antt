use Rattle.std.proofs.Common.{bytes_eq, sym, ap, ◌∙◌}
use Rattle.snow_topo.proofs.Gained.{no_place}
use Rattle.snow_topo.proofs.leading.place_on.Goals as goal

pub returns-then-eq : goal.returns-then-eq
returns-then-eq g c =
    let tree = c.args.tree.now in
    let id = c.args.id.now in
    sym (no_place tree.last tree.pending id c.last.ensures.grown (ap (λ l. bytes_eq l id) (sym c.last.ensures.last) ∙ sym c.eq.ensures ∙ c.if-eq.true))
