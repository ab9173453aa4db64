use Rattle.std.proofs.Common.{sym, ◌∙◌}
use Rattle.snow_topo.proofs.Won.{found_at, found_nowhere}
use Rattle.snow_topo.proofs.winning.first_alike.Goals as goal

pub returns-in-Some : goal.returns-in-Some
returns-in-Some c = c.id_at.ensures ∙ sym (found_at _ c.args.ids.now c.in-Some.at (sym c.place_alike.ensures ∙ c.in-Some.is))

pub returns-in-None : goal.returns-in-None
returns-in-None c = sym (found_nowhere _ c.args.ids.now (sym c.place_alike.ensures ∙ c.in-None.is))
