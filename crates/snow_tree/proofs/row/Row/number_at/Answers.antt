use Rattle.std.proofs.Common.{sym, ap, ◌∙◌}
use Rattle.snow_tree.specs.Kept.Row.{number_at}
use Rattle.snow_tree.proofs.Edges.{number_read}
use Rattle.snow_tree.proofs.row.Row.number_at.Goals as goal

pub returns-in-Some : goal.returns-in-Some
returns-in-Some g c = rw (← c.self.view_is) (number_read c.self.inside.entries.items c.in-Some.place c.number_of.result c.number_of.ensures.some c.number_of.ensures.none
    ∙ ap (number_at c.self.inside.entries.items) (sym c.in-Some.is))
