use Rattle.snow_tree.proofs.Edges.{keys_apart}
use Rattle.snow_tree.proofs.row.Row.len.Goals as goal

pub returns-clause-unique : goal.returns-clause-unique
returns-clause-unique g c = rw (← c.self.view_is) (keys_apart c.self.inside.entries.items c.self.invariant.order)
