use Rattle.snow_tree.proofs.row.Row.sweep.Goals as goal

pub invariant_of-self : goal.invariant_of-self
invariant_of-self g c = c.sweep.ensures.numbered c.self.inside.next c.self.invariant
