use Rattle.snow_tree.proofs.Seen.{parent_seen}
use Rattle.snow_tree.proofs.tree.Tree.parent_place.Goals as goal

pub returns : goal.returns
returns g c = rw (← c.self.view_is) (parent_seen c.self.inside.nodes.entries c.args.place c.parent_of.result c.parent_of.ensures)
