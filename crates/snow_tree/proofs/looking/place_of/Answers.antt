use Rattle.std.proofs.Common.{◌∙◌}
use Rattle.snow_tree.proofs.Placed.{place_same}
use Rattle.snow_tree.proofs.looking.place_of.Goals as goal

pub returns : goal.returns
returns g c = c.get_index_of.ensures.index ∙ place_same c.args.nodes.now.entries c.args.id.now
