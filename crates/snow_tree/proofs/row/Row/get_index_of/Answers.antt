use Rattle.std.proofs.Common.{◌∙◌}
use Rattle.snow_tree.proofs.Edges.{edge_key, keys_apart}
use Rattle.snow_tree.proofs.row.Row.get_index_of.Goals as goal

pub returns : goal.returns
returns g c =
    let items = c.self.inside.entries.items in
    rw (← c.self.view_is) (record {
      index = c.place_of_id.ensures ∙ edge_key items c.args.id.now;
      unique = keys_apart items c.self.invariant.order;
    })
