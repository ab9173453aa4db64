-- Where an identifier has a place, it stands.
use Rattle.std.proofs.Common.{bytes_eq, is_some, ap, ◌∙◌}
use Rattle.std.specs.List.{list_any}
use Rattle.snow_map.proofs.Places.{placed_there}
use Rattle.snow_map.proofs.id_set.IdSet.contains.Goals as goal

pub returns : goal.returns
returns c =
    c.contains_key.ensures ∙ ap is_some (c.self.invariant.placed c.args.id.now) ∙ placed_there c.self.inside.ids.items c.args.id.now
    ∙ ap (list_any (bytes_eq c.args.id.now)) c.self.view_is
