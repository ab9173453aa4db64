use Rattle.std.proofs.Common.{ap, ◌∙◌}
use Rattle.snow_map.specs.Clauses.Entries.{value_of}
use Rattle.snow_map.proofs.Lists.{in_order}
use Rattle.snow_map.proofs.far.Far.value.Goals as goal

pub returns : goal.returns
returns g c = c.get.ensures.value ∙ in_order c.self.inside.entries.entries c.args.id.now ∙ ap (λ l. value_of l c.args.id.now) c.self.view_is
