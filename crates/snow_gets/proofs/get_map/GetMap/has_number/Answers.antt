use Rattle.std.proofs.Common.{ap, ◌∙◌}
use Rattle.snow_gets.specs.Model.Gets.{has_number}
use Rattle.snow_gets.proofs.Asking.{number_known}
use Rattle.snow_gets.proofs.get_map.GetMap.has_number.Goals as goal

pub returns : goal.returns
returns c = c.contains_key.ensures ∙ number_known c.self.inside.«open».entries c.args.number ∙ ap (λ l. has_number l c.args.number) c.self.view_is
