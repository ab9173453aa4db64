-- Whichever of two identifiers is compared to the other.
use Rattle.std.proofs.Common.{◌∙◌}
use Rattle.snow_store.proofs.Cases.{any_turned}
use Rattle.snow_store.proofs.needs.has.Goals as goal

pub returns : goal.returns
returns c = c.contains.ensures ∙ any_turned c.args.ids.now c.args.id.now
