use Rattle.std.proofs.Common.{rules}
use Rattle.std.proofs.lemmas.List.Elements.{filter_from_retain}
use Rattle.snow_held.specs.Kept.Roll.{is_here}
use Rattle.snow_held.proofs.roll.clear.Goals as goal

pub returns : goal.returns
returns c = filter_from_retain _ is_here (λ p x b q called. search rules) _ _ _ c.retain.ensures.filtered
