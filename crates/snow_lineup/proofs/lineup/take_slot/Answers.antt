use Rattle.std.proofs.Common.{sym, ◌∙◌}
use Rattle.std.proofs.lemmas.List.{same_from_push}
use Rattle.snow_lineup.proofs.lineup.take_slot.Goals as goal

pub returns-clause-rest : goal.returns-clause-rest
returns-clause-rest g c = sym (same_from_push _ _ _ _ (sym (c.bring_last.ensures.last c.in-Some.slot) ∙ c.in-Some.ensures.items)).0
