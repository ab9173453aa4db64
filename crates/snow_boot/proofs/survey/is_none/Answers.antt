-- The first of those that have a weight, or none.
use Rattle.std.proofs.Common.{true, refl, sym}
use Rattle.snow_store.proofs.Cases.{clash}
use Rattle.snow_boot.proofs.Weighed.{none_left, some_left}
use Rattle.snow_boot.proofs.survey.is_none.Goals as goal

pub returns-in-Some : goal.returns-in-Some
returns-in-Some c nodes has = some_left c.args.weights.now nodes c.in-Some.field-0.0.now c.in-Some.field-0.1.now has c.in-Some.ensures.value

pub returns-in-None : goal.returns-in-None
returns-in-None c nodes has = none_left c.args.weights.now nodes has (λ some. clash true refl (sym (c.in-None.ensures.variant.1 some)))
