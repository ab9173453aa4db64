-- The first of what is missed, or nothing.
use Rattle.std.proofs.Common.{true, refl, sym}
use Rattle.snow_store.proofs.Cases.{clash}
use Rattle.snow_store.proofs.Counting.{met, unmet}
use Rattle.snow_store.proofs.needs.is_met.Goals as goal

pub returns-in-Some : goal.returns-in-Some
returns-in-Some c f has = sym (unmet c.args.needs.now f c.in-Some.field-0.0.now c.in-Some.field-0.1.now c.in-Some.ensures.value has)

pub returns-in-None : goal.returns-in-None
returns-in-None c f has = sym (met c.args.needs.now f (λ some. clash true refl (sym (c.in-None.ensures.variant.1 some))) has)
