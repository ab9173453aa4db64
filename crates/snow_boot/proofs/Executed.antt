-- Blocks are executed in order, up to the first that is refused.
use Rattle.std.proofs.Common.{ℕ, List, [], ◌∷◌, Option, Some, None, refl, ap}
use Rattle.std.specs.Prelude.{Ok, Err}
use Rattle.snow_chain.specs.Model.Chain.{Rules}
use Rattle.snow_lines.specs.declared.line.Line.TheVariants as line
use Rattle.snow_store.specs.declared.store.KeptBlock.{KeptBlock}
use Rattle.snow_boot.specs.Model.Executing.{Executed, state_on, with_state, executed}
use Rattle.snow_boot.specs.Laws.OutcomeLaw.{IsExecution}

-- one block more below those that were executed
one_below : (below : List ℕ) (b : KeptBlock) (blocks : List KeptBlock) (above : Executed) → IsExecution b.header.id blocks above
    → IsExecution below (b ∷ blocks) (line.Accept b.header.id ∷ above.0, above.1)
one_below below b blocks (lines, Ok (last, state)) e = (ap (λ l. line.Accept b.header.id ∷ l) e.0, e.1)
one_below below b blocks (lines, Err why) e =
    (b ∷ e.0, e.1, e.2, ap (λ l. b ∷ l) e.3, ap (λ l. line.Accept b.header.id ∷ l) e.4, e.5)

-- a block is accepted or refused
with_one : (below : List ℕ) (b : KeptBlock) (blocks : List KeptBlock) (o : Option (List ℕ)) (more : List ℕ → Executed)
    → ((state : List ℕ) → IsExecution b.header.id blocks (more state)) → IsExecution below (b ∷ blocks) (with_state b o more)
with_one below b blocks None more h = ([], b, blocks, refl, refl, refl)
with_one below b blocks (Some state) more h = one_below below b blocks (more state) (h state)

pub in_order : (rules : Rules) (below state : List ℕ) (blocks : List KeptBlock) → IsExecution below blocks (executed rules below state blocks)
unfolding executed
in_order rules below state [] = (refl, refl)
in_order rules below state (b ∷ blocks) = with_one below b blocks (state_on rules below state b) (λ next. executed rules b.header.id next blocks) (λ next. in_order rules b.header.id next blocks)
