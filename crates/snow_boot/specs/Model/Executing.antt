-- Blocks executed one on the other, from the last accepted block upwards.
use Rattle.std.specs.Prelude.{ℕ, List, [], ◌∷◌, Option, Some, None, Result, Ok, Err, bytes_eq, if◌then◌else◌}
use Rattle.snow_chain.specs.Model.Chain.{Rules}
use Rattle.snow_lines.specs.declared.line.Line.{Line}
use Rattle.snow_lines.specs.declared.line.Line.TheVariants as line
use Rattle.snow_store.specs.declared.store.KeptBlock.{KeptBlock}
use Rattle.snow_store.specs.declared.stop.BootStop.{BootStop}
use Rattle.snow_store.specs.declared.stop.BootStop.TheVariants as stop

-- the lines, and then the last accepted block with its state, or a stop
abbrev pub Executed : Type 0
Executed = List Line × Result (List ℕ × List ℕ) BootStop

-- the state of a block on the block below it, where it is valid there; a block that is its own parent is never valid
abbrev pub state_on : Rules → List ℕ → List ℕ → KeptBlock → Option (List ℕ)
state_on rules below state b = if bytes_eq b.header.id below then None else rules.next state b.bytes

-- the block is accepted and those above it executed, or it is refused
abbrev pub with_state : KeptBlock → Option (List ℕ) → (List ℕ → Executed) → Executed
with_state b None more = ([], Err (stop.Refused b.header.id))
with_state b (Some state) more = let above = more state in (line.Accept b.header.id ∷ above.0, above.1)

-- blocks executed in order on a block with its state
unfoldable pub executed : Rules → List ℕ → List ℕ → List KeptBlock → Executed
executed rules below state [] = ([], Ok (below, state))
executed rules below state (b ∷ blocks) = with_state b (state_on rules below state b) (λ next. executed rules b.header.id next blocks)
