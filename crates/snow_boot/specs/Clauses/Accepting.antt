-- What the execution of a path owes, where memory may run out.
use Rattle.std.specs.Prelude.{◌≡◌, ℕ, List, [], ◌∷◌, ◌++◌, Option, Some, None, Result, Ok, Err}
use Rattle.snow_chain.specs.Model.Chain.{Rules, Held}
use Rattle.snow_lines.specs.declared.line.Line.{Line}
use Rattle.snow_lines.specs.declared.line.Line.TheVariants as line
use Rattle.snow_store.specs.declared.store.KeptBlock.{KeptBlock}
use Rattle.snow_store.specs.declared.stop.BootStop.{BootStop}
use Rattle.snow_store.specs.declared.stop.BootStop.TheVariants as stop
use Rattle.snow_boot.specs.declared.boot.Stage.{Stage}
use Rattle.snow_boot.specs.declared.boot.Stage.TheVariants as stage
use Rattle.snow_boot.specs.Model.Booting.{Outcome, Done}
use Rattle.snow_chain.specs.Kept.Alone.{IsAlone, last_state}
use Rattle.snow_boot.specs.Clauses.Calling.{LogsFront}
use Rattle.snow_boot.specs.Model.Executing.{Executed, state_on, executed}
use Rattle.snow_store.specs.Kept.Indexing.{top_of, higher_height}
use Rattle.snow_store.specs.Laws.Linking.{listed}
use Rattle.snow_boot.specs.Laws.OutcomeLaw.{accept_lines}

-- lines in front of what was executed
abbrev pub behind_lines : List Line → Executed → Executed
behind_lines lines e = (lines ++ e.0, e.1)

-- a block was accepted on the last accepted one, or refused there
abbrev pub ExecutesOne : Rules → Result (Unit {0}) BootStop → List Line → List Line → Held → Held → KeptBlock → Type 0
ExecutesOne rules (Ok u) before after old new b =
    (state_on rules old.last (last_state old) b ≡ Some (last_state new)) × (new.last ≡ b.header.id) × IsAlone new × (after ≡ before ++ line.Accept b.header.id ∷ [])
ExecutesOne rules (Err stop.Memory) before after old new b = after ≡ before
ExecutesOne rules (Err why) before after old new b = (state_on rules old.last (last_state old) b ≡ None) × (why ≡ stop.Refused b.header.id) × (after ≡ before)

-- the block at a height, if there is one, was accepted on the last accepted one; or a stop, whatever comes behind
abbrev pub ExecutesAt : Rules → Result (List ℕ) BootStop → List Line → List Line → Held → Held → Option KeptBlock → Type 0
ExecutesAt rules (Ok next) before after old new o =
    (after ≡ before ++ accept_lines (listed o)) × (new.last ≡ next) × IsAlone new
    × ((rest : List KeptBlock) → executed rules old.last (last_state old) (listed o ++ rest) ≡ behind_lines (accept_lines (listed o)) (executed rules next (last_state new) rest))
ExecutesAt rules (Err stop.Memory) before after old new o = after ≡ before
ExecutesAt rules (Err why) before after old new o = (after ≡ before) × ((rest : List KeptBlock) → executed rules old.last (last_state old) (listed o ++ rest) ≡ ([], Err why))

-- blocks were accepted one on the other as expected, and the chain holds the state of the last one and no other; or a stop; where
-- memory ran out a front of the lines came
abbrev pub Executes : Result (List ℕ) BootStop → List Line → List Line → Held → Executed → Type 0
Executes (Ok last) before after held expected = (after ≡ before ++ expected.0) × (expected.1 ≡ Ok (last, last_state held)) × (held.last ≡ last) × IsAlone held
Executes (Err stop.Memory) before after held expected = LogsFront before after expected.0
Executes (Err why) before after held expected = (after ≡ before ++ expected.0) × (expected.1 ≡ Err why)

-- the higher of two heights, where there are two
abbrev pub higher_one : Option ℕ → Option ℕ → Option ℕ
higher_one None other = other
higher_one (Some h) other = Some (higher_height h other)

-- the highest height at which a target is kept
abbrev pub top_height : List KeptBlock → List (List ℕ) → Option ℕ
top_height kept [] = None
top_height kept (t ∷ targets) = higher_one (top_of kept t) (top_height kept targets)

-- bootstrapping is done with this block and height, and told so
abbrev pub EndsAt : Result Stage BootStop → List Line → List Line → List ℕ → ℕ → Type 0
EndsAt (Ok stage.Going) before after last height = ⊥
EndsAt (Ok (stage.Done id at)) before after last height = (id ≡ last) × (at ≡ height) × (after ≡ before ++ line.Bootstrapped last height ∷ [])
EndsAt (Err stop.Memory) before after last height = after ≡ before
EndsAt (Err why) before after last height = ⊥

-- bootstrapping is done as expected, with the state that the chain holds and no other; or it stopped; where memory ran out a front
-- of the lines came
abbrev pub Concludes : Result Stage BootStop → List Line → List Line → Held → Outcome → Type 0
Concludes (Ok stage.Going) before after held expected = ⊥
Concludes (Ok (stage.Done last height)) before after held expected =
    (after ≡ before ++ expected.0) × (expected.1 ≡ Ok (Done last height (last_state held))) × (held.last ≡ last) × IsAlone held
Concludes (Err stop.Memory) before after held expected = LogsFront before after expected.0
Concludes (Err why) before after held expected = (after ≡ before ++ expected.0) × (expected.1 ≡ Err why)
