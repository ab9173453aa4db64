-- What working the frames of a stream owes, as its pieces come.
use Rattle.std.specs.Prelude.{◌≡◌, ℕ, ◌+◌, ◌^◌, ◌≤◌, ◌⊎◌, Bool, true, false, List, [], ◌∷◌, ◌++◌, length, Option, Some, None, Result, Ok, Err, ⊤}
use Rattle.std.specs.Io.KnownBytes.{Appends, Consumes}
use Rattle.snow_base.specs.Clauses.Outside.{AppendsFront, Rose}
use Rattle.snow_flake.specs.Model.Rule.{Answer}
use Rattle.snow_chain.specs.Model.Chain.{Rules}
use Rattle.snow_wire.specs.Model.Frame.{first_of, frames_of, is_too_long}
use Rattle.snow_wire.specs.Clauses.Stream.{Intake}
use Rattle.snow_page.specs.Kept.Gathered.{Gathers}
use Rattle.snow_lines.specs.Model.Text.{texts}
use Rattle.snow_lines.specs.declared.line.Line.{Line}
use Rattle.snow_lines.specs.declared.line.Line.TheVariants as line
use Rattle.snow_lines.specs.declared.why.SkipKind.{SkipKind}
use Rattle.snow_engine.specs.declared.engine.Task.{Task}
use Rattle.snow_engine.specs.declared.end.BadKind.TheVariants as kind
use Rattle.snow_engine.specs.declared.end.End.{End}
use Rattle.snow_engine.specs.declared.end.End.TheVariants as end
use Rattle.snow_engine.specs.Clauses.Ends.{is_stop}
use Rattle.snow_engine.specs.Kept.Staging.{Node}
use Rattle.snow_engine.specs.Model.Run.{Stand, Fresh, Going, Stopped, after_frame, after_frames, is_stopped, lines_of, shows_stop}
use Rattle.snow_node.specs.Clauses.Stepping.{LogsFront}

-- where a run stands that has this node, or none yet
abbrev pub stand_of : Option Node → Stand
stand_of None = Fresh
stand_of (Some node) = Going node

-- ---- one frame

-- a frame was worked: its lines were logged, or a front of them where memory ran out
abbrev pub LogsFrame : {T : Type 0} → Result T End → List Line → List Line → List Line → Type 0
LogsFrame (Err end.Memory) before after lines = LogsFront before after lines
LogsFrame result before after lines = after ≡ before ++ lines

-- a frame was worked: the run stands there now, or it ended at a stop, or memory ran out
abbrev pub Stands : {T : Type 0} → Result T End → Option Node → Stand → Type 0
Stands (Ok x) now expected = expected ≡ stand_of now
Stands (Err end.Memory) now expected = ⊤
Stands (Err e) now expected = (is_stop e ≡ true) × (expected ≡ Stopped e)

-- what is told of a frame: that it was passed over, which stands in no log, or what was logged
abbrev pub told : {E : Type 0} → ℕ → Result (Option SkipKind) E → List Line → List Line
told frame (Ok (Some kind)) log = line.Skip frame kind ∷ []
told frame (Ok None) log = log
told frame (Err e) log = log

-- the same for the first frame, which makes the node
abbrev pub Opens : Result Node End → Stand → Type 0
Opens (Ok node) expected = expected ≡ Going node
Opens (Err end.Memory) expected = ⊤
Opens (Err e) expected = (is_stop e ≡ true) × (expected ≡ Stopped e)

-- ---- the frames of a decoder

-- lines, where the run stands, and what a decoder has left
pub record Worked : Type 0 where
  pub lines : List Line
  pub stand : Stand
  pub intake : Intake

-- the first frame was worked, if there is one
abbrev pub front_worked : Rules → Answer → Task → Stand → Intake → Option (List ℕ × List ℕ) → Worked
front_worked rules answer task stand intake None = record { lines = []; stand = stand; intake = intake }
front_worked rules answer task stand intake (Some first) =
    let now = after_frame rules answer task stand (intake.given + 1) first.0 in
    record { lines = now.0; stand = now.1; intake = record { given = intake.given + 1; rest = first.1 } }

abbrev pub one_worked : Rules → Answer → Task → Stand → Intake → Worked
one_worked rules answer task stand intake = front_worked rules answer task stand intake (first_of intake.rest)

-- all whole frames were worked
abbrev pub all_worked : Rules → Answer → Task → Stand → Intake → Worked
all_worked rules answer task stand intake =
    let frames = frames_of intake.rest in
    let all = after_frames rules answer task stand (intake.given + 1) frames.0 in
    record { lines = all.0; stand = all.1; intake = record { given = intake.given + length frames.0; rest = frames.1 } }

-- a run ended: a frame stopped it, or a length that no frame has
abbrev pub Halts : Worked → End → Type 0
Halts worked e =
    (worked.stand ≡ Stopped e)
    ⊎ ((is_stopped worked.stand ≡ false) × (is_too_long worked.intake.rest ≡ true) × (e ≡ end.BadInput (worked.intake.given + 1) kind.Length))

-- frames were worked: the run goes on from there, or it ended at a stop, or the sink failed or memory ran out
abbrev pub Goes : {T : Type 0} → Result T End → Option Node → Intake → Worked → Type 0
Goes (Ok x) now intake worked = (worked.stand ≡ stand_of now) × (worked.intake ≡ intake)
Goes (Err end.SinkFault) now intake worked = ⊤
Goes (Err end.Memory) now intake worked = ⊤
Goes (Err e) now intake worked = (is_stop e ≡ true) × Halts worked e

-- a front of a text was gathered
pub record GathersFront (before : Option (List ℕ)) (held : List ℕ) (after : Option (List ℕ)) (kept text : List ℕ) : Type 0 where
  pub front : List ℕ
  pub rest : List ℕ
  pub whole : front ++ rest ≡ text
  pub gathered : Gathers before held after kept front

-- frames were worked: their lines were gathered behind what waited; a front of them where memory ran out; and a front of all was
-- written where the sink failed
abbrev pub GathersLines : {T : Type 0} → Result T End → Option (List ℕ) → List ℕ → Option (List ℕ) → List ℕ → List Line → Type 0
GathersLines (Err end.SinkFault) before held after kept lines = AppendsFront before after (held ++ texts lines)
GathersLines (Err end.Memory) before held after kept lines = GathersFront before held after kept (texts lines)
GathersLines result before held after kept lines = Gathers before held after kept (texts lines)

-- a piece was worked: all of its lines were written; a front of them where memory ran out or the sink failed
abbrev pub WritesLines : Result (Unit {0}) End → Option (List ℕ) → Option (List ℕ) → List Line → Type 0
WritesLines (Err end.SinkFault) before after lines = AppendsFront before after (texts lines)
WritesLines (Err end.Memory) before after lines = AppendsFront before after (texts lines)
WritesLines result before after lines = Appends before after (texts lines)

-- whether that is the end: the sink failed
abbrev pub has_sink_failed : {T : Type 0} → Result T End → Bool
has_sink_failed (Err end.SinkFault) = true
has_sink_failed result = false

-- the sink failed where that is the end
abbrev pub SinkFails : {T : Type 0} → Result T End → ℕ → ℕ → Type 0
SinkFails (Err end.SinkFault) before after = Rose before after
SinkFails result before after = ⊤

-- ---- the whole run

-- the end is the model's, unless a source fault, a sink fault or want of memory ended the run
abbrev pub IsEnd : End → End → Type 0
IsEnd end.SourceFault expected = ⊤
IsEnd end.SinkFault expected = ⊤
IsEnd end.Memory expected = ⊤
IsEnd given expected = given ≡ expected

-- what was written: the whole text, or a front of it where a fault or want of memory ended the run
abbrev pub Wrote : End → Option (List ℕ) → Option (List ℕ) → List ℕ → Type 0
Wrote end.SourceFault before after text = AppendsFront before after text
Wrote end.SinkFault before after text = AppendsFront before after text
Wrote end.Memory before after text = AppendsFront before after text
Wrote given before after text = Appends before after text

-- a source fault, or a sink fault, is told only where that object's count of faults rose or stands at its last value
abbrev pub HasFault : End → ℕ → ℕ → ℕ → ℕ → Type 0
HasFault end.SourceFault source_before source_after sink_before sink_after = Rose source_before source_after
HasFault end.SinkFault source_before source_after sink_before sink_after = Rose sink_before sink_after
HasFault given source_before source_after sink_before sink_after = ⊤

-- the source failed behind these bytes: exactly the lines of their whole frames were written, and they show no stop
pub record Broke (rules : Rules) (answer : Answer) (task : Task) (left_before left_after out_before out_after : Option (List ℕ)) : Type 0 where
  pub gone : List ℕ
  pub consumed : Consumes left_before left_after gone
  pub few : length gone ≤ 2 ^ 40
  pub written : Appends out_before out_after (texts (lines_of rules answer task gone))
  pub goes_on : shows_stop rules answer task gone ≡ false
