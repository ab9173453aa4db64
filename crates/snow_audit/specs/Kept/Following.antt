-- An audit as its frames come: what is kept between two of them, and what a frame makes of it.
use Rattle.std.specs.Prelude.{◌≡◌, ℕ, ◌+◌, Bool, true, false, if◌then◌else◌, List, [], ◌∷◌, ◌++◌, map, drop, length, Option, Some, None, Result, Ok, Err, bytes_eq, ⊤}
use Rattle.snow_wire.specs.Model.Frame.{frames_of}
use Rattle.snow_wire.specs.Clauses.Stream.{Intake}
use Rattle.snow_lines.specs.declared.line.Line.{Line}
use Rattle.snow_lines.specs.Model.Text.{text}
use Rattle.snow_engine.specs.declared.end.End.{End}
use Rattle.snow_engine.specs.declared.end.End.TheVariants as end
use Rattle.snow_engine.specs.Clauses.Ends.{is_stop}
use Rattle.snow_engine.specs.Kept.Staging.{Node}
use Rattle.snow_engine.specs.Model.Run.{Stand, Fresh, Going, Stopped}
use Rattle.snow_engine.specs.Clauses.Serving.{stand_of}
use Rattle.snow_audit.specs.declared.auditing.AuditEnd.{AuditEnd}
use Rattle.snow_audit.specs.declared.auditing.AuditEnd.TheVariants as audit
use Rattle.snow_audit.specs.Model.Recording.{line_in}
use Rattle.snow_audit.specs.Model.Auditing.{Steps, at_frame, breaks_off, ends_as, stream_end}

-- where the run stands, how many events and how many recorded lines came, and the texts of the last event's lines that are still
-- to be recorded
pub record Between : Type 0 where
  pub stand : Stand
  pub events : ℕ
  pub lines : ℕ
  pub owed : List (List ℕ)

-- no frame came yet
abbrev pub beginning : Between
beginning = record { stand = Fresh; events = 0; lines = 0; owed = [] }

-- whether a run stands before its first frame
abbrev pub is_fresh : Stand → Bool
is_fresh Fresh = true
is_fresh (Going node) = false
is_fresh (Stopped e) = false

-- ---- one frame: the audit goes on, or has its answer

-- the next line isn't the model's
abbrev pub differs : Between → Result Between AuditEnd
differs b = Err (audit.Differs (b.lines + 1))

-- a line is recorded
abbrev pub line_comes : Between → List (List ℕ) → List ℕ → Result Between AuditEnd
line_comes b [] line = differs b
line_comes b (first ∷ others) line =
    if bytes_eq line first then Ok (record { stand = b.stand; events = b.events; lines = b.lines + 1; owed = others })
    else differs b

-- a stop is told of its frame
abbrev pub standing_at : ℕ → Stand → Stand
standing_at frame (Stopped e) = Stopped (at_frame e frame)
standing_at frame Fresh = Fresh
standing_at frame (Going node) = Going node

-- the run took its next event, of which this came
abbrev pub stepped_to : Between → ℕ → List Line × Stand → Between
stepped_to b frame now = record { stand = standing_at frame now.1; events = b.events + 1; lines = b.lines; owed = map text now.0 }

abbrev pub stepped : Steps → Between → ℕ → List ℕ → Between
stepped steps b frame payload = stepped_to b frame (steps b.stand (b.events + 1) payload)

-- an event comes: behind a stop there is none
abbrev pub event_then : Between → Stand → Between → Result Between AuditEnd
event_then b (Stopped e) next = Err (audit.Stopped e)
event_then b Fresh next = Ok next
event_then b (Going node) next = Ok next

abbrev pub event_comes : Between → List (List ℕ) → Between → Result Between AuditEnd
event_comes b [] next = event_then b b.stand next
event_comes b (first ∷ others) next = differs b

-- a run that stops at its first frame has no lines
abbrev pub first_then : Stand → Between → Result Between AuditEnd
first_then (Stopped e) next = Err (audit.Stopped e)
first_then Fresh next = Ok next
first_then (Going node) next = Ok next

-- a frame behind the first
abbrev pub later_comes : Between → Option (List ℕ) → Between → Result Between AuditEnd
later_comes b (Some line) next = line_comes b b.owed line
later_comes b None next = event_comes b b.owed next

-- a frame comes
abbrev pub frame_comes : Steps → Between → ℕ → List ℕ → Result Between AuditEnd
frame_comes steps b frame payload =
    let next = stepped steps b frame payload in
    if is_fresh b.stand then first_then next.stand next else later_comes b (line_in payload) next

-- ---- the end

-- the stop where a run stands
abbrev pub stop_of : Stand → Option End
stop_of Fresh = None
stop_of (Going node) = None
stop_of (Stopped e) = Some e

-- no frame comes any more
abbrev pub at_end : Between → List (List ℕ) → End → AuditEnd
at_end b [] stream = ends_as b.lines (stop_of b.stand) stream
at_end b (first ∷ others) stream = if breaks_off stream then ends_as b.lines (stop_of b.stand) stream else audit.Differs (b.lines + 1)

-- ---- all frames

-- the answer, where the audit has one, or that of the frames behind
abbrev pub goes_on : Result Between AuditEnd → (Between → AuditEnd) → AuditEnd
goes_on (Ok b) later = later b
goes_on (Err answer) later = answer

-- the frames of a stream that ends so, of which the first has this number
unfoldable pub follows : Steps → End → ℕ → List (List ℕ) → Between → AuditEnd
follows steps stream frame [] b = at_end b b.owed stream
follows steps stream frame (payload ∷ payloads) b = goes_on (frame_comes steps b frame payload) (follows steps stream (frame + 1) payloads)

-- the frames among these bytes and those that follow
abbrev pub finish : Steps → Intake → List ℕ → Bool → Between → AuditEnd
finish steps intake more is_full b =
    let frames = frames_of (intake.rest ++ more) in
    follows steps (stream_end (intake.given + length frames.0) frames.1 is_full) (intake.given + 1) frames.0 b

-- ---- what is kept in code

-- where a run stands that stopped so, or has this node, or none yet
abbrev pub stands : Option End → Option Node → Stand
stands (Some e) engine = Stopped e
stands None engine = stand_of engine

-- the texts of lines of which so many were recorded
abbrev pub owed_of : ℕ → List Line → List (List ℕ)
owed_of at log = map text (drop at log)

abbrev pub between : Option End → Option Node → ℕ → ℕ → ℕ → List Line → Between
between stop engine events lines at log = record { stand = stands stop engine; events = events; lines = lines; owed = owed_of at log }

-- how a run stopped, if it did, is told by one of its frames
abbrev pub IsKept : Option End → Type 0
IsKept None = ⊤
IsKept (Some e) = is_stop e ≡ true

-- an answer that frames give: no fault, and never that all is done
abbrev pub is_found : AuditEnd → Bool
is_found (audit.Same lines) = false
is_found (audit.Differs line) = true
is_found (audit.Stopped e) = is_stop e

-- a frame came: the audit goes on from there, or it has its answer, or memory ran out
abbrev pub Moves : {T : Type 0} → Result T AuditEnd → Between → Result Between AuditEnd → Type 0
Moves (Ok x) now expected = expected ≡ Ok now
Moves (Err (audit.Stopped end.Memory)) now expected = ⊤
Moves (Err answer) now expected = (is_found answer ≡ true) × (expected ≡ Err answer)

-- frames came: what is left to do is the same from there, or the audit has its answer, or memory ran out
abbrev pub Took : {T : Type 0} → Result T AuditEnd → Steps → Intake → Between → Intake → Between → Type 0
Took (Ok x) steps intake b next now = (more : List ℕ) (is_full : Bool) → finish steps intake more is_full b ≡ finish steps next more is_full now
Took (Err (audit.Stopped end.Memory)) steps intake b next now = ⊤
Took (Err answer) steps intake b next now = (is_found answer ≡ true) × ((more : List ℕ) (is_full : Bool) → finish steps intake more is_full b ≡ answer)
