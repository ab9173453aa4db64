-- The audit of a recorded run: whether the lines recorded behind each event are those that the model writes for it.
use Rattle.std.specs.Prelude.{ℕ, ◌+◌, ◌^◌, Bool, true, false, ◌&&◌, ◌||◌, ◌==◌, if◌then◌else◌, List, [], ◌∷◌, map, length, Option, Some, None, nat_le, bytes_eq}
use Rattle.std.specs.List.{common_prefix_len}
use Rattle.snow_flake.specs.Model.Rule.{Answer}
use Rattle.snow_chain.specs.Model.Chain.{Rules}
use Rattle.snow_wire.specs.Model.Frame.{frames_of}
use Rattle.snow_lines.specs.declared.line.Line.{Line}
use Rattle.snow_lines.specs.Model.Text.{text}
use Rattle.snow_engine.specs.declared.engine.Task.TheVariants as task
use Rattle.snow_engine.specs.declared.end.End.{End}
use Rattle.snow_engine.specs.declared.end.End.TheVariants as end
use Rattle.snow_engine.specs.Model.Run.{Stand, Fresh, Going, Stopped, after_frame, end_after, seen}
use Rattle.snow_audit.specs.declared.auditing.AuditEnd.{AuditEnd}
use Rattle.snow_audit.specs.declared.auditing.AuditEnd.TheVariants as audit
use Rattle.snow_audit.specs.Model.Recording.{Entry, entries_of}

-- ---- the model beside the recorded lines

-- what a run makes of a frame, by where it stands and the frame's number
abbrev pub Steps : Type 0
Steps = Stand → ℕ → List ℕ → List Line × Stand

-- an end that is told of this frame: the model numbers events alone
abbrev pub at_frame : End → ℕ → End
at_frame (end.BadInput number kind) frame = end.BadInput frame kind
at_frame e frame = e

-- the stop that came at this frame
abbrev pub told_at : ℕ → Stand → Option End
told_at frame (Stopped e) = Some (at_frame e frame)
told_at frame Fresh = None
told_at frame (Going node) = None

-- an event: the lines recorded behind it, those of the model, whether the model stopped at it, and whether the stream breaks off
-- behind its lines
pub record Compared : Type 0 where
  pub recorded : List (List ℕ)
  pub model : List (List ℕ)
  pub stop : Option End
  pub is_broken : Bool

-- nothing is looked at behind a stop
abbrev pub unless_stopped : Option End → List Compared → List Compared
unless_stopped (Some e) later = []
unless_stopped None later = later

-- no event comes any more
abbrev pub are_over : List Entry → Bool
are_over [] = true
are_over (entry ∷ entries) = false

-- an event beside what the model makes of it, and the events behind it
abbrev pub compared_then : Bool → Entry → List Entry → List Line × Stand → List Compared → List Compared
compared_then is_broken entry entries now later = record {
  recorded = entry.recorded;
  model = map text now.0;
  stop = told_at entry.frame now.1;
  is_broken = is_broken && are_over entries;
} ∷ unless_stopped (told_at entry.frame now.1) later

-- the events of a run that stands so, of which the first has this number among the events
unfoldable pub compared_from : Steps → Bool → Stand → ℕ → List Entry → List Compared
compared_from steps is_broken stand number [] = []
compared_from steps is_broken stand number (entry ∷ entries) =
    let now = steps stand number entry.payload in
    compared_then is_broken entry entries now (compared_from steps is_broken now.1 (number + 1) entries)

-- ---- the answer

-- how many lines are the same, from the first on
abbrev pub shared : Compared → ℕ
shared event = common_prefix_len bytes_eq event.recorded event.model

-- the recorded lines are the model's; before a stream breaks off they may be a front of them
abbrev pub agrees : Compared → Bool
agrees event = shared event == length event.recorded && (event.is_broken || shared event == length event.model)

-- nothing differs: the run's stop, or else how the stream ends
abbrev pub ends_as : ℕ → Option End → End → AuditEnd
ends_as lines (Some e) stream = audit.Stopped e
ends_as lines None end.Done = audit.Same lines
ends_as lines None stream = audit.Stopped stream

-- the events in order behind so many lines, of which the one before stopped so
unfoldable pub through : ℕ → End → Option End → List Compared → AuditEnd
through lines stream stop [] = ends_as lines stop stream
through lines stream stop (event ∷ later) =
    if agrees event then through (lines + length event.recorded) stream event.stop later
    else audit.Differs (lines + 1 + shared event)

-- a run that stopped at its first frame has no lines
abbrev pub opened_first : Option End → AuditEnd → AuditEnd
opened_first (Some e) answer = audit.Stopped e
opened_first None answer = answer

abbrev pub answer_of : List Compared → End → AuditEnd
answer_of [] stream = ends_as 0 None stream
answer_of (first ∷ later) stream = opened_first first.stop (through 0 stream None (first ∷ later))

-- ---- the whole

-- a stream that no frame stops is done behind whole frames, of which there has to be one
abbrev pub behind_frames : ℕ → Stand
behind_frames frames = if frames == 0 then Fresh else Stopped end.Done

-- how a stream ends that no frame stops: behind so many frames comes this rest, and nothing more is looked at
abbrev pub stream_end : ℕ → List ℕ → Bool → End
stream_end frames rest is_full = end_after (behind_frames frames) frames rest is_full

-- a stream that ends otherwise than behind whole frames breaks off
abbrev pub breaks_off : End → Bool
breaks_off end.Done = false
breaks_off e = true

-- the audit of frames
abbrev pub audited_frames : Steps → List (List ℕ) → End → AuditEnd
audited_frames steps payloads stream = answer_of (compared_from steps (breaks_off stream) Fresh 1 (entries_of payloads)) stream

-- the audit of a stream, of which the first 2^40 bytes count
abbrev pub audited : Steps → List ℕ → AuditEnd
audited steps bytes =
    let frames = frames_of (seen bytes) in
    audited_frames steps frames.0 (stream_end (length frames.0) frames.1 (nat_le (2 ^ 40) (length bytes)))

-- the audit of a recorded `run` over blocks of this chain by this rule
abbrev pub audit_of : Rules → Answer → List ℕ → AuditEnd
audit_of rules answer bytes = audited (after_frame rules answer task.Run) bytes
