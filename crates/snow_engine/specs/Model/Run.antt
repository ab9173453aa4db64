-- What a node makes of the frames of a stream: its lines, and how the run ends.
use Rattle.std.specs.Prelude.{ℕ, ◌+◌, ◌^◌, Bool, true, false, ◌||◌, List, [], ◌∷◌, ◌++◌, take, length, Result, Ok, Err, nat_le, ◌==◌, if◌then◌else◌}
use Rattle.snow_flake.specs.Model.Rule.{Answer}
use Rattle.snow_chain.specs.Model.Chain.{Rules}
use Rattle.snow_wire.specs.declared.event.Event.{Event}
use Rattle.snow_wire.specs.declared.event.Event.TheVariants as event
use Rattle.snow_wire.specs.declared.skip.Fault.{Fault}
use Rattle.snow_wire.specs.declared.skip.Fault.TheVariants.{Tag, Short, Extra, Count}
use Rattle.snow_wire.specs.Model.Reading.{event_of}
use Rattle.snow_wire.specs.Model.Frame.{frames_of, is_too_long}
use Rattle.snow_lines.specs.declared.line.Line.{Line}
use Rattle.snow_lines.specs.declared.line.Line.TheVariants as line
use Rattle.snow_lines.specs.declared.why.SkipKind.{SkipKind}
use Rattle.snow_lines.specs.declared.why.SkipKind.TheVariants as skip
use Rattle.snow_engine.specs.declared.engine.Task.{Task}
use Rattle.snow_engine.specs.declared.stop.EngineStop.{EngineStop}
use Rattle.snow_engine.specs.declared.stop.EngineStop.TheVariants as stop
use Rattle.snow_engine.specs.declared.end.BadKind.TheVariants as kind
use Rattle.snow_engine.specs.declared.end.End.{End}
use Rattle.snow_engine.specs.declared.end.End.TheVariants as end
use Rattle.snow_engine.specs.Model.Node.{started, step}
use Rattle.snow_engine.specs.Kept.Staging.{Node, Comes}

-- where a run stands: before its first frame, at a node, or at its end
pub data Stand : Type 0 where
  Fresh : Stand
  Going : Node → Stand
  Stopped : End → Stand

-- the end that a stop at this frame is
abbrev pub end_at : ℕ → EngineStop → End
end_at frame (stop.Params fault) = end.BadInput frame (kind.Params fault)
end_at frame (stop.Roster fault) = end.BadInput frame (kind.Roster fault)
end_at frame stop.State = end.BadInput frame kind.State
end_at frame stop.SecondStart = end.BadInput frame kind.SecondStart
end_at frame (stop.Boot why) = end.BootStopped why
end_at frame stop.Requests = end.RequestLimit
end_at frame stop.Memory = end.Memory

-- a node goes on, or it stopped at this frame
abbrev pub standing : ℕ → Result Node EngineStop → Stand
standing frame (Ok node) = Going node
standing frame (Err stop) = Stopped (end_at frame stop)

-- what came of a frame, as lines and where the run stands
abbrev pub came : ℕ → Comes Node → List Line × Stand
came frame outcome = (outcome.0, standing frame outcome.1)

-- the word for a payload that is no event
abbrev pub kind_of : Fault → SkipKind
kind_of Tag = skip.Tag
kind_of Short = skip.Short
kind_of Extra = skip.Extra
kind_of Count = skip.Count

-- an event, or the word for what is none
abbrev pub named : Result Event Fault → Result Event SkipKind
named (Ok e) = Ok e
named (Err fault) = Err (kind_of fault)

-- the event that a payload is, or the word for what is none
abbrev pub read : List ℕ → Result Event SkipKind
read payload = named (event_of payload)

-- the first frame has to be a Start
unfoldable pub opened : Rules → Task → ℕ → Result Event SkipKind → List Line × Stand
opened rules task frame (Ok (event.Start s)) = came frame (started rules task s)
opened rules task frame _ = ([], Stopped (end.BadInput frame kind.NotStart))

-- a later frame is a step, or is passed over where its payload is no event
abbrev pub followed : Rules → Answer → Node → ℕ → Result Event SkipKind → List Line × Stand
followed rules answer node frame (Err word) = (line.Skip frame word ∷ [], Going node)
followed rules answer node frame (Ok e) = came frame (step rules answer node frame e)

-- one frame: behind a stop nothing is looked at
unfoldable pub after_frame : Rules → Answer → Task → Stand → ℕ → List ℕ → List Line × Stand
after_frame rules answer task Fresh frame payload = opened rules task frame (read payload)
after_frame rules answer task (Going node) frame payload = followed rules answer node frame (read payload)
after_frame rules answer task (Stopped end) frame payload = ([], Stopped end)

-- lines, and then those that follow
abbrev pub lines_then : List Line → List Line × Stand → List Line × Stand
lines_then first later = (first ++ later.0, later.1)

-- frames one after another, of which the first has this number
unfoldable pub after_frames : Rules → Answer → Task → Stand → ℕ → List (List ℕ) → List Line × Stand
after_frames rules answer task stand frame [] = ([], stand)
after_frames rules answer task stand frame (payload ∷ payloads) =
    let now = after_frame rules answer task stand frame payload in
    lines_then now.0 (after_frames rules answer task now.1 (frame + 1) payloads)

-- all whole frames of a stream
abbrev pub ran : Rules → Answer → Task → List ℕ → List Line × Stand
ran rules answer task bytes = after_frames rules answer task Fresh 1 (frames_of bytes).0

-- the lines of all whole frames
abbrev pub lines_of : Rules → Answer → Task → List ℕ → List Line
lines_of rules answer task bytes = (ran rules answer task bytes).0

-- ---- the end

-- what is looked at: the first 2^40 bytes
abbrev pub seen : List ℕ → List ℕ
seen bytes = take (2 ^ 40) bytes

-- the end of an input that ends behind whole frames
abbrev pub end_behind : Stand → End
end_behind Fresh = end.BadInput 1 kind.NoStart
end_behind (Going node) = end.Done
end_behind (Stopped e) = e

-- the end of a run that no frame stops: after so many whole frames come these bytes, and nothing more is looked at
abbrev pub end_after : Stand → ℕ → List ℕ → Bool → End
end_after stand frames rest is_full =
    if is_too_long rest then end.BadInput (frames + 1) kind.Length
    else (if is_full then end.InputLimit
    else (if length rest == 0 then end_behind stand
    else end.BadInput (frames + 1) kind.Cut))

-- how a run ends that stands so behind all whole frames
abbrev pub ended : Stand → ℕ → List ℕ → Bool → End
ended (Stopped e) frames rest is_full = e
ended Fresh frames rest is_full = end_after Fresh frames rest is_full
ended (Going node) frames rest is_full = end_after (Going node) frames rest is_full

-- how the run over a stream ends
abbrev pub end_of : Rules → Answer → Task → List ℕ → End
end_of rules answer task bytes =
    let frames = frames_of (seen bytes) in
    ended (ran rules answer task (seen bytes)).1 (length frames.0) frames.1 (nat_le (2 ^ 40) (length bytes))

-- whether the whole frames among these bytes hold a stop, or a length word that no frame has stands behind them
abbrev pub is_stopped : Stand → Bool
is_stopped (Stopped e) = true
is_stopped Fresh = false
is_stopped (Going node) = false

abbrev pub shows_stop : Rules → Answer → Task → List ℕ → Bool
shows_stop rules answer task bytes = is_stopped (ran rules answer task bytes).1 || is_too_long (frames_of bytes).1
