-- A recorded run: the frames of its stream, and behind each the lines that it wrote for it.
use Rattle.std.specs.Prelude.{ℕ, ◌+◌, List, [], ◌∷◌, ◌++◌, map, Option, Some, None, Result, Ok}
use Rattle.std.specs.Option.{some_prefix}
use Rattle.snow_wire.specs.declared.event.Event.{Event}
use Rattle.snow_wire.specs.declared.event.Event.TheVariants as event
use Rattle.snow_wire.specs.declared.skip.Fault.{Fault}
use Rattle.snow_wire.specs.Model.Reading.{event_of}

-- the text of a recorded line, with its newline; other events have none
abbrev pub text_of : Result Event Fault → Option (List ℕ)
text_of (Ok (event.Line text)) = Some (text ++ 10 ∷ [])
text_of other = None

-- the line that a payload records
abbrev pub line_in : List ℕ → Option (List ℕ)
line_in payload = text_of (event_of payload)

-- the lines that these frames begin with, up to the first that records none
abbrev pub lines_before_event : List (List ℕ) → List (List ℕ)
lines_before_event payloads = some_prefix (map line_in payloads)

-- an event frame: its number among all frames, its payload, and the lines that are recorded behind it
pub record Entry : Type 0 where
  pub frame : ℕ
  pub payload : List ℕ
  pub recorded : List (List ℕ)

-- an entry and those behind it; a frame that records a line is no entry
abbrev pub with_entry : Option (List ℕ) → Entry → List Entry → List Entry
with_entry None entry entries = entry ∷ entries
with_entry (Some text) entry entries = entries

-- the entries of frames of which the first has this number
unfoldable pub entries_from : ℕ → List (List ℕ) → List Entry
entries_from frame [] = []
entries_from frame (payload ∷ payloads) =
    with_entry (line_in payload) (record { frame = frame; payload = payload; recorded = lines_before_event payloads }) (entries_from (frame + 1) payloads)

-- the entries of a stream, whose first frame is an event's whatever it holds
abbrev pub entries_of : List (List ℕ) → List Entry
entries_of [] = []
entries_of (payload ∷ payloads) = record { frame = 1; payload = payload; recorded = lines_before_event payloads } ∷ entries_from 2 payloads
