-- Worked examples: what audits find, computed on the definitions.
use Rattle.std.proofs.Common.{◌≡◌, ℕ, ◌-◌, ◌==◌, cond, List, [], ◌∷◌, ◌++◌, length, replicate, take, refl}
use Rattle.std.specs.Fmt.{digits}
use Rattle.hex.specs.Hex.{encode_with}
use Rattle.snow_flake.specs.Model.Rule.{by_preference}
use Rattle.snow_chain.specs.Model.Plain.{plain_rules}
use Rattle.snow_wire.specs.Model.Spelling.{number, sized}
use Rattle.snow_wire.specs.Model.Reading.{bytes_at, number_at, limited_at, sized_at, single_at, flag_at, items_at, counted_at, weighed_at, start_at, fields_at, event_of}
use Rattle.snow_wire.specs.Model.Frame.{first_of, frames_in, frames_of}
use Rattle.snow_lines.specs.declared.line.Line.{Line}
use Rattle.snow_lines.specs.declared.line.Line.TheVariants as line
use Rattle.snow_lines.specs.declared.why.QueryWhy.TheVariants as query
use Rattle.snow_lines.specs.declared.why.SkipKind.TheVariants as skip
use Rattle.snow_lines.specs.Model.Text.{text}
use Rattle.snow_engine.specs.declared.end.BadKind.TheVariants as kind
use Rattle.snow_engine.specs.declared.end.End.TheVariants as end
use Rattle.snow_engine.specs.declared.stage.Stage.TheVariants as stage
use Rattle.snow_engine.specs.Model.Node.{started}
use Rattle.snow_engine.specs.Model.Run.{Stand, Going, Stopped, opened, after_frame}
use Rattle.snow_node.specs.Model.Turning.{runs_on}
use Rattle.snow_audit.specs.declared.auditing.AuditEnd.{AuditEnd}
use Rattle.snow_audit.specs.declared.auditing.AuditEnd.TheVariants as audit
use Rattle.snow_audit.specs.Model.Recording.{entries_from}
use Rattle.snow_audit.specs.Model.Auditing.{compared_from, through, audited_frames, audit_of}

abbrev id_of : ℕ → List ℕ
id_of first = first ∷ replicate 31 0

-- four bytes of a small number
abbrev four : ℕ → List ℕ
four n = 0 ∷ 0 ∷ 0 ∷ n ∷ []

-- a Start of one node, each parameter 1
abbrev start : List ℕ
start = 1 ∷ four 1 ++ four 1 ++ four 1 ++ four 1 ++ four 1 ++ 0 ∷ id_of 255 ++ replicate 10 0 ++ 0 ∷ 1 ∷ replicate 20 1 ++ replicate 7 0 ++ 1 ∷ []

abbrev start_frame : List ℕ
start_frame = four 94 ++ start

-- a payload with a tag that no event has
abbrev unknown : List ℕ
unknown = 255 ∷ []

-- the payload that records a text, and the one that records a line
abbrev recorded : List ℕ → List ℕ
recorded bytes = 17 ∷ sized bytes

abbrev line_of : Line → List ℕ
line_of l = recorded (take (length (text l) - 1) (text l))

-- the frame that records that an event is passed over
abbrev skip_frame : ℕ → List ℕ
skip_frame event = four 15 ++ line_of (line.Skip event skip.Tag)

-- ---- whole streams of a plain chain

abbrev audit_on : List ℕ → AuditEnd
audit_on bytes = audit_of plain_rules by_preference bytes

pub nothing_comes : audit_on [] ≡ audit.Stopped (end.BadInput 1 kind.NoStart)
unfolding frames_of frames_in first_of entries_from compared_from through
nothing_comes = refl

pub a_line_comes_first : audit_on (four 8 ++ recorded (1 ∷ 2 ∷ 3 ∷ []) ++ start_frame) ≡ audit.Stopped (end.BadInput 1 kind.NotStart)
unfolding number frames_of frames_in first_of entries_from compared_from through after_frame opened event_of fields_at single_at sized_at limited_at number_at bytes_at
a_line_comes_first = refl

pub a_start_is_all : audit_on start_frame ≡ audit.Same 0
unfolding frames_of frames_in first_of entries_from compared_from through after_frame opened started event_of fields_at start_at number_at limited_at flag_at bytes_at counted_at items_at weighed_at
a_start_is_all = refl

-- frames are told by their numbers among all, though the lines tell those among the events
pub a_start_comes_again : audit_on (start_frame ++ four 1 ++ unknown ++ skip_frame 2 ++ four 1 ++ unknown ++ skip_frame 3 ++ start_frame) ≡ audit.Stopped (end.BadInput 6 kind.SecondStart)
unfolding number text digits encode_with frames_of frames_in first_of entries_from compared_from through after_frame opened started runs_on event_of fields_at single_at sized_at start_at number_at limited_at flag_at bytes_at counted_at items_at weighed_at
a_start_comes_again = refl

pub a_line_is_missing : audit_on (start_frame ++ four 1 ++ unknown) ≡ audit.Differs 1
unfolding number text digits encode_with frames_of frames_in first_of entries_from compared_from through after_frame opened started event_of fields_at start_at number_at limited_at flag_at bytes_at counted_at items_at weighed_at
a_line_is_missing = refl

pub a_line_comes_twice : audit_on (start_frame ++ four 1 ++ unknown ++ skip_frame 2 ++ skip_frame 2) ≡ audit.Differs 2
unfolding number text digits encode_with frames_of frames_in first_of entries_from compared_from through after_frame opened started event_of fields_at single_at sized_at start_at number_at limited_at flag_at bytes_at counted_at items_at weighed_at
a_line_comes_twice = refl

-- before the end of a stream that is cut a line may be missing
pub it_is_cut_before_a_line : audit_on (start_frame ++ four 1 ++ unknown ++ four 15) ≡ audit.Stopped (end.BadInput 3 kind.Cut)
unfolding number text digits encode_with frames_of frames_in first_of entries_from compared_from through after_frame opened started event_of fields_at start_at number_at limited_at flag_at bytes_at counted_at items_at weighed_at
it_is_cut_before_a_line = refl

-- ---- lines that are given: three for the third event and the fourth

abbrev preferred : Line
preferred = line.Prefer (id_of 1)

abbrev dropped : Line
dropped = line.DropQuery query.Words

abbrev queried : Line
queried = line.Query 1 (id_of 1) (record { node = replicate 20 1; count = 2 } ∷ [])

-- the run writes these, whatever comes
abbrev writes : Stand → ℕ → List ℕ → List Line × Stand
writes stand event payload =
    cond (event == 3) (preferred ∷ dropped ∷ [], Going stage.Ended) (cond (event == 4) (queried ∷ [], Going stage.Ended) ([], Going stage.Ended))

-- the same, and stops at its third event
abbrev stops : Stand → ℕ → List ℕ → List Line × Stand
stops stand event payload = cond (event == 3) (preferred ∷ dropped ∷ [], Stopped end.RequestLimit) ([], Going stage.Ended)

-- four events, with these lines behind the third and these behind the last
abbrev stream_of : List (List ℕ) → List (List ℕ) → List (List ℕ)
stream_of third last = start ∷ unknown ∷ unknown ∷ third ++ unknown ∷ last

pub all_lines_are_there : audited_frames writes (stream_of (line_of preferred ∷ line_of dropped ∷ []) (line_of queried ∷ [])) end.Done ≡ audit.Same 3
unfolding number text digits encode_with entries_from compared_from through event_of fields_at single_at sized_at limited_at start_at number_at flag_at bytes_at counted_at items_at weighed_at
all_lines_are_there = refl

pub the_last_line_is_missing : audited_frames writes (stream_of (line_of preferred ∷ line_of dropped ∷ []) []) end.Done ≡ audit.Differs 3
unfolding number text digits encode_with entries_from compared_from through event_of fields_at single_at sized_at limited_at start_at number_at flag_at bytes_at counted_at items_at weighed_at
the_last_line_is_missing = refl

pub another_block_is_preferred : audited_frames writes (stream_of (line_of (line.Prefer (id_of 2)) ∷ line_of dropped ∷ []) (line_of queried ∷ [])) end.Done ≡ audit.Differs 1
unfolding number text digits encode_with entries_from compared_from through event_of fields_at single_at sized_at limited_at start_at number_at flag_at bytes_at counted_at items_at weighed_at
another_block_is_preferred = refl

pub the_last_line_is_cut : audited_frames writes (stream_of (line_of preferred ∷ line_of dropped ∷ []) []) (end.BadInput 7 kind.Cut) ≡ audit.Stopped (end.BadInput 7 kind.Cut)
unfolding number text digits encode_with entries_from compared_from through event_of fields_at single_at sized_at limited_at start_at number_at flag_at bytes_at counted_at items_at weighed_at
the_last_line_is_cut = refl

-- the order of lines counts
pub lines_change_places : audited_frames writes (stream_of (line_of dropped ∷ line_of preferred ∷ []) (line_of queried ∷ [])) end.Done ≡ audit.Differs 1
unfolding number text digits encode_with entries_from compared_from through event_of fields_at single_at sized_at limited_at start_at number_at flag_at bytes_at counted_at items_at weighed_at
lines_change_places = refl

-- and an event's lines end with it
pub a_line_comes_late : audited_frames writes (stream_of (line_of preferred ∷ []) (line_of dropped ∷ line_of queried ∷ [])) end.Done ≡ audit.Differs 2
unfolding number text digits encode_with entries_from compared_from through event_of fields_at single_at sized_at limited_at start_at number_at flag_at bytes_at counted_at items_at weighed_at
a_line_comes_late = refl

-- two lines in one frame are none
pub two_lines_in_one : audited_frames writes (stream_of (recorded (text preferred ++ take 16 (text dropped)) ∷ []) (line_of queried ∷ [])) end.Done ≡ audit.Differs 1
unfolding number text digits encode_with entries_from compared_from through event_of fields_at single_at sized_at limited_at start_at number_at flag_at bytes_at counted_at items_at weighed_at
two_lines_in_one = refl

-- a stop of the run comes behind its lines, and before what follows
pub the_run_stops : audited_frames stops (stream_of (line_of preferred ∷ line_of dropped ∷ []) (line_of queried ∷ [])) end.Done ≡ audit.Stopped end.RequestLimit
unfolding number text digits encode_with entries_from compared_from through event_of fields_at single_at sized_at limited_at start_at number_at flag_at bytes_at counted_at items_at weighed_at
the_run_stops = refl

pub a_line_is_missing_at_a_stop : audited_frames stops (stream_of (line_of preferred ∷ []) []) end.Done ≡ audit.Differs 2
unfolding number text digits encode_with entries_from compared_from through event_of fields_at single_at sized_at limited_at start_at number_at flag_at bytes_at counted_at items_at weighed_at
a_line_is_missing_at_a_stop = refl

-- the weaker test is that of the last event alone
pub a_line_is_missing_before_the_last_event : audited_frames writes (stream_of (line_of preferred ∷ []) []) (end.BadInput 7 kind.Cut) ≡ audit.Differs 2
unfolding number text digits encode_with entries_from compared_from through event_of fields_at single_at sized_at limited_at start_at number_at flag_at bytes_at counted_at items_at weighed_at
a_line_is_missing_before_the_last_event = refl
