-- A run that is recorded with its own lines.
use Rattle.std.specs.Prelude.{ℕ, ◌+◌, Bool, true, false, List, [], ◌∷◌, ◌++◌, map, length, is_none, nat_le}
use Rattle.std.specs.List.{join_with_byte}
use Rattle.snow_base.specs.declared.limits.TheConstants.{LINE_BYTES}
use Rattle.snow_wire.specs.declared.event.Event.TheVariants as event
use Rattle.snow_wire.specs.Model.Spelling.{spelling}
use Rattle.snow_lines.specs.declared.line.Line.{Line}
use Rattle.snow_lines.specs.Model.Text.{text, words}
use Rattle.snow_engine.specs.Model.Run.{Stand}
use Rattle.snow_audit.specs.declared.auditing.AuditEnd.{AuditEnd}
use Rattle.snow_audit.specs.declared.auditing.AuditEnd.TheVariants as audit
use Rattle.snow_audit.specs.Model.Recording.{line_in}
use Rattle.snow_audit.specs.Model.Auditing.{Steps}

-- a payload that records no line
abbrev pub is_event : List ℕ → Bool
is_event payload = is_none (line_in payload)

-- the payload that records a line: the line's text but for its newline
abbrev pub recorded : Line → List ℕ
recorded l = spelling (event.Line (join_with_byte 32 (words l)))

-- a text, with its newline, that a payload can record
abbrev pub fits : Line → Bool
fits l = nat_le (length (text l)) (LINE_BYTES + 1)

-- the events of a run that stands so, each with the lines that the run writes for it behind
unfoldable pub recording : Steps → Stand → ℕ → List (List ℕ) → List (List ℕ)
recording steps stand number [] = []
recording steps stand number (payload ∷ payloads) =
    let now = steps stand number payload in
    payload ∷ map recorded now.0 ++ recording steps now.1 (number + 1) payloads

-- whether an audit found a difference
abbrev pub is_difference : AuditEnd → Bool
is_difference (audit.Differs line) = true
is_difference other = false
