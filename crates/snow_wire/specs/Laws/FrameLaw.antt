-- A frame holds each event, but for Ancestors that bring more than a node answers.
use Rattle.std.specs.Prelude.{ℕ, ◌≤◌, List, length, sum_by}
use Rattle.snow_base.specs.declared.limits.TheConstants.{ANSWER_BLOCKS, ANSWER_BYTES}
use Rattle.snow_wire.specs.declared.event.Event.{Event}
use Rattle.snow_wire.specs.declared.event.Event.TheVariants as event
use Rattle.snow_wire.specs.Model.Spelling.{spelling, IsInRange}
use Rattle.snow_wire.specs.Model.Frame.{IsPayload}

-- blocks are no more than an answer has
abbrev pub IsAnswer : List (List ℕ) → Type 0
IsAnswer blocks = (length blocks ≤ ANSWER_BLOCKS) × (sum_by length blocks ≤ ANSWER_BYTES)

-- of an event with a list of blocks: it is an answer
abbrev pub IsAnswered : Event → Type 0
IsAnswered (event.Ancestors node request blocks) = IsAnswer blocks
IsAnswered other = Unit {0}

-- the spelling of an event in range is a payload
abbrev pub FrameLaw : Type 0
FrameLaw = (e : Event) → IsInRange e → IsAnswered e → IsPayload (spelling e)
