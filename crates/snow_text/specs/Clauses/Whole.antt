-- What making the bytes of a whole text owes.
use Rattle.std.specs.Prelude.{◌≡◌, ℕ, ◌^◌, ◌≤◌, List, length, Option, Result, Ok, Err, ⊤}
use Rattle.std.specs.Io.KnownBytes.{Appends}
use Rattle.snow_base.specs.Clauses.Outside.{AppendsFront, Rose}
use Rattle.snow_text.specs.declared.maker.MakeStop.{MakeStop}
use Rattle.snow_text.specs.declared.maker.MakeStop.TheVariants as make
use Rattle.snow_text.specs.declared.whole.MakeEnd.{MakeEnd}
use Rattle.snow_text.specs.declared.whole.MakeEnd.TheVariants as end
use Rattle.snow_text_model.specs.Model.Made.{made}

-- a text was made to its stream: the sink got all bytes that the text means, or a front of them where it failed; or the text means none
abbrev pub Makes : MakeEnd → List ℕ → Option (List ℕ) → Option (List ℕ) → Type 0
Makes end.Done text before after = (bytes : List ℕ) × (made text ≡ Ok bytes) × Appends before after bytes
Makes end.SinkFault text before after = (bytes : List ℕ) × (made text ≡ Ok bytes) × AppendsFront before after bytes
Makes (end.Refused refusal) text before after = made text ≡ Err refusal
Makes end.InputLimit text before after = 2 ^ 40 ≤ length text
Makes end.SourceFault text before after = ⊤
Makes end.Memory text before after = ⊤

-- nothing was written, unless the stream was made
abbrev pub IsQuiet : MakeEnd → Option (List ℕ) → Option (List ℕ) → Type 0
IsQuiet end.Done before after = ⊤
IsQuiet end.SinkFault before after = ⊤
IsQuiet given before after = after ≡ before

-- a source fault, or a sink fault, is told only where that object's count of faults rose or stands at its last value
abbrev pub HasFault : MakeEnd → ℕ → ℕ → ℕ → ℕ → Type 0
HasFault end.SourceFault source_before source_after sink_before sink_after = Rose source_before source_after
HasFault end.SinkFault source_before source_after sink_before sink_after = Rose sink_before sink_after
HasFault given source_before source_after sink_before sink_after = ⊤

-- ---- the reading

-- the end where a line isn't taken
abbrev pub end_at : MakeStop → MakeEnd
end_at make.Memory = end.Memory
end_at (make.Refused refusal) = end.Refused refusal

-- a text was read to its end, and these are the bytes that it means; or it means none, or is too long
abbrev pub Reads : Result (Unit {0}) MakeEnd → List ℕ → List ℕ → Type 0
Reads (Ok u) text stream = made text ≡ Ok stream
Reads (Err (end.Refused refusal)) text stream = made text ≡ Err refusal
Reads (Err end.InputLimit) text stream = 2 ^ 40 ≤ length text
Reads (Err given) text stream = ⊤

-- a text that is read is not yet done, and no sink failed
abbrev pub IsStop : Result (Unit {0}) MakeEnd → Type 0
IsStop (Err end.Done) = ⊥
IsStop (Err end.SinkFault) = ⊥
IsStop result = ⊤

-- the source failed where that is the end
abbrev pub SourceFails : Result (Unit {0}) MakeEnd → ℕ → ℕ → Type 0
SourceFails (Err end.SourceFault) before after = Rose before after
SourceFails result before after = ⊤
