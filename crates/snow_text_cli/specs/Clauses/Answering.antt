-- What the top call owes beside the model: the exceptions, and what they leave.
use Rattle.std.specs.Prelude.{◌≡◌, ℕ, ◌^◌, ◌≤◌, List, length, Option, Some, None, IfSome, ◌⊎◌, ⊤}
use Rattle.std.specs.Io.KnownBytes.{Appends}
use Rattle.snow_base.specs.Clauses.Outside.{AppendsFront, Rose}
use Rattle.snow_text.specs.Clauses.Streaming as showing
use Rattle.snow_text_cli.specs.declared.request.Request.{Request}
use Rattle.snow_text_cli.specs.declared.request.Request.TheVariants as request
use Rattle.snow_text_cli.specs.declared.finish.Finish.{Finish}
use Rattle.snow_text_cli.specs.declared.finish.Finish.TheVariants as finish
use Rattle.snow_text_cli.specs.declared.status.Status.{Status}
use Rattle.snow_text_cli.specs.declared.status.Status.TheVariants as status
use Rattle.snow_text_cli.specs.Model.Answer.{error_line, status_of}

-- how the program ended by its status: a fault, want of memory or the limit where the status says so, else what the model says
abbrev pub told_by : Status → Finish → Finish
told_by status.SourceFault expected = finish.SourceFault
told_by status.SinkFault expected = finish.SinkFault
told_by status.Memory expected = finish.Memory
told_by status.Limit expected = finish.Limit
told_by given expected = expected

-- the status is the model's, unless a source fault, a sink fault, want of memory or the limit ended the program
abbrev pub IsAnswer : Status → Finish → Type 0
IsAnswer given expected = given ≡ status_of (told_by given expected)

-- so is how it ended
abbrev pub IsEnd : Finish → Finish → Type 0
IsEnd given expected = given ≡ told_by (status_of given) expected

-- what was written: all of these bytes, or a front of them where a fault, want of memory or the limit ended the program
abbrev pub Wrote : Status → Option (List ℕ) → Option (List ℕ) → List ℕ → Type 0
Wrote status.SourceFault before after bytes = AppendsFront before after bytes
Wrote status.SinkFault before after bytes = AppendsFront before after bytes
Wrote status.Memory before after bytes = AppendsFront before after bytes
Wrote status.Limit before after bytes = AppendsFront before after bytes
Wrote given before after bytes = Appends before after bytes

-- words that ask for nothing are answered before anything is read or written
abbrev pub IsUsage : {S O : Type 0} → Status → S → S → O → O → Type 0
IsUsage given source_before source_after out_before out_after =
    (given ≡ status.Usage) × (source_after ≡ source_before) × (out_after ≡ out_before)

-- a source fault is told only where the source's count of faults rose or stands at its last value, and a sink fault only where the
-- sink's did
abbrev pub HasFault : Status → ℕ → ℕ → ℕ → ℕ → Type 0
HasFault status.SourceFault source_before source_after sink_before sink_after = Rose source_before source_after
HasFault status.SinkFault source_before source_after sink_before sink_after = Rose sink_before sink_after
HasFault given source_before source_after sink_before sink_after = ⊤

-- the source failed: of a stream exactly the lines of the whole frames that came were written, and of a text nothing
abbrev pub BrokeFor : Option Request → Option (List ℕ) → Option (List ℕ) → Option (List ℕ) → Option (List ℕ) → Type 0
BrokeFor None left_before left_after out_before out_after = ⊥
BrokeFor (Some (request.Show form)) left_before left_after out_before out_after = showing.Broke form left_before left_after out_before out_after
BrokeFor (Some request.Make) left_before left_after out_before out_after = out_after ≡ out_before

-- 2^40 bytes came: of a stream exactly the lines of their whole frames were written; a text has as many bytes, and nothing was written
abbrev pub FilledFor : Option Request → Option (List ℕ) → Option (List ℕ) → Option (List ℕ) → Option (List ℕ) → Type 0
FilledFor None left_before left_after out_before out_after = ⊥
FilledFor (Some (request.Show form)) left_before left_after out_before out_after = showing.Filled form left_before left_after out_before out_after
FilledFor (Some request.Make) left_before left_after out_before out_after = IfSome left_before (λ text. 2 ^ 40 ≤ length text) × (out_after ≡ out_before)

-- a line was taken whole, or a front of it where the count of faults rose or stands at its last value
abbrev pub TookLine : Option (List ℕ) → Option (List ℕ) → ℕ → ℕ → List ℕ → Type 0
TookLine before after faults_before faults_after line =
    Appends before after line ⊎ (AppendsFront before after line × Rose faults_before faults_after)

-- what standard error says of an end with this status was taken
pub record TookOne (given : Status) (before after : Option (List ℕ)) (faults_before faults_after : ℕ) : Type 0 where
  pub ended : Finish
  pub status_is : status_of ended ≡ given
  pub line : TookLine before after faults_before faults_after (error_line ended)
