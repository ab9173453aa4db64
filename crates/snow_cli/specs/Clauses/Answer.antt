-- What the program owes for its words and for the bytes that come in.
use Rattle.std.specs.Prelude.{◌≡◌, ℕ, List, [], ◌++◌, decimal, Option, Some, None, codes, ⊤, ◌⊎◌, Result, Ok, Err}
use Rattle.std.specs.Io.KnownBytes.{Appends, IsAtEnd}
use Rattle.snow_base.specs.declared.outside.Failed.{Failed}
use Rattle.snow_base.specs.Clauses.Outside.{AppendsFront, Rose}
use Rattle.snow_flake.specs.Model.Rule.{Answer, by_preference, by_flake}
use Rattle.snow_flake.specs.declared.params.ParamFault.{ParamFault}
use Rattle.snow_flake.specs.declared.params.ParamFault.TheVariants as params
use Rattle.snow_engine.specs.RosterFault.{RosterFault}
use Rattle.snow_engine.specs.RosterFault.TheVariants as roster
use Rattle.hex.specs.Hex.{encode_lower}
use Rattle.snow_engine.specs.BootStop.{BootStop}
use Rattle.snow_engine.specs.BootStop.TheVariants as boot
use Rattle.snow_chain.specs.Model.Chain.{Rules}
use Rattle.snow_chain.specs.Model.Plain.{plain_rules}
use Rattle.snow_chain.specs.Model.Tally.{tally_rules}
use Rattle.snow_ledger.specs.Model.Ledger.{ledger_rules}
use Rattle.snow_lines.specs.Model.Text.{texts}
use Rattle.snow_engine.specs.declared.engine.Task.TheVariants as task
use Rattle.snow_engine.specs.Model.Node.{started, step}
use Rattle.snow_drill.specs.Model.First.{first}
use Rattle.snow_drill.specs.Model.Summary.{drilled}
use Rattle.snow_engine.specs.declared.end.BadKind.{BadKind}
use Rattle.snow_engine.specs.declared.end.BadKind.TheVariants as kind
use Rattle.snow_engine.specs.declared.end.End.{End}
use Rattle.snow_engine.specs.declared.end.End.TheVariants as end
use Rattle.snow_engine.specs.Model.Run.{lines_of, seen, end_of}
use Rattle.snow_engine.specs.Clauses.Serving.{Broke}
use Rattle.snow_audit.specs.declared.auditing.AuditEnd.{AuditEnd}
use Rattle.snow_audit.specs.declared.auditing.AuditEnd.TheVariants as audit
use Rattle.snow_audit.specs.Model.Auditing.{audit_of}
use Rattle.snow_command.specs.declared.command.ChainName.{ChainName}
use Rattle.snow_command.specs.declared.command.ChainName.TheVariants as chain
use Rattle.snow_command.specs.declared.command.RuleName.{RuleName}
use Rattle.snow_command.specs.declared.command.RuleName.TheVariants as rule
use Rattle.snow_command.specs.declared.command.Job.{Job}
use Rattle.snow_command.specs.declared.command.Job.TheVariants as job
use Rattle.snow_command.specs.declared.command.Command.{Command}
use Rattle.snow_command.specs.declared.command.Command.TheVariants as command
use Rattle.snow_cli.specs.declared.status.Finish.{Finish}
use Rattle.snow_cli.specs.declared.status.Finish.TheVariants as finish
use Rattle.snow_cli.specs.declared.status.Status.{Status}
use Rattle.snow_cli.specs.declared.status.Status.TheVariants as status

-- ---- the model

-- the chain that a name chooses
abbrev pub rules_of : ChainName → Rules
rules_of chain.Plain = plain_rules
rules_of chain.Tally = tally_rules
rules_of chain.Ledger = ledger_rules

-- the rule that a name chooses
abbrev pub answer_of : RuleName → Answer
answer_of rule.Snowball = by_preference
answer_of rule.Snowflake = by_flake

-- the six lines of a drill
abbrev pub drill_text : RuleName → ℕ → ℕ → List ℕ
drill_text r seed blocks = drilled (step tally_rules (answer_of r)) seed blocks (started tally_rules task.Run first)

-- the line of a word and a number
abbrev pub number_line : List ℕ → ℕ → List ℕ
number_line word number = word ++ codes " " ++ decimal number ++ codes "\n"

-- the one line of an audit: how many recorded lines are the model's, or the number of the first that isn't; none where it stopped
abbrev pub audit_text : AuditEnd → List ℕ
audit_text (audit.Same lines) = number_line (codes "same") lines
audit_text (audit.Differs line) = number_line (codes "differs") line
audit_text (audit.Stopped e) = []

-- how an audit ends
abbrev pub audit_finish : AuditEnd → Finish
audit_finish (audit.Same lines) = finish.Ended end.Done
audit_finish (audit.Differs line) = finish.Differs
audit_finish (audit.Stopped e) = finish.Ended e

-- the text for what is done with a stream, of which the first 2^40 bytes count
abbrev pub job_text : Job → Rules → Answer → List ℕ → List ℕ
job_text job.Decide rules answer bytes = texts (lines_of rules answer task.Decide (seen bytes))
job_text job.Run rules answer bytes = texts (lines_of rules answer task.Run (seen bytes))
job_text job.Audit rules answer bytes = audit_text (audit_of rules answer bytes)

-- how that ends
abbrev pub job_finish : Job → Rules → Answer → List ℕ → Finish
job_finish job.Decide rules answer bytes = finish.Ended (end_of rules answer task.Decide bytes)
job_finish job.Run rules answer bytes = finish.Ended (end_of rules answer task.Run bytes)
job_finish job.Audit rules answer bytes = audit_finish (audit_of rules answer bytes)

-- the text for a command and a stream; a drill doesn't look at it, and there is none without a command
abbrev pub text_for : Option Command → List ℕ → List ℕ
text_for None bytes = []
text_for (Some (command.Stream j c r)) bytes = job_text j (rules_of c) (answer_of r) bytes
text_for (Some (command.Drill r seed blocks)) bytes = drill_text r seed blocks

-- how a command over a stream ends; without a command nothing is run
abbrev pub finish_for : Option Command → List ℕ → Option Finish
finish_for None bytes = None
finish_for (Some (command.Stream j c r)) bytes = Some (job_finish j (rules_of c) (answer_of r) bytes)
finish_for (Some (command.Drill r seed blocks)) bytes = Some (finish.Ended end.Done)

-- the status for how a run ended
abbrev pub end_status : End → Status
end_status end.Done = status.Done
end_status (end.BadInput frame bad) = status.BadInput
end_status end.SourceFault = status.SourceFault
end_status end.SinkFault = status.SinkFault
end_status end.Memory = status.Memory
end_status end.InputLimit = status.Limit
end_status end.RequestLimit = status.Limit
end_status (end.BootStopped why) = status.BootStopped

-- the status for how a command ended, or that there was none
abbrev pub status_of : Option Finish → Status
status_of None = status.Usage
status_of (Some finish.Differs) = status.Differs
status_of (Some (finish.Ended e)) = end_status e

-- ---- the line on standard error

-- the word for refused parameters
abbrev pub fault_word : ParamFault → List ℕ
fault_word params.AlphaLow = codes "alpha-low"
fault_word params.AlphaOrder = codes "alpha-order"
fault_word params.AlphaHigh = codes "alpha-high"
fault_word params.BetaZero = codes "beta-zero"
fault_word params.RepollsZero = codes "repolls-zero"
fault_word params.RepollsHigh = codes "repolls-high"
fault_word params.KLarge = codes "k-large"
fault_word params.BetaLarge = codes "beta-large"

-- the word for refused nodes; want of memory is never told so
abbrev pub roster_word : RosterFault → List ℕ
roster_word roster.Empty = codes "nodes-empty"
roster_word (roster.Duplicate node) = codes "node-twice"
roster_word (roster.ZeroWeight node) = codes "node-weight"
roster_word roster.TooHeavy = codes "nodes-heavy"
roster_word roster.Memory = []

-- the word for what is wrong with an input
abbrev pub kind_word : BadKind → List ℕ
kind_word kind.Length = codes "length"
kind_word kind.Cut = codes "cut"
kind_word kind.NoStart = codes "no-start"
kind_word kind.NotStart = codes "not-start"
kind_word (kind.Params fault) = fault_word fault
kind_word (kind.Roster fault) = roster_word fault
kind_word kind.State = codes "state"
kind_word kind.SecondStart = codes "second-start"

-- the line for a bad input
abbrev pub bad_line : ℕ → BadKind → List ℕ
bad_line frame bad = codes "snowman: bad input at frame " ++ decimal frame ++ codes ": " ++ kind_word bad ++ codes "\n"

-- why bootstrapping stopped: two blocks where one belongs, a block right above the last accepted one with another parent, a block that
-- isn't valid where it stands, or as many blocks as are kept; want of memory and of numbers are told by lines of their own
abbrev pub stop_text : BootStop → List ℕ
stop_text (boot.Conflict height first second) = codes "conflict " ++ decimal height ++ codes " " ++ encode_lower first ++ codes " " ++ encode_lower second
stop_text (boot.Fork id parent) = codes "fork " ++ encode_lower id ++ codes " " ++ encode_lower parent
stop_text (boot.Refused id) = codes "refused " ++ encode_lower id
stop_text boot.Full = codes "full 32768"
stop_text boot.Requests = []
stop_text boot.Memory = []

abbrev pub boot_line : BootStop → List ℕ
boot_line why = codes "snowman: bootstrapping stopped: " ++ stop_text why ++ codes "\n"

-- the line for how a run ended; nothing where all is done
abbrev pub end_line : End → List ℕ
end_line end.Done = []
end_line (end.BadInput frame bad) = bad_line frame bad
end_line end.SourceFault = codes "snowman: source fault\n"
end_line end.SinkFault = codes "snowman: sink fault\n"
end_line end.Memory = codes "snowman: out of memory\n"
end_line end.InputLimit = codes "snowman: input limit\n"
end_line end.RequestLimit = codes "snowman: request limit\n"
end_line (end.BootStopped why) = boot_line why

-- the line for how a command ended, or that there was none; that an audit differs is told on the output
abbrev pub error_line : Option Finish → List ℕ
error_line None = codes "snowman: usage\n"
error_line (Some finish.Differs) = []
error_line (Some (finish.Ended e)) = end_line e

-- ---- the answer

-- how a command ended by its status: a fault or want of memory where the status says so, else what the model says
abbrev pub told_by : Status → Option Finish → Option Finish
told_by status.SourceFault expected = Some (finish.Ended end.SourceFault)
told_by status.SinkFault expected = Some (finish.Ended end.SinkFault)
told_by status.Memory expected = Some (finish.Ended end.Memory)
told_by given expected = expected

-- the status is the model's, unless a source fault, a sink fault or want of memory ended the run
abbrev pub IsAnswer : Status → Option Finish → Type 0
IsAnswer given expected = given ≡ status_of (told_by given expected)

-- so is how a command ended
abbrev pub IsFinish : Finish → Finish → Type 0
IsFinish given expected = Some given ≡ told_by (status_of (Some given)) (Some expected)

-- what was written: the whole text, or a front of it where a fault or want of memory ended the run
abbrev pub Wrote : Status → Option (List ℕ) → Option (List ℕ) → List ℕ → Type 0
Wrote status.SourceFault before after text = AppendsFront before after text
Wrote status.SinkFault before after text = AppendsFront before after text
Wrote status.Memory before after text = AppendsFront before after text
Wrote given before after text = Appends before after text

-- how a command ends, unless the sink failed
abbrev pub unless_failed : Result (Unit {0}) Failed → Finish → Finish
unless_failed (Ok done) expected = expected
unless_failed (Err fault) expected = finish.Ended end.SinkFault

-- a line was written whole, and the command ends so; or the sink failed, and a front of the line was written
pub data Tells (expected given : Finish) (before after : Option (List ℕ)) (faults_before faults_after : ℕ) (line : List ℕ) : Type 0 where
  Whole : given ≡ expected → Appends before after line → Tells expected given before after faults_before faults_after line
  Front : given ≡ finish.Ended end.SinkFault → AppendsFront before after line → Rose faults_before faults_after
      → Tells expected given before after faults_before faults_after line

-- what an audit found was told; where it stopped nothing is told
abbrev pub Told : Finish → AuditEnd → Option (List ℕ) → Option (List ℕ) → ℕ → ℕ → Type 0
Told given (audit.Stopped e) before after faults_before faults_after = (given ≡ finish.Ended e) × (after ≡ before)
Told given found before after faults_before faults_after = Tells (audit_finish found) given before after faults_before faults_after (audit_text found)

-- the source failed: exactly the lines of the whole frames that came were written, and these frames show no stop; an audit wrote nothing
abbrev pub BrokeAt : Job → Rules → Answer → Option (List ℕ) → Option (List ℕ) → Option (List ℕ) → Option (List ℕ) → Type 0
BrokeAt job.Decide rules answer left_before left_after out_before out_after = Broke rules answer task.Decide left_before left_after out_before out_after
BrokeAt job.Run rules answer left_before left_after out_before out_after = Broke rules answer task.Run left_before left_after out_before out_after
BrokeAt job.Audit rules answer left_before left_after out_before out_after = out_after ≡ out_before

abbrev pub BrokeFor : Option Command → Option (List ℕ) → Option (List ℕ) → Option (List ℕ) → Option (List ℕ) → Type 0
BrokeFor None left_before left_after out_before out_after = ⊥
BrokeFor (Some (command.Stream j c r)) left_before left_after out_before out_after =
    BrokeAt j (rules_of c) (answer_of r) left_before left_after out_before out_after
BrokeFor (Some (command.Drill r seed blocks)) left_before left_after out_before out_after = ⊥

-- a run over a stream that was done has read it to its end; a drill reads nothing
abbrev pub ReadFor : {S : Type 0} → (S → Option (List ℕ)) → Option Command → S → S → Type 0
ReadFor left (Some (command.Drill r seed blocks)) before after = after ≡ before
ReadFor left other before after = IsAtEnd (left after)

-- a drill, whatever the source tells: nothing is read, the status is `Done` and its lines are written, unless a sink fault or want of memory ended it
abbrev pub DrilledFor : {S : Type 0} → Option Command → Status → S → S → Option (List ℕ) → Option (List ℕ) → Type 0
DrilledFor (Some (command.Drill r seed blocks)) given source_before source_after before after =
    IsAnswer given (Some (finish.Ended end.Done)) × Wrote given before after (drill_text r seed blocks) × (source_after ≡ source_before)
DrilledFor other given source_before source_after before after = ⊤

-- words that ask for nothing are answered before anything is read or written
abbrev pub IsUsage : {S O : Type 0} → Status → S → S → O → O → Type 0
IsUsage given source_before source_after out_before out_after =
    ((given ≡ status.Usage) ⊎ (given ≡ status.Memory)) × (source_after ≡ source_before) × (out_after ≡ out_before)

-- a source fault is told only where the source's count of faults rose or stands at its last value, and a sink fault only where the
-- sink's did
abbrev pub HasFault : Status → ℕ → ℕ → ℕ → ℕ → Type 0
HasFault status.SourceFault source_before source_after sink_before sink_after = Rose source_before source_after
HasFault status.SinkFault source_before source_after sink_before sink_after = Rose sink_before sink_after
HasFault given source_before source_after sink_before sink_after = ⊤

-- a line was taken whole, or a front of it where the count of faults rose or stands at its last value
abbrev pub TookLine : Option (List ℕ) → Option (List ℕ) → ℕ → ℕ → List ℕ → Type 0
TookLine before after faults_before faults_after line =
    Appends before after line ⊎ (AppendsFront before after line × Rose faults_before faults_after)

-- a line of a run that ended with this status was taken
pub record TookOne (given : Status) (before after : Option (List ℕ)) (faults_before faults_after : ℕ) : Type 0 where
  pub ended : Option Finish
  pub status_is : status_of ended ≡ given
  pub line : TookLine before after faults_before faults_after (error_line ended)

-- the exit status of the program
abbrev pub exit_code : Status → ℕ
exit_code status.Done = 0
exit_code status.Usage = 2
exit_code status.BadInput = 3
exit_code status.SourceFault = 4
exit_code status.SinkFault = 5
exit_code status.Memory = 6
exit_code status.Limit = 7
exit_code status.BootStopped = 8
exit_code status.Differs = 9
