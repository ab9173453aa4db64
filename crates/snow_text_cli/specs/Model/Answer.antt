-- What the program answers: the bytes that it writes, its status, and what it says on standard error.
use Rattle.std.specs.Prelude.{ℕ, List, [], ◌++◌, Option, Some, None, Result, Ok, Err, codes, decimal}
use Rattle.snow_text_model.specs.declared.refusal.Reason.{Reason}
use Rattle.snow_text_model.specs.declared.refusal.Reason.TheVariants as reason
use Rattle.snow_text_model.specs.declared.refusal.Refusal.{Refusal}
use Rattle.snow_text_model.specs.Model.Shown.{shown}
use Rattle.snow_text_model.specs.Model.Made.{made}
use Rattle.snow_text_cli.specs.declared.request.Request.{Request}
use Rattle.snow_text_cli.specs.declared.request.Request.TheVariants as request
use Rattle.snow_text_cli.specs.declared.finish.Finish.{Finish}
use Rattle.snow_text_cli.specs.declared.finish.Finish.TheVariants as finish
use Rattle.snow_text_cli.specs.declared.status.Status.{Status}
use Rattle.snow_text_cli.specs.declared.status.Status.TheVariants as status

-- the bytes of a stream that was made; none where the text isn't taken
abbrev pub made_bytes : Result (List ℕ) Refusal → List ℕ
made_bytes (Ok bytes) = bytes
made_bytes (Err refusal) = []

-- how the making of a stream ends
abbrev pub made_finish : Result (List ℕ) Refusal → Finish
made_finish (Ok bytes) = finish.Done
made_finish (Err refusal) = finish.Refused refusal

-- what is written for a request and an input; nothing where none is asked for
abbrev pub output_for : Option Request → List ℕ → List ℕ
output_for None input = []
output_for (Some (request.Show form)) stream = shown form stream
output_for (Some request.Make) text = made_bytes (made text)

-- how that ends
abbrev pub finish_for : Option Request → List ℕ → Finish
finish_for None input = finish.Usage
finish_for (Some (request.Show form)) stream = finish.Done
finish_for (Some request.Make) text = made_finish (made text)

-- the status for how the program ended
abbrev pub status_of : Finish → Status
status_of finish.Done = status.Done
status_of finish.Usage = status.Usage
status_of (finish.Refused refusal) = status.BadInput
status_of finish.SourceFault = status.SourceFault
status_of finish.SinkFault = status.SinkFault
status_of finish.Memory = status.Memory
status_of finish.Limit = status.Limit

-- the exit status of the program
abbrev pub exit_code : Status → ℕ
exit_code status.Done = 0
exit_code status.Usage = 2
exit_code status.BadInput = 3
exit_code status.SourceFault = 4
exit_code status.SinkFault = 5
exit_code status.Memory = 6
exit_code status.Limit = 7

-- what is wrong at a place of a text
abbrev pub reason_text : Reason → List ℕ
reason_text reason.Missing = codes "a word is missing"
reason_text reason.Extra = codes "the line should end here"
reason_text reason.Name = codes "no line begins with this word"
reason_text reason.Field = codes "another field is wanted"
reason_text reason.Number = codes "a decimal number is wanted that fits"
reason_text reason.Digits = codes "pairs of hexadecimal digits are wanted"
reason_text reason.Size = codes "these are too few or too many bytes"
reason_text reason.Node = codes "NODE:WEIGHT is wanted"
reason_text reason.Transfer = codes "FROM>TO:AMOUNT@SEQUENCE is wanted"
reason_text reason.Many = codes "a list has at most 65535 items"
reason_text reason.Long = codes "a frame has at most 2097152 bytes"
reason_text reason.Unknown = codes "no block has this name"
reason_text reason.Naming = codes "a name of small letters, digits and - is wanted"
reason_text reason.Twice = codes "another block has this name"
reason_text reason.Chain = codes "a block in the words of its chain is wanted"
reason_text reason.Behind = codes "nothing may stand behind the rest"

-- the line for a text that isn't taken
abbrev pub refusal_line : Refusal → List ℕ
refusal_line r =
    codes "snowtext: line " ++ decimal r.line ++ codes " column " ++ decimal r.column ++ codes ": " ++ reason_text r.reason ++ codes "\n"

-- what standard error says of an end
abbrev pub error_line : Finish → List ℕ
error_line finish.Done = []
error_line finish.Usage =
    codes "usage: snowtext show [--chain NAME] < STREAM > TEXT\n"
    ++ codes "       snowtext make [--chain NAME] < TEXT > STREAM\n"
    ++ codes "       where NAME is plain, tally or ledger\n"
error_line (finish.Refused refusal) = refusal_line refusal
error_line finish.SourceFault = codes "snowtext: source fault\n"
error_line finish.SinkFault = codes "snowtext: sink fault\n"
error_line finish.Memory = codes "snowtext: out of memory\n"
error_line finish.Limit = codes "snowtext: input limit\n"
