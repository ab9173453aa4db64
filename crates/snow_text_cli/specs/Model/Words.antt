-- What the words of the command line, without the program's name, ask for.
use Rattle.std.specs.Prelude.{ℕ, Bool, List, [], ◌∷◌, Option, Some, None, codes, if◌then◌else◌, bytes_eq}
use Rattle.snow_text_model.specs.declared.block_form.BlockForm.{BlockForm}
use Rattle.snow_text_model.specs.declared.block_form.BlockForm.TheVariants as form
use Rattle.snow_text_cli.specs.declared.request.Request.{Request}
use Rattle.snow_text_cli.specs.declared.request.Request.TheVariants as request

-- whether a word is the option's name
abbrev pub is_option : List ℕ → Bool
is_option word = bytes_eq word (codes "--chain")

-- the form that the name of a chain chooses
abbrev pub form_named : List ℕ → Option BlockForm
form_named name =
    if bytes_eq name (codes "plain") then Some form.Plain
    else if bytes_eq name (codes "tally") then Some form.Tally
    else if bytes_eq name (codes "ledger") then Some form.Ledger
    else None

-- the form that an option with its value in one word chooses
abbrev pub form_set : List ℕ → Option BlockForm
form_set word =
    if bytes_eq word (codes "--chain=plain") then Some form.Plain
    else if bytes_eq word (codes "--chain=tally") then Some form.Tally
    else if bytes_eq word (codes "--chain=ledger") then Some form.Ledger
    else None

-- what a task asks for, with blocks in this form
abbrev pub task_of : List ℕ → BlockForm → Option Request
task_of task f =
    if bytes_eq task (codes "show") then Some (request.Show f)
    else if bytes_eq task (codes "make") then Some request.Make
    else None

-- what a task asks for, where there is a form
abbrev pub task_in : List ℕ → Option BlockForm → Option Request
task_in task None = None
task_in task (Some f) = task_of task f

-- what a task behind an option asks for, or else one in front of an option
abbrev pub task_beside : Option BlockForm → List ℕ → List ℕ → Option Request
task_beside (Some f) first second = task_of second f
task_beside None first second = task_in first (form_set second)

-- what words ask for: a task alone, or one with an option before or behind it, in one word or in two
unfoldable pub asked : List (List ℕ) → Option Request
asked (task ∷ []) = task_of task form.Bytes
asked (first ∷ second ∷ []) = task_beside (form_set first) first second
asked (first ∷ second ∷ third ∷ []) =
    if is_option first then task_in third (form_named second)
    else if is_option second then task_in first (form_named third)
    else None
asked words = None
