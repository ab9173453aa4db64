-- What a step of a node comes to: its lines, and then what it leaves, or why the node goes no further.
use Rattle.std.specs.Prelude.{Bool, true, false, List, [], ◌∷◌, ◌++◌, Result, Ok, Err}
use Rattle.snow_lines.specs.declared.line.Line.{Line}
use Rattle.snow_node.specs.declared.stop.Halt.{Halt}

-- lines, and then something or a stop of this kind; the lines before a stop stand
abbrev pub Outcome : Type 0 → Type 0 → Type 0
Outcome E T = List Line × Result T E

-- what comes of a node that decides or runs
abbrev pub Comes : Type 0 → Type 0
Comes T = Outcome Halt T

-- it comes without a line
abbrev pub quietly : {E T : Type 0} → T → Outcome E T
quietly x = ([], Ok x)

-- it comes with one line
abbrev pub with_line : {E T : Type 0} → Line → T → Outcome E T
with_line l x = (l ∷ [], Ok x)

-- a stop
abbrev pub stops : {E T : Type 0} → E → Outcome E T
stops stop = ([], Err stop)

-- lines stand before
abbrev pub after_lines : {E T : Type 0} → List Line → Outcome E T → Outcome E T
after_lines lines later = (lines ++ later.0, later.1)

-- these lines, and then the stop, or what follows
abbrev pub going_on : {E S T : Type 0} → List Line → Result S E → (S → Outcome E T) → Outcome E T
going_on lines (Err stop) next = (lines, Err stop)
going_on lines (Ok x) next = after_lines lines (next x)

-- one thing, and then another
abbrev pub then_comes : {E S T : Type 0} → Outcome E S → (S → Outcome E T) → Outcome E T
then_comes first next = going_on first.0 first.1 next

-- what follows where a step was made; else all is done
abbrev pub where_made : {E T : Type 0} → (T → Outcome E T) → T × Bool → Outcome E T
where_made next (x, true) = next x
where_made next (x, false) = quietly x
