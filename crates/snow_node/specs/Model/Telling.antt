-- What boards and chains that decide are told: the lines of decisions, and what a chain holds after them.
use Rattle.std.specs.Prelude.{ℕ, List, [], ◌∷◌, ◌++◌, map, fold, bytes_eq, if◌then◌else◌}
use Rattle.snow_flake.specs.Model.Rule.{Answer}
use Rattle.snow_board.specs.declared.board.Decision.{Decision}
use Rattle.snow_board.specs.Model.Board.{Board}
use Rattle.snow_board.specs.Model.Preference.{preferred}
use Rattle.snow_chain.specs.Model.Chain.{Held, accepted, rejected}
use Rattle.snow_lines.specs.declared.line.Line.{Line}
use Rattle.snow_lines.specs.declared.line.Line.TheVariants as line

-- the line of a decision
abbrev pub decision_line : Decision → Line
decision_line d = if d.accepted then line.Accept d.id else line.Reject d.id

-- the line of a changed preference, where it changed
abbrev pub preference_line : List ℕ → List ℕ → List Line
preference_line before after = if bytes_eq before after then [] else line.Prefer after ∷ []

-- the lines of a board that came of another one, with its decisions
abbrev pub told : Answer → Board → Board × List Decision → List Line
told answer before after = map decision_line after.1 ++ preference_line (preferred answer before) (preferred answer after.0)

-- what a chain holds once it was told a decision
abbrev pub with_decision : Held → Decision → Held
with_decision held d = if d.accepted then accepted held d.id else rejected held d.id

-- what a chain holds once it was told decisions
abbrev pub with_decisions : Held → List Decision → Held
with_decisions held decisions = fold with_decision held decisions
