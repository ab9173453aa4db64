use Rattle.std.proofs.Common.{◌≡◌, ◌+◌, ◌≤◌, length}
use Rattle.snow_text_model.specs.Model.Words.{column_of}
use Rattle.snow_text.specs.Clauses.Columns.{span}
use Rattle.snow_text.proofs.refusing.column.Given as goal

abbrev pub invariant-loop-part : goal.invariant-loop-part
invariant-loop-part l =
    (column_of l.behind l.column l.parts ≡ column_of l.initial.behind l.initial.column l.initial.parts) × (l.column + span l.parts ≤ length l.text + 2)

abbrev pub decreases-loop-part : goal.decreases-loop-part
decreases-loop-part l = length l.parts
