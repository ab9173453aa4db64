-- The lines of the piece were taken, but for what is left of it.
use Rattle.std.proofs.Common.{length}
use Rattle.snow_text.specs.Kept.Pieces.{Taking}
use Rattle.snow_text.proofs.text.Text.piece.Given as goal

abbrev pub invariant-loop-line : goal.invariant-loop-line
invariant-loop-line l = Taking l.initial.self l.self l.piece l.rest

abbrev pub decreases-loop-line : goal.decreases-loop-line
decreases-loop-line l = length l.rest
