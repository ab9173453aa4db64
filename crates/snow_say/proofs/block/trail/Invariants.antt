use Rattle.std.proofs.Common.{◌≡◌, ◌++◌, length}
use Rattle.snow_say.specs.Clauses.Payload.{trailed}
use Rattle.snow_say.proofs.block.trail.Given as goal

abbrev pub invariant-loop-word : goal.invariant-loop-word
invariant-loop-word l = l.text ++ trailed l.words ≡ l.initial.text ++ trailed l.initial.words

abbrev pub decreases-loop-word : goal.decreases-loop-word
decreases-loop-word l = length l.words
