-- The words that are left come to the same as all.
use Rattle.std.proofs.Common.{◌≡◌, length}
use Rattle.snow_command.specs.Kept.Request.{blank, texts, with_items}
use Rattle.snow_command.specs.Model.Words.{items}
use Rattle.snow_command.proofs.ordering.ask.Given as goal

abbrev pub invariant-loop-word : goal.invariant-loop-word
invariant-loop-word l = with_items l.asked (items (texts l.rest)) ≡ with_items blank (items (texts l.words))

abbrev pub decreases-loop-word : goal.decreases-loop-word
decreases-loop-word l = length l.rest
