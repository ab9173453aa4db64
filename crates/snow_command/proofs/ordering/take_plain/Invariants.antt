-- The words that are left come to the same as all.
use Rattle.std.proofs.Common.{◌≡◌, ◌≤◌, length, map}
use Rattle.snow_command.specs.Kept.Request.{texts, with_items}
use Rattle.snow_command.specs.Model.Words.{Plain}
use Rattle.snow_command.proofs.ordering.take_plain.Given as goal

abbrev pub invariant-loop-word : goal.invariant-loop-word
invariant-loop-word l =
    (with_items l.asked (map Plain (texts l.rest)) ≡ with_items l.initial.asked (map Plain (texts l.words)))
    × (length l.rest ≤ length l.words)

abbrev pub decreases-loop-word : goal.decreases-loop-word
decreases-loop-word l = length l.rest
