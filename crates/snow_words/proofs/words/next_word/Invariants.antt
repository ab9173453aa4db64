use Rattle.std.proofs.Common.{◌≡◌, ◌≤◌, length}
use Rattle.std.specs.List.{filter}
use Rattle.snow_text_model.specs.Model.Words.{is_word}
use Rattle.snow_words.proofs.words.next_word.Given as goal

abbrev pub invariant-loop-part : goal.invariant-loop-part
invariant-loop-part l = (filter is_word l.parts ≡ filter is_word l.initial.parts) × (length l.parts ≤ length l.initial.parts)

abbrev pub decreases-loop-part : goal.decreases-loop-part
decreases-loop-part l = length l.parts
