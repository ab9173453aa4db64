use Rattle.std.proofs.Common.{◌≡◌, length}
use Rattle.snow_text_model.specs.Model.Words.{all_of}
use Rattle.snow_text_model.specs.Model.Bytes.{part_word}
use Rattle.snow_words.specs.Clauses.Making.{onto}
use Rattle.snow_say.proofs.chain.parts.Given as goal

abbrev pub invariant-loop-word : goal.invariant-loop-word
invariant-loop-word l = onto l.out (all_of (part_word l.names) l.words) ≡ onto l.initial.out (all_of (part_word l.names) l.initial.words)

abbrev pub decreases-loop-word : goal.decreases-loop-word
decreases-loop-word l = length l.words
