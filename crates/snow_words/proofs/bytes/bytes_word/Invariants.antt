use Rattle.std.proofs.Common.{◌≡◌, length}
use Rattle.snow_text_model.specs.Model.Words.{each}
use Rattle.snow_text_model.specs.Model.Bytes.{piece_word}
use Rattle.snow_words.specs.Clauses.Making.{onto}
use Rattle.snow_words.proofs.bytes.bytes_word.Given as goal

abbrev pub invariant-loop-part : goal.invariant-loop-part
invariant-loop-part l = onto l.out (each piece_word l.parts) ≡ onto l.initial.out (each piece_word l.initial.parts)

abbrev pub decreases-loop-part : goal.decreases-loop-part
decreases-loop-part l = length l.parts
