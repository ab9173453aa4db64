use Rattle.std.proofs.Common.{◌≡◌, length, map}
use Rattle.snow_text_model.specs.Model.Lines.{long_words}
use Rattle.snow_say.specs.Clauses.Lined.{kind_in, trailing}
use Rattle.snow_say.proofs.line.long_words.Given as goal

abbrev pub invariant-loop-word : goal.invariant-loop-word
invariant-loop-word l = trailing l.out (long_words l.names (map kind_in l.kinds) l.words) ≡ trailing l.initial.out (long_words l.names (map kind_in l.initial.kinds) l.initial.words)

abbrev pub decreases-loop-word : goal.decreases-loop-word
decreases-loop-word l = length l.words
