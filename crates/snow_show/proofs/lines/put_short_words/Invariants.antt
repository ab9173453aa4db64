use Rattle.std.proofs.Common.{[], ◌∷◌, length, map}
use Rattle.snow_text_model.specs.Model.Lines.{short_words}
use Rattle.snow_text_model.specs.Model.Words.{parts}
use Rattle.snow_say.specs.Clauses.Lined.{kind_in}
use Rattle.snow_show.specs.Kept.Listing.{led}
use Rattle.snow_show.proofs.Putting.{Going}
use Rattle.snow_show.proofs.lines.put_short_words.Given as goal

abbrev pub invariant-loop-word : goal.invariant-loop-word
invariant-loop-word l =
    Going l.fn.text.items l.text.items (led (32 ∷ []) (32 ∷ []) (short_words (map kind_in l.kinds) l.rest)) (led (32 ∷ []) (32 ∷ []) (short_words (map kind_in l.fn.kinds) (parts 32 l.fn.words)))

abbrev pub decreases-loop-word : goal.decreases-loop-word
decreases-loop-word l = length l.rest
