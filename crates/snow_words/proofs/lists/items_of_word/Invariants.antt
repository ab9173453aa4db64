use Rattle.std.proofs.Common.{◌≡◌, length}
use Rattle.snow_text_model.specs.Model.Words.{each}
use Rattle.snow_words.specs.Clauses.Making.{tallied}
use Rattle.snow_words.specs.Clauses.Listing.{items_of}
use Rattle.snow_words.proofs.lists.items_of_word.Given as goal

abbrev pub invariant-loop-part : goal.invariant-loop-part
invariant-loop-part l = tallied l.out l.count (each (items_of l.names l.item) l.parts) ≡ tallied l.initial.out l.initial.count (each (items_of l.names l.item) l.initial.parts)

abbrev pub decreases-loop-part : goal.decreases-loop-part
decreases-loop-part l = length l.parts
