use Rattle.std.proofs.Common.{◌≡◌, length}
use Rattle.snow_text_model.specs.Model.Words.{all_of}
use Rattle.snow_words.specs.Clauses.Making.{tallied}
use Rattle.snow_words.specs.Clauses.Listing.{items_of}
use Rattle.snow_words.proofs.lists.items_of_words.Given as goal

abbrev pub invariant-loop-word : goal.invariant-loop-word
invariant-loop-word l = tallied l.out l.count (all_of (items_of l.names l.item) l.words) ≡ tallied l.initial.out l.initial.count (all_of (items_of l.names l.item) l.initial.words)

abbrev pub decreases-loop-word : goal.decreases-loop-word
decreases-loop-word l = length l.words
