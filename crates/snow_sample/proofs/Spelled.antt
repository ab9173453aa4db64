-- Words that bytes spell.
use Rattle.std.proofs.Common.{◌≡◌, ℕ, List, length}
use Rattle.std.proofs.lemmas.List.{length-map}
use Rattle.byteorder.specs.Endian.{big_number}
use Rattle.snow_sample.specs.Model.Words.{spelled}

-- there are as many
pub as_many : (words : List (List ℕ)) → length (spelled words) ≡ length words
as_many words = length-map words (big_number 8)
