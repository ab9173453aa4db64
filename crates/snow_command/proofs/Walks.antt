-- Words, split one item after another.
use Rattle.std.proofs.Common.{◌≡◌, ℕ, List, [], ◌∷◌, drop, Some, refl}
use Rattle.snow_command.specs.Model.Words.{first_items, form_of, items}
use Rattle.snow_command.specs.Kept.Request.{Request, with_items}

-- the items of a first word and of those behind it
pub items_first : (word : List ℕ) (words : List (List ℕ))
    → items (word ∷ words) ≡ first_items (form_of word) word words (items words) (items (drop 1 words))
unfolding items
items_first word [] = refl
items_first word (next ∷ words) = refl

-- no word is left
pub all_came : (r : Request) (words : List (List ℕ)) → words ≡ [] → with_items r (items words) ≡ Some r
unfolding items with_items
all_came r words none = rw none refl
