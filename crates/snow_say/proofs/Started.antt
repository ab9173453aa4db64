-- The fields of a Start.
use Rattle.std.proofs.Common.{◌≡◌, ℕ, true, false, List, [], ◌∷◌, Some, None, Result, Ok, Err, refl, ap}
use Rattle.std.specs.Str.{bytes_eq}
use Rattle.snow_text_model.specs.declared.refusal.Reason.{Reason}
use Rattle.snow_text_model.specs.declared.refusal.Reason.TheVariants as reason
use Rattle.snow_words.specs.declared.items.Item.{Item}
use Rattle.snow_text_model.specs.Model.Words.{Word, one, parts}
use Rattle.snow_text_model.specs.Model.Names.{Names}
use Rattle.snow_text_model.specs.Model.Events.{if_some, is_named, pair, value_word}
use Rattle.snow_words.specs.Clauses.Cutting.{first}
use Rattle.snow_words.specs.Clauses.Listing.{items_of, list_of}
use Rattle.snow_say.proofs.Sized.{no_count}

-- ---- names and values

pub named_one : (name word : List ℕ) → parts 61 word ≡ word ∷ [] → is_named name (parts 61 word) ≡ bytes_eq word name
named_one name word h = rw h refl

pub named_more : (name word front : List ℕ) (more : List Word) → parts 61 word ≡ front ∷ more → is_named name (parts 61 word) ≡ bytes_eq front name
named_more name word front more h = rw h refl

pub value_none : (name word : List ℕ) (of : Word → Result (List ℕ) Reason) → pair reason.Field (parts 61 word) ≡ Err reason.Field → value_word name of word ≡ Err reason.Field
unfolding value_word
value_none name word of h = rw h refl

pub value_found : (name word key value : List ℕ) (of : Word → Result (List ℕ) Reason) → pair reason.Field (parts 61 word) ≡ Ok (key, value) → bytes_eq key name ≡ true → value_word name of word ≡ of value
unfolding value_word
value_found name word key value of h e = rw (h, e) refl

pub value_other : (name word key value : List ℕ) (of : Word → Result (List ℕ) Reason) → pair reason.Field (parts 61 word) ≡ Ok (key, value) → bytes_eq key name ≡ false → value_word name of word ≡ Err reason.Field
unfolding value_word
value_other name word key value of h e = rw (h, e) refl

-- what a field with a name wants
pub ruleset valuing = (value_none, value_found, value_other)

-- ---- lists with a name

pub if_none : (name : List ℕ) (of : Word → Result (List (List ℕ)) Reason) (ws : List Word) → None ≡ first ws → if_some name of ws ≡ Ok (0 ∷ 0 ∷ [], ws)
unfolding if_some
if_none name of [] f = ap (λ l. Ok (l, [])) no_count
if_none name of (w ∷ ws) f = cc f

pub if_other : (name : List ℕ) (of : Word → Result (List (List ℕ)) Reason) (ws : List Word) (word : Word) → Some word ≡ first ws → is_named name (parts 61 word) ≡ false → if_some name of ws ≡ Ok (0 ∷ 0 ∷ [], ws)
unfolding if_some
if_other name of [] word f h = cc f
if_other name of (w ∷ ws) word f h = let same : w ≡ word = cc in rw (same, h) (ap (λ l. Ok (l, word ∷ ws)) no_count)

pub if_named : (name : List ℕ) (names : Names) (item : Item) (ws : List Word) (word : Word) → Some word ≡ first ws → is_named name (parts 61 word) ≡ true
    → if_some name (items_of names item) ws ≡ one (value_word name (list_of names item)) ws
unfolding if_some
if_named name names item [] word f h = cc f
if_named name names item (w ∷ ws) word f h = let same : w ≡ word = cc in rw (same, h) refl

-- what a list with a name wants
pub ruleset listing = (if_none, if_other, if_named)
