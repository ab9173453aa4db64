-- The text of a line that a program wrote: its words, of which those that tell bytes may be short.
use Rattle.std.specs.Prelude.{ℕ, if◌then◌else◌, List, [], ◌∷◌, ◌++◌, reverse, codes, Option, Some, None, Result, Ok, Err}
use Rattle.std.specs.List.{find, join_with_byte}
use Rattle.std.specs.Str.{bytes_eq}
use Rattle.hex.specs.Hex.{encode_lower}
use Rattle.snow_text_model.specs.declared.refusal.Reason.{Reason}
use Rattle.snow_text_model.specs.declared.refusal.Reason.TheVariants as reason
use Rattle.snow_text_model.specs.Model.Words.{Word, Halt, ◌>>=◌, parts, at}
use Rattle.snow_text_model.specs.Model.Names.{Names}
use Rattle.snow_text_model.specs.Model.Bytes.{digits_word, part_word, item_word, fixed_text, bytes_text}

-- what a word of a line tells: so many bytes, a block, a node with how often it was drawn, or something else
pub data Kind : Type 0 where
  Fixed : ℕ → Kind
  Block : Kind
  Draw : Kind
  Other : Kind

abbrev pub id : Kind
id = Fixed 32

abbrev pub node : Kind
node = Fixed 20

-- what the words behind the first one tell, by the first; the last kind is that of all further words
abbrev pub line_kinds : List (Word × List Kind)
line_kinds =
    (codes "query", Other ∷ id ∷ Draw ∷ [])
    ∷ (codes "get", Other ∷ node ∷ id ∷ [])
    ∷ (codes "accepted", Other ∷ id ∷ [])
    ∷ (codes "ancestors", Other ∷ node ∷ id ∷ [])
    ∷ (codes "accept", id ∷ [])
    ∷ (codes "reject", id ∷ [])
    ∷ (codes "prefer", id ∷ [])
    ∷ (codes "drop", id ∷ Other ∷ [])
    ∷ (codes "bootstrapped", id ∷ Other ∷ [])
    ∷ (codes "to-chits", node ∷ Other ∷ id ∷ id ∷ [])
    ∷ (codes "to-frontier", node ∷ Other ∷ id ∷ [])
    ∷ (codes "to-accepted", node ∷ Other ∷ id ∷ [])
    ∷ (codes "to-ancestors", node ∷ Other ∷ Block ∷ [])
    ∷ (codes "to-block", node ∷ Other ∷ Block ∷ [])
    ∷ (codes "fork", id ∷ [])
    ∷ (codes "refused", id ∷ [])
    ∷ (codes "conflict", Other ∷ id ∷ [])
    ∷ []

-- what was found, and where nothing was the other
abbrev pub kinds_in : Option (Word × List Kind) → List Kind
kinds_in (Some found) = found.1
kinds_in None = []

-- what the words behind this one tell
unfoldable pub kinds_of : Word → List Kind
kinds_of name = kinds_in (find (λ k. bytes_eq k.0 name) line_kinds)

-- the kind of the next word, and those of the words behind it
abbrev pub next_kind : List Kind → Kind
next_kind [] = Other
next_kind (kind ∷ more) = kind

abbrev pub later_kinds : List Kind → List Kind
later_kinds (kind ∷ next ∷ more) = next ∷ more
later_kinds kinds = kinds

-- bytes as the program writes them
abbrev pub digits : Result (List ℕ) Reason → Result Word Reason
digits bytes = bytes >>= λ b. Ok (encode_lower b)

-- a node, and how often it was drawn behind the last `*`
abbrev pub drawn : (Word → Result Word Reason) → List Word → Result Word Reason
drawn of [] = Err reason.Node
drawn of (times ∷ node) = do
  digits ← of (join_with_byte 42 (reverse node))
  Ok (digits ++ 42 ∷ times)

-- a word as the program writes it
unfoldable pub long_as : Names → Kind → Word → Result Word Reason
long_as names (Fixed size) word = digits (item_word names size word)
long_as names Block word = if bytes_eq word (codes ".") then Ok word else digits (part_word names word)
long_as names Draw word = drawn (λ node. digits (item_word names 20 node)) (reverse (parts 42 word))
long_as names Other word = Ok word

-- words as the program writes them
unfoldable pub long_words : Names → List Kind → List Word → Result (List Word) Halt
long_words names kinds [] = Ok []
long_words names kinds (word ∷ more) = do
  x ← at (word ∷ more) (long_as names (next_kind kinds) word)
  xs ← long_words names (later_kinds kinds) more
  Ok (x ∷ xs)

-- the text of a line with these words
unfoldable pub line_of : Names → List Word → Result (List ℕ) Halt
line_of names [] = Ok []
line_of names (name ∷ more) = do
  others ← long_words names (kinds_of name) more
  Ok (join_with_byte 32 (name ∷ others))

-- ---- the shortest words

-- the shorter word, where there is one
abbrev pub shorter : Word → Result Word Reason → Word
shorter word (Ok short) = short
shorter word (Err e) = word

-- a word as short as it can be
unfoldable pub short_as : Kind → Word → Word
short_as (Fixed size) word = shorter word (digits_word word >>= λ b. Ok (fixed_text b))
short_as Block word = shorter word (digits_word word >>= λ b. Ok (bytes_text b))
short_as Draw word = shorter word (drawn (λ node. digits_word node >>= λ b. Ok (fixed_text b)) (reverse (parts 42 word)))
short_as Other word = word

-- words as short as they can be
unfoldable pub short_words : List Kind → List Word → List Word
short_words kinds [] = []
short_words kinds (word ∷ more) = short_as (next_kind kinds) word ∷ short_words (later_kinds kinds) more

-- words of which those behind the first are as short as they can be
abbrev pub shortened : List Word → List Word
shortened [] = []
shortened (name ∷ more) = name ∷ short_words (kinds_of name) more

-- the words of a line's text
unfoldable pub line_words : List ℕ → List Word
line_words text = shortened (parts 32 text)
