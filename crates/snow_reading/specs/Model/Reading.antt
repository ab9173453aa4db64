-- Lines read from their bytes.
use Rattle.std.specs.Prelude.{◌≡◌, ℕ, ◌+◌, ◌-◌, ◌*◌, ◌^◌, ◌<◌, nat_lt, nat_le, if◌then◌else◌, ◌==◌, ◌&&◌, List, [], ◌∷◌, length, take, drop, codes, decimal, Option, Some, None, is_none, Result, Ok, Err}
use Rattle.std.specs.List.{slice_split}
use Rattle.std.specs.Str.{bytes_eq}
use Rattle.hex.specs.Hex.{encode_lower, decode_of, decode_sized}
use Rattle.hex.specs.declared.error.FromHexError.{FromHexError}
use Rattle.snow_lines.specs.declared.kind.Kind.{Kind}
use Rattle.snow_lines.specs.declared.kind.Kind.TheVariants as kind
use Rattle.snow_lines.specs.declared.line.Line.{Line}
use Rattle.snow_lines.specs.declared.line.Line.TheVariants as line
use Rattle.snow_reading.specs.Model.Names.{kind_of, line_kind_of, query_of, restart_of, why_of}
use Rattle.snow_lines.specs.Model.Text.{Draw, draw_word}

-- goes on with what was read
infixl 10 ◌>>=◌
abbrev pub ◌>>=◌ : {A B : Type 0} → Option A → (A → Option B) → Option B
(Some x) >>= f = f x
None >>= f = None

-- the number that digits write behind those of n
abbrev pub value_after : ℕ → List ℕ → ℕ
value_after n [] = n
value_after n (c ∷ cs) = value_after (n * 10 + (c - 48)) cs

-- n, where it is below the limit and the word is its text
abbrev pub if_written : ℕ → List ℕ → ℕ → Option ℕ
if_written limit word n = if nat_lt n limit && bytes_eq (decimal n) word then Some n else None

-- the number below the limit whose text is the word
unfoldable pub number_of : ℕ → List ℕ → Option ℕ
number_of limit word = if_written limit word (value_after 0 word)

-- the bytes, where the word is their digits
abbrev pub if_digits : List ℕ → Result (List ℕ) FromHexError → Option (List ℕ)
if_digits word (Ok bytes) = if bytes_eq (encode_lower bytes) word then Some bytes else None
if_digits word (Err e) = None

-- so many bytes whose digits are the word
unfoldable pub bytes_of : ℕ → List ℕ → Option (List ℕ)
bytes_of n word = if_digits word (decode_sized word n)

-- the block whose word it is
unfoldable pub block_of : List ℕ → Option (List ℕ)
block_of word =
    if length word == 0 then None
    else if bytes_eq word (codes ".") then Some []
    else if_digits word (decode_of word)

-- the draw, where the word is its
abbrev pub if_draw : List ℕ → Draw → Option Draw
if_draw word draw = if nat_le 1 draw.count && bytes_eq (draw_word draw) word then Some draw else None

-- the draw whose word it is
unfoldable pub draw_of : List ℕ → Option Draw
draw_of word =
    if nat_lt (length word) 41 then None
    else do
      node ← bytes_of 20 (take 40 word)
      count ← number_of (2 ^ 32) (drop 41 word)
      if_draw word (record { node = node; count = count })

-- ---- words

-- the first word
abbrev pub first : List (List ℕ) → Option (List ℕ)
first [] = None
first (word ∷ more) = Some word

-- what the first word stands for, and the words behind it
unfoldable pub field : {A : Type 0} → (List ℕ → Option A) → List (List ℕ) → Option (A × List (List ℕ))
field of words = do
  word ← first words
  x ← of word
  Some (x, drop 1 words)

-- what all words stand for
unfoldable pub items : {A : Type 0} → (List ℕ → Option A) → List (List ℕ) → Option (List A)
items of [] = Some []
items of (word ∷ more) = do
  x ← of word
  xs ← items of more
  Some (x ∷ xs)

-- a list that isn't empty
abbrev pub if_some : {A : Type 0} → List A → Option (List A)
if_some xs = if length xs == 0 then None else Some xs

-- what was read, where no word is left
abbrev pub ended : {A : Type 0} → A × List (List ℕ) → Option A
ended read = if is_none (first read.1) then Some read.0 else None

-- what a function answered and left is what reading gives
abbrev pub Reads : {A : Type 0} → Option A → List (List ℕ) → Option (A × List (List ℕ)) → Type 0
Reads (Some x) rest read = read ≡ Some (x, rest)
Reads None rest read = read ≡ None

-- the words of bytes
abbrev pub split : List ℕ → List (List ℕ)
split bytes = slice_split (λ b. b == 32) bytes

-- the first word ends at this place, or is all bytes
abbrev pub IsCut : List ℕ → Option ℕ → Type 0
IsCut bytes None = split bytes ≡ bytes ∷ []
IsCut bytes (Some at) = (at < length bytes) × (split bytes ≡ take at bytes ∷ split (drop (at + 1) bytes))

-- ---- fields

-- a number of 32 bits
abbrev pub number_at : List (List ℕ) → Option (ℕ × List (List ℕ))
number_at = field (number_of (2 ^ 32))

-- a number of 64 bits
abbrev pub long_at : List (List ℕ) → Option (ℕ × List (List ℕ))
long_at = field (number_of (2 ^ 64))

-- an identifier
abbrev pub id_at : List (List ℕ) → Option (List ℕ × List (List ℕ))
id_at = field (bytes_of 32)

-- a node
abbrev pub node_at : List (List ℕ) → Option (List ℕ × List (List ℕ))
node_at = field (bytes_of 20)

-- a number, a node and an identifier
unfoldable pub asked_at : (ℕ → List ℕ → List ℕ → Line) → List (List ℕ) → Option (Line × List (List ℕ))
asked_at made words = do
  number ← number_at words
  node ← node_at number.1
  id ← id_at node.1
  Some (made number.0 node.0 id.0, id.1)

-- a line of one field
unfoldable pub only_at : {A : Type 0} → (List ℕ → Option A) → (A → Line) → List (List ℕ) → Option (Line × List (List ℕ))
only_at of made words = do
  only ← field of words
  Some (made only.0, only.1)

-- a line of two fields
unfoldable pub both_at : {A B : Type 0} → (List ℕ → Option A) → (List ℕ → Option B) → (A → B → Line) → List (List ℕ) → Option (Line × List (List ℕ))
both_at of also made words = do
  one ← field of words
  other ← field also one.1
  Some (made one.0 other.0, other.1)

-- a node and a number
unfoldable pub told_at : List (List ℕ) → Option ((List ℕ × ℕ) × List (List ℕ))
told_at words = do
  node ← node_at words
  number ← number_at node.1
  Some ((node.0, number.0), number.1)

-- two identifiers behind a node and a number
unfoldable pub chits_at : List (List ℕ) → Option (Line × List (List ℕ))
chits_at words = do
  told ← told_at words
  preference ← id_at told.1
  last ← id_at preference.1
  Some (line.ToChits told.0.0 told.0.1 preference.0 last.0, last.1)

-- an identifier behind a node and a number
unfoldable pub frontier_at : List (List ℕ) → Option (Line × List (List ℕ))
frontier_at words = do
  told ← told_at words
  id ← id_at told.1
  Some (line.ToFrontier told.0.0 told.0.1 id.0, id.1)

-- a line without a list
unfoldable pub plain_at : Kind → List (List ℕ) → Option (Line × List (List ℕ))
plain_at kind.Get words = asked_at line.Get words
plain_at kind.Frontier words = only_at (number_of (2 ^ 32)) line.Frontier words
plain_at kind.Ancestors words = asked_at line.Ancestors words
plain_at kind.Accept words = only_at (bytes_of 32) line.Accept words
plain_at kind.Reject words = only_at (bytes_of 32) line.Reject words
plain_at kind.Prefer words = only_at (bytes_of 32) line.Prefer words
plain_at kind.Drop words = both_at (bytes_of 32) why_of line.Drop words
plain_at kind.DropQuery words = only_at query_of line.DropQuery words
plain_at kind.Skip words = both_at (number_of (2 ^ 64)) kind_of line.Skip words
plain_at kind.Restart words = only_at restart_of line.Restart words
plain_at kind.Bootstrapped words = both_at (bytes_of 32) (number_of (2 ^ 64)) line.Bootstrapped words
plain_at kind.ToChits words = chits_at words
plain_at kind.ToFrontier words = frontier_at words
plain_at other words = None

-- a line without a list, and nothing behind it
unfoldable pub whole_at : Kind → List (List ℕ) → Option Line
whole_at kind words = do
  line ← plain_at kind words
  ended line

-- a query
unfoldable pub asks : List (List ℕ) → Option Line
asks words = do
  number ← number_at words
  id ← id_at number.1
  draws ← items draw_of id.1
  some ← if_some draws
  Some (line.Query number.0 id.0 some)

-- a question which of these are accepted
unfoldable pub asks_accepted : List (List ℕ) → Option Line
asks_accepted words = do
  number ← number_at words
  ids ← items (bytes_of 32) number.1
  some ← if_some ids
  Some (line.Accepted number.0 some)

-- an answer which are accepted
unfoldable pub tells_accepted : List (List ℕ) → Option Line
tells_accepted words = do
  told ← told_at words
  ids ← items (bytes_of 32) told.1
  Some (line.ToAccepted told.0.0 told.0.1 ids)

-- an answer of blocks
unfoldable pub tells_ancestors : List (List ℕ) → Option Line
tells_ancestors words = do
  told ← told_at words
  blocks ← items block_of told.1
  some ← if_some blocks
  Some (line.ToAncestors told.0.0 told.0.1 some)

-- an answer of a block
unfoldable pub tells_block : List (List ℕ) → Option Line
tells_block words = do
  told ← told_at words
  block ← field block_of told.1
  ended (line.ToBlock told.0.0 told.0.1 block.0, block.1)

-- the line of this kind with these words behind its first
unfoldable pub fields_of : Kind → List (List ℕ) → Option Line
fields_of kind.Query words = asks words
fields_of kind.Accepted words = asks_accepted words
fields_of kind.ToAccepted words = tells_accepted words
fields_of kind.ToAncestors words = tells_ancestors words
fields_of kind.ToBlock words = tells_block words
fields_of other words = whole_at other words

-- the line with these words
unfoldable pub words_of : List (List ℕ) → Option Line
words_of words = do
  name ← first words
  kind ← line_kind_of name
  fields_of kind (drop 1 words)

-- the bytes before the newline at the end
unfoldable pub before_newline : List ℕ → Option (List ℕ)
before_newline bytes =
    if bytes_eq (drop (length bytes - 1) bytes) (10 ∷ [])
    then Some (take (length bytes - 1) bytes)
    else None

-- the line whose text the bytes are
unfoldable pub line_of : List ℕ → Option Line
line_of bytes = do
  front ← before_newline bytes
  words_of (split front)
