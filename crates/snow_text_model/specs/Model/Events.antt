-- The lines that say a frame: the first word of each, and the fields behind it.
use Rattle.std.specs.Prelude.{ℕ, ◌-◌, Bool, false, nat_lt, if◌then◌else◌, List, [], ◌∷◌, ◌++◌, length, take, drop, replicate, codes, Option, Some, None, Result, Ok, Err}
use Rattle.std.specs.List.{find, join_with_byte}
use Rattle.std.specs.Str.{bytes_eq}
use Rattle.sha2.specs.Sha256.{sha256}
use Rattle.snow_wire.specs.Model.Spelling.{counted, number, sized}
use Rattle.snow_text_model.specs.declared.refusal.Reason.{Reason}
use Rattle.snow_text_model.specs.declared.refusal.Reason.TheVariants as reason
use Rattle.snow_text_model.specs.Model.Words.{Word, Halt, Field, ◌>>=◌, ◌&◌, where_holds, parts, spaced, at, each, all_of, one, all, ended}
use Rattle.snow_text_model.specs.Model.Names.{Names}
use Rattle.snow_text_model.specs.Model.Bytes.{number_below, number_word, bytes_of, item_word}
use Rattle.snow_text_model.specs.Model.Lines.{line_of}

-- ---- fields

abbrev pub number_field : ℕ → Field
number_field size = one (number_word size)

abbrev pub id_field : Names → Field
id_field names = one (item_word names 32)

abbrev pub node_field : Names → Field
node_field names = one (item_word names 20)

-- no field more
abbrev pub none : Field
none words = Ok ([], words)

-- an item of a list
abbrev pub item : Result (List ℕ) Reason → Result (List (List ℕ)) Reason
item read = read >>= λ x. Ok (x ∷ [])

-- the bytes of a list: its count, and its items
unfoldable pub listed : List (List ℕ) → Result (List ℕ) Reason
listed items = where_holds (nat_lt (length items) 65536) (counted (λ x. x) items) reason.Many

-- items that all words say
abbrev pub list_field : (Word → Result (List (List ℕ)) Reason) → Field
list_field of = all (λ words. all_of of words >>= λ items. at [] (listed items))

-- items with commas between them, in a word
abbrev pub list_word : (Word → Result (List (List ℕ)) Reason) → Word → Result (List ℕ) Reason
list_word of word = each of (parts 44 word) >>= listed

-- a number, or one again and again, up to 4,194,304 times
unfoldable pub times_of : List Word → Result (List (List ℕ)) Reason
times_of (n ∷ []) = item (number_word 8 n)
times_of (n ∷ times ∷ []) = do
  bytes ← number_word 8 n
  k ← number_below 4194305 times
  Ok (replicate k bytes)
times_of other = Err reason.Number

abbrev pub times_word : Word → Result (List (List ℕ)) Reason
times_word word = times_of (parts 42 word)

-- two parts, and no more
abbrev pub pair : Reason → List Word → Result (Word × Word) Reason
pair why (a ∷ b ∷ []) = Ok (a, b)
pair why other = Err why

-- a node and its weight
unfoldable pub weighed_word : Names → Word → Result (List (List ℕ)) Reason
weighed_word names word = do
  both ← pair reason.Node (parts 58 word)
  node ← item_word names 20 both.0
  weight ← number_word 8 both.1
  Ok ((node ++ weight) ∷ [])

-- the value of a field with this name
unfoldable pub value_word : Word → (Word → Result (List ℕ) Reason) → Word → Result (List ℕ) Reason
value_word name of word = do
  both ← pair reason.Field (parts 61 word)
  if bytes_eq both.0 name then of both.1 else Err reason.Field

-- a field with a name
abbrev pub named : Word → (Word → Result (List ℕ) Reason) → Field
named name of = one (value_word name of)

-- a word is a field with this name
abbrev pub is_named : Word → List Word → Bool
is_named name (key ∷ value) = bytes_eq key name
is_named name [] = false

-- a list with a name, which stands where it isn't empty
unfoldable pub if_some : Word → (Word → Result (List (List ℕ)) Reason) → Field
if_some name of [] = Ok (number 2 0, [])
if_some name of (word ∷ more) = if is_named name (parts 61 word) then named name (list_word of) (word ∷ more) else Ok (number 2 0, word ∷ more)

-- nodes with commas between them, or none
unfoldable pub nodes_field : Names → Field
nodes_field names [] = Ok (number 2 0, [])
nodes_field names (word ∷ more) = one (list_word (weighed_word names)) (word ∷ more)

-- ---- blocks

-- bytes behind the fields of a block, if there are
abbrev pub behind : Names → List Word → Result (List ℕ) Halt
behind names [] = Ok []
behind names (word ∷ more) = bytes_of names (word ∷ more)

-- a transfer: FROM>TO:AMOUNT@SEQUENCE
unfoldable pub transfer_word : Word → Result (List (List ℕ)) Reason
transfer_word word = do
  from ← pair reason.Transfer (parts 62 word)
  to ← pair reason.Transfer (parts 58 from.1)
  last ← pair reason.Transfer (parts 64 to.1)
  a ← number_word 2 from.0
  b ← number_word 2 to.0
  c ← number_word 8 last.0
  d ← number_word 8 last.1
  Ok ((a ++ b ++ c ++ d) ∷ [])

-- a chain's blocks: the chain's name, the fields of a block, and its identifier
pub record Chain : Type 0 where
  pub name : Word
  pub fields : Field
  pub identifier : List ℕ → List ℕ

abbrev pub plain : Names → Chain
plain names = record {
  name = codes "plain";
  fields = id_field names & id_field names & number_field 8 & number_field 1 & all (behind names);
  identifier = take 32;
}

abbrev pub tally : Names → Chain
tally names = record {
  name = codes "tally";
  fields = id_field names & number_field 8 & number_field 8 & all (behind names);
  identifier = sha256;
}

abbrev pub ledger : Names → Chain
ledger names = record { name = codes "ledger"; fields = id_field names & number_field 8 & list_field transfer_word; identifier = sha256 }

-- the chain with this name
abbrev pub chain_of : Names → Word → Option Chain
chain_of names word = find (λ chain. bytes_eq chain.name word) (plain names ∷ tally names ∷ ledger names ∷ [])

-- the bytes of a block, in the words of a chain that was found or as they are
abbrev pub block_as : Names → Option Chain → List Word → Result (List ℕ) Halt
block_as names (Some chain) words = ended chain.fields (drop 1 words)
block_as names None words = bytes_of names words

-- the first word, and none where there is none
abbrev pub first_word : List Word → Word
first_word [] = []
first_word (word ∷ more) = word

-- the bytes of a block
unfoldable pub block_of : Names → List Word → Result (List ℕ) Halt
block_of names words = block_as names (chain_of names (first_word words)) words

-- the bytes of a block behind their length
abbrev pub sized_block : Names → List Word → Result (List ℕ) Halt
sized_block names words = block_of names words >>= λ bytes. Ok (sized bytes)

-- why something wasn't read, wherever
abbrev pub only_why : {A : Type 0} → Result A Halt → Result A Reason
only_why (Ok x) = Ok x
only_why (Err halt) = Err halt.why

-- the bytes of a block in a list of blocks
abbrev pub listed_block : Names → List ℕ → Result (List (List ℕ)) Reason
listed_block names part = item (only_why (sized_block names (spaced part)))

-- what was read of parts between commas, where a halt counts parts, and is to count words
abbrev pub in_words : {A : Type 0} → List (List ℕ) → Result A Halt → Result A Halt
in_words blocks (Ok x) = Ok x
in_words blocks (Err halt) = Err (record { why = halt.why; left = length (spaced (join_with_byte 44 (drop (length blocks - halt.left) blocks))) })

-- the bytes of a list of blocks
abbrev pub blocks_in : Names → List (List ℕ) → Result (List ℕ) Halt
blocks_in names blocks = in_words blocks (all_of (listed_block names) blocks) >>= λ items. at [] (listed items)

-- blocks with commas between them, or none
unfoldable pub blocks_of : Names → List Word → Result (List ℕ) Halt
blocks_of names [] = Ok (number 2 0)
blocks_of names (word ∷ more) = blocks_in names (parts 44 (join_with_byte 32 (word ∷ more)))

-- ---- lines

-- a tag, and what the fields behind it say
unfoldable pub tagged : ℕ → Field → List Word → Result (List ℕ) Halt
tagged tag field words = do
  bytes ← ended field words
  Ok (tag ∷ bytes)

-- a node and the number of a request, and a field behind them
abbrev pub sent : Names → Field → Field
sent names field = node_field names & number_field 4 & field

-- the fields of a Start
unfoldable pub start_field : Names → Field
start_field names words = (
    named (codes "k") (number_word 4)
    & named (codes "alpha-preference") (number_word 4)
    & named (codes "alpha-confidence") (number_word 4)
    & named (codes "beta") (number_word 4)
    & named (codes "repolls") (number_word 4)
    & named (codes "boot") (number_word 1)
    & named (codes "last") (item_word names 32)
    & named (codes "height") (number_word 8)
    & if_some (codes "state") times_word
    & if_some (codes "nodes") (weighed_word names)
    ) words

-- the text of a line that the program wrote
abbrev pub text_of : Names → List Word → Result (List ℕ) Halt
text_of names words = line_of names words >>= λ text. Ok (17 ∷ sized text)

abbrev pub ids_word : Names → Word → Result (List (List ℕ)) Reason
ids_word names word = item (item_word names 32 word)

-- what the words behind the first one say, by the first
abbrev pub forms : Names → List (Word × (List Word → Result (List ℕ) Halt))
forms names =
    (codes "start", tagged 1 (start_field names))
    ∷ (codes "block", tagged 2 (sent names (all (sized_block names))))
    ∷ (codes "poll", tagged 3 (list_field (ids_word names)))
    ∷ (codes "words", tagged 4 (list_field times_word))
    ∷ (codes "chits", tagged 5 (sent names (id_field names)))
    ∷ (codes "timeout", tagged 6 (sent names none))
    ∷ (codes "frontier", tagged 7 (sent names (id_field names)))
    ∷ (codes "accepted", tagged 8 (sent names (list_field (ids_word names))))
    ∷ (codes "ancestors", tagged 9 (sent names (all (blocks_of names))))
    ∷ (codes "stored", tagged 10 (all (sized_block names)))
    ∷ (codes "validators", tagged 11 (nodes_field names))
    ∷ (codes "ask-query", tagged 12 (sent names none))
    ∷ (codes "ask-frontier", tagged 13 (sent names none))
    ∷ (codes "ask-accepted", tagged 14 (sent names (list_field (ids_word names))))
    ∷ (codes "ask-ancestors", tagged 15 (sent names (id_field names)))
    ∷ (codes "ask-block", tagged 16 (sent names (id_field names)))
    ∷ (codes ">", text_of names)
    ∷ (codes "frame", bytes_of names)
    ∷ []

-- what a form that was found says of the words behind the first
abbrev pub say : Option (Word × (List Word → Result (List ℕ) Halt)) → List Word → Result (List ℕ) Halt
say (Some form) words = form.1 (drop 1 words)
say None words = at words (Err reason.Name)

-- the payload that the words of a line say
unfoldable pub payload_of : Names → List Word → Result (List ℕ) Halt
payload_of names words = say (find (λ form. bytes_eq form.0 (first_word words)) (forms names)) words
