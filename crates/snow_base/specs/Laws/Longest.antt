-- How many bytes the longest event and the longest line of each kind have.
use Rattle.std.specs.Prelude.{ℕ, ◌+◌, ◌*◌, List, [], ◌∷◌}
use Rattle.snow_base.specs.declared.limits.TheConstants.{BLOCK_BYTES, LINE_BYTES, MOST_VOTES, MOST_LISTED, MOST_K, ANSWER_BLOCKS, ANSWER_BYTES}

-- the tag, the node and the request number of an event about a request
abbrev pub of_request : ℕ
of_request = 1 + 20 + 4

-- a Start: its tag, its parameters, the last accepted block, and two lists
abbrev pub start_event : ℕ
start_event = 1 + (5 * 4 + 1) + (32 + 8) + (2 + 8 * MOST_LISTED) + (2 + 28 * MOST_LISTED)

-- a Block, which is longer than Stored
abbrev pub block_event : ℕ
block_event = of_request + 4 + BLOCK_BYTES

-- a Poll
abbrev pub poll_event : ℕ
poll_event = 1 + 2 + 32 * MOST_VOTES

-- Words
abbrev pub words_event : ℕ
words_event = 1 + 2 + 8 * MOST_LISTED

-- an event with one identifier, as Chits
abbrev pub name_event : ℕ
name_event = of_request + 32

-- an event with a list of identifiers, as Accepted
abbrev pub names_event : ℕ
names_event = of_request + 2 + 32 * MOST_LISTED

-- Ancestors, as a node that follows these limits answers
abbrev pub answer_event : ℕ
answer_event = of_request + 2 + 4 * ANSWER_BLOCKS + ANSWER_BYTES

-- Validators
abbrev pub validators_event : ℕ
validators_event = 1 + 2 + 28 * MOST_LISTED

-- a Line
abbrev pub line_event : ℕ
line_event = 1 + 4 + LINE_BYTES

-- the longest event of each kind
abbrev pub events : List ℕ
events =
    start_event ∷ block_event ∷ poll_event ∷ words_event ∷ name_event ∷ names_event ∷ answer_event ∷ validators_event ∷ line_event ∷ []

-- a space with the decimal digits of a number of 32 bits behind it
abbrev pub number_word : ℕ
number_word = 1 + 10

-- a space with the digits of a node behind it
abbrev pub node_word : ℕ
node_word = 1 + 40

-- a space with the digits of an identifier behind it
abbrev pub id_word : ℕ
id_word = 1 + 64

-- query, with each of its nodes and how often it was drawn
abbrev pub query_line : ℕ
query_line = 5 + number_word + id_word + MOST_K * (node_word + number_word)

-- accepted, with an identifier of each node
abbrev pub accepted_line : ℕ
accepted_line = 8 + number_word + MOST_LISTED * id_word

-- to-accepted, with each identifier that was asked about
abbrev pub to_accepted_line : ℕ
to_accepted_line = 11 + node_word + number_word + MOST_LISTED * id_word

-- to-ancestors, which is longer than to-block
abbrev pub to_ancestors_line : ℕ
to_ancestors_line = 12 + node_word + number_word + ANSWER_BLOCKS + 2 * ANSWER_BYTES

-- the longest line of each kind that has a list or a block, without its newline
abbrev pub lines : List ℕ
lines = query_line ∷ accepted_line ∷ to_accepted_line ∷ to_ancestors_line ∷ []
