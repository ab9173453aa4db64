-- The text of a stream: a line for each frame, and one for what stands behind the last.
use Rattle.std.specs.Prelude.{ℕ, Bool, false, true, not, ◌&&◌, ◌==◌, if◌then◌else◌, List, [], ◌∷◌, ◌++◌, codes, decimal, map, Result, Ok, Err}
use Rattle.std.specs.List.{flat_map, list_all, join_with_byte}
use Rattle.std.specs.Str.{bytes_eq}
use Rattle.snow_wire.specs.declared.event.Event.{Event}
use Rattle.snow_wire.specs.declared.event.Event.TheVariants as event
use Rattle.snow_wire.specs.declared.event.Start.{Start}
use Rattle.snow_wire.specs.Model.Frame.{frames_of}
use Rattle.snow_wire.specs.Model.Reading.{event_of}
use Rattle.snow_wire.specs.Model.Spelling.{flag}
use Rattle.snow_text_model.specs.Model.Words.{Word, Halt, parts, words_of}
use Rattle.snow_text_model.specs.Model.Names.{Names}
use Rattle.snow_text_model.specs.Model.Bytes.{runs_of, bytes_text, fixed_text}
use Rattle.snow_text_model.specs.declared.block_form.BlockForm.{BlockForm}
use Rattle.snow_text_model.specs.Model.Blocks.{block_line, block_words}
use Rattle.snow_text_model.specs.Model.Lines.{line_words}
use Rattle.snow_text_model.specs.Model.Made.{Said, Frame, Name, Nothing, Rest, names_behind, say_words}

-- ---- the words of an event

-- NAME=VALUE
abbrev pub field : Word → Word → Word
field name value = name ++ 61 ∷ value

-- a number that stands once, or again and again
abbrev pub times_text : ℕ × ℕ → Word
times_text run = if run.1 == 1 then decimal run.0 else decimal run.0 ++ 42 ∷ decimal run.1

-- numbers in a row
abbrev pub times_texts : List ℕ → List Word
times_texts numbers = map times_text (runs_of numbers)

-- a node and its weight
abbrev pub weighed_text : List ℕ × ℕ → Word
weighed_text n = fixed_text n.0 ++ 58 ∷ decimal n.1

-- words with commas between them
abbrev pub listed_text : List Word → Word
listed_text words = join_with_byte 44 words

-- a field of a list, where it isn't empty
abbrev pub some_field : Word → List Word → List Word
some_field name [] = []
some_field name (word ∷ more) = field name (listed_text (word ∷ more)) ∷ []

-- one word of a list, where it isn't empty
abbrev pub some_word : List Word → List Word
some_word [] = []
some_word (word ∷ more) = listed_text (word ∷ more) ∷ []

abbrev pub start_words : Start → List Word
start_words s =
    codes "start"
    ∷ field (codes "k") (decimal s.k)
    ∷ field (codes "alpha-preference") (decimal s.alpha_preference)
    ∷ field (codes "alpha-confidence") (decimal s.alpha_confidence)
    ∷ field (codes "beta") (decimal s.beta)
    ∷ field (codes "repolls") (decimal s.repolls)
    ∷ field (codes "boot") (decimal (flag s.boot))
    ∷ field (codes "last") (fixed_text s.last)
    ∷ field (codes "height") (decimal s.height)
    ∷ (some_field (codes "state") (times_texts s.state) ++ some_field (codes "nodes") (map weighed_text s.nodes))

-- the words of a message, and others behind
abbrev pub sent_words : Word → List ℕ → ℕ → List Word → List Word
sent_words name node request more = name ∷ fixed_text node ∷ decimal request ∷ more

-- the words of an event
unfoldable pub event_words : BlockForm → Event → List Word
event_words form (event.Start s) = start_words s
event_words form (event.Block node request bytes) = sent_words (codes "block") node request (block_words form bytes)
event_words form (event.Poll ids) = codes "poll" ∷ map fixed_text ids
event_words form (event.Words words) = codes "words" ∷ times_texts words
event_words form (event.Chits node request id) = sent_words (codes "chits") node request (fixed_text id ∷ [])
event_words form (event.Timeout node request) = sent_words (codes "timeout") node request []
event_words form (event.Frontier node request id) = sent_words (codes "frontier") node request (fixed_text id ∷ [])
event_words form (event.Accepted node request ids) = sent_words (codes "accepted") node request (map fixed_text ids)
event_words form (event.Ancestors node request blocks) = sent_words (codes "ancestors") node request (some_word (map (block_line form) blocks))
event_words form (event.Stored bytes) = codes "stored" ∷ block_words form bytes
event_words form (event.Validators nodes) = codes "validators" ∷ some_word (map weighed_text nodes)
event_words form (event.AskQuery node request) = sent_words (codes "ask-query") node request []
event_words form (event.AskFrontier node request) = sent_words (codes "ask-frontier") node request []
event_words form (event.AskAccepted node request ids) = sent_words (codes "ask-accepted") node request (map fixed_text ids)
event_words form (event.AskAncestors node request id) = sent_words (codes "ask-ancestors") node request (fixed_text id ∷ [])
event_words form (event.AskBlock node request id) = sent_words (codes "ask-block") node request (fixed_text id ∷ [])
event_words form (event.Line text) = codes ">" ∷ line_words text

-- a line that a program wrote
abbrev pub is_line : Event → Bool
is_line (event.Line text) = true
is_line other = false

-- ---- the line of a frame

-- words with a space between two of them
abbrev pub line : List Word → List ℕ
line words = join_with_byte 32 words

-- a frame with this payload was said
abbrev pub is_frame : List ℕ → Result Said Halt → Bool
is_frame payload (Ok (Frame found)) = bytes_eq found payload
is_frame payload other = false

-- the line of these words is one line, and says the very payload
unfoldable pub say : List Word → List ℕ → Bool
say words payload = list_all (λ c. not (c == 10)) (line words) && is_frame payload (say_words [] (words_of (line words)))

-- a payload as it is
abbrev pub frame_words : List ℕ → List Word
frame_words payload = codes "frame" ∷ bytes_text payload ∷ []

-- the words of an event that was found, if these say the very payload
abbrev pub words_as : {E : Type 0} → BlockForm → List ℕ → Result Event E → List Word
words_as form payload (Ok e) = if say (event_words form e) payload then event_words form e else frame_words payload
words_as form payload (Err fault) = frame_words payload

-- the line of a frame with this payload
unfoldable pub shown_frame : BlockForm → List ℕ → List ℕ
shown_frame form payload = line (words_as form payload (event_of payload)) ++ 10 ∷ []

-- the line of what stands behind the last frame
unfoldable pub shown_rest : List ℕ → List ℕ
shown_rest [] = []
shown_rest (byte ∷ bytes) = line (codes "rest" ∷ bytes_text (byte ∷ bytes) ∷ []) ++ 10 ∷ []

-- the text of a stream
unfoldable pub shown : BlockForm → List ℕ → List ℕ
shown form bytes = flat_map (shown_frame form) (frames_of bytes).0 ++ shown_rest (frames_of bytes).1

-- ---- a text in its short form

-- the short form of what a line says
abbrev pub short_of : BlockForm → Result Said Halt → List ℕ
short_of form (Ok Nothing) = []
short_of form (Ok (Name block)) = []
short_of form (Ok (Frame payload)) = shown_frame form payload
short_of form (Ok (Rest bytes)) = shown form bytes
short_of form (Err halt) = []

-- the names behind what a line says
abbrev pub names_after : Result Said Halt → Names → Names
names_after (Ok said) names = names_behind said names
names_after (Err halt) names = names

-- each line in its short form, where these names were given; those that say no bytes are left out
unfoldable pub short_lines : BlockForm → Names → List (List ℕ) → List ℕ
short_lines form names [] = []
short_lines form names (text ∷ more) =
    let said = say_words names (words_of text) in
    short_of form said ++ short_lines form (names_after said names) more

-- a text in its short form
unfoldable pub tidied : BlockForm → List ℕ → List ℕ
tidied form text = short_lines form [] (parts 10 text)
