-- The text of a line that a program wrote.
use Rattle.std.specs.Prelude.{◌≡◌, ℕ, ◌+◌, ◌<◌, ◌==◌, ◌&&◌, if◌then◌else◌, Bool, not, List, [], ◌∷◌, ◌++◌, length, take, drop, map, reverse, codes, Option, Some, None, Result, Ok, Err}
use Rattle.std.specs.List.{list_all}
use Rattle.snow_text_model.specs.declared.refusal.Reason.{Reason}
use Rattle.snow_say.specs.declared.kind.Kind.{Kind as WordKind}
use Rattle.snow_say.specs.declared.kind.Kind.TheVariants as kind
use Rattle.snow_text_model.specs.Model.Words.{Word, Halt, ◌>>=◌, parts, words_of}
use Rattle.snow_wire.specs.Model.Spelling.{sized}
use Rattle.snow_text_model.specs.Model.Names.{Names}
use Rattle.snow_text_model.specs.Model.Bytes.{digits_word, fixed_text}
use Rattle.snow_text_model.specs.Model.Lines.{Kind, Fixed, Block, Draw, Other, id, line_of, line_words, node, shorter}
use Rattle.snow_text_model.specs.Model.Made.{say_words}
use Rattle.snow_text_model.specs.Model.Shown.{frame_words, is_frame, say}
use Rattle.snow_say.specs.Clauses.Payload.{trailed}

-- a kind of the model
abbrev pub kind_in : WordKind → Kind
kind_in kind.Id = Fixed 32
kind_in kind.Node = Fixed 20
kind_in kind.Block = Block
kind_in kind.Draw = Draw
kind_in kind.Other = Other

-- words that were told, each behind a space, behind bytes
abbrev pub trailing : {E : Type 0} → List ℕ → Result (List Word) E → Result (List ℕ) E
trailing front (Ok words) = Ok (front ++ trailed words)
trailing front (Err e) = Err e

-- digits that were told, and how often a node was drawn
unfoldable pub drawn_as : Result Word Reason → Word → Result Word Reason
drawn_as told times = told >>= (λ digits. Ok (digits ++ 42 ∷ times))

-- the last part begins behind this place, or is all of the text
abbrev pub IsLastCut : ℕ → List ℕ → Option ℕ → Type 0
IsLastCut mark text None = reverse (parts mark text) ≡ text ∷ []
IsLastCut mark text (Some at) = (at < length text) × (reverse (parts mark text) ≡ drop (at + 1) text ∷ reverse (parts mark (take at text)))

abbrev pub Entry : Type 0
Entry = Word × List Kind

-- the kinds of a form that was found, or else
abbrev pub kinds_or : Option (List WordKind) → List Kind → List Kind
kinds_or (Some kinds) other = map kind_in kinds
kinds_or None other = other

-- the kinds of the words of lines, in three parts
abbrev pub asking_kinds : List Entry → List Entry
asking_kinds more =
    (codes "query", Other ∷ id ∷ Draw ∷ [])
    ∷ (codes "get", Other ∷ node ∷ id ∷ [])
    ∷ (codes "accepted", Other ∷ id ∷ [])
    ∷ (codes "ancestors", Other ∷ node ∷ id ∷ [])
    ∷ more

abbrev pub telling_kinds : List Entry → List Entry
telling_kinds more =
    (codes "accept", id ∷ [])
    ∷ (codes "reject", id ∷ [])
    ∷ (codes "prefer", id ∷ [])
    ∷ (codes "drop", id ∷ Other ∷ [])
    ∷ (codes "bootstrapped", id ∷ Other ∷ [])
    ∷ more

abbrev pub answering_kinds : List Entry → List Entry
answering_kinds more =
    (codes "to-chits", node ∷ Other ∷ id ∷ id ∷ [])
    ∷ (codes "to-frontier", node ∷ Other ∷ id ∷ [])
    ∷ (codes "to-accepted", node ∷ Other ∷ id ∷ [])
    ∷ (codes "to-ancestors", node ∷ Other ∷ Block ∷ [])
    ∷ (codes "to-block", node ∷ Other ∷ Block ∷ [])
    ∷ (codes "fork", id ∷ [])
    ∷ (codes "refused", id ∷ [])
    ∷ (codes "conflict", Other ∷ id ∷ [])
    ∷ more

-- the text of a line behind its length
abbrev pub sized_line : Names → List Word → Result (List ℕ) Halt
sized_line names words = line_of names words >>= (λ text. Ok (sized text))

-- ---- shown

-- the text of the bytes that digits tell, or else the word
abbrev pub shorter_by : (List ℕ → Word) → Word → Word → Word
shorter_by text word digits = shorter word (digits_word digits >>= (λ bytes. Ok (text bytes)))

-- the short form of a node, and how often it was drawn
abbrev pub drawn_text : Word → List ℕ → Word
drawn_text times node = fixed_text node ++ 42 ∷ times

-- a text is one line, and says just this payload
abbrev pub tells : List ℕ → List ℕ → Bool
tells text payload = list_all (λ c. not (c == 10)) text && is_frame payload (say_words [] (words_of text))

-- the words of a payload that holds this line
abbrev pub written_words : List ℕ → List ℕ → List Word
written_words text payload = if say (codes ">" ∷ line_words text) payload then codes ">" ∷ line_words text else frame_words payload
