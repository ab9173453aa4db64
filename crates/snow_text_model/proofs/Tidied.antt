-- The text of a stream that a text means is that text, line by line in its short form.
use Rattle.std.proofs.Common.{All, not, is_some, drop, Option, Some, None, nat_le, ◌≡◌, ℕ, ◌+◌, ◌==◌, nat_le, if◌then◌else◌, Bool, true, false, List, [], ◌∷◌, ◌++◌, length, codes, Result, Ok, Err, refl, sym, ap, ◌∙◌, append_assoc, append-nil, subst, arith}
use Rattle.std.specs.List.{find, flat_map}
use Rattle.std.specs.Str.{bytes_eq}
use Rattle.std.proofs.lemmas.Bool.{leb-true, eqb-true}
use Rattle.snow_wire.specs.Model.Frame.{IsPayload, first_of, frame, frames_in, frames_of}
use Rattle.snow_wire.specs.Model.Reading.{IsBytes}
use Rattle.snow_wire.proofs.Streams.{frame_first, frames_end, frames_front}
use Rattle.snow_text_model.specs.declared.block_form.BlockForm.{BlockForm}
use Rattle.snow_text_model.specs.declared.refusal.Reason.TheVariants as reason
use Rattle.snow_text_model.specs.declared.refusal.Refusal.{Refusal}
use Rattle.snow_text_model.specs.Model.Words.{Word, Halt, ◌>>=◌, at, ended, parts, words_of}
use Rattle.snow_text_model.specs.Model.Bytes.{bytes_of}
use Rattle.snow_text_model.specs.Model.Names.{Named, Names, is_name}
use Rattle.snow_text_model.specs.Model.Events.{Chain, chain_of, first_word, payload_of}
use Rattle.snow_text_model.specs.Model.Made.{Said, Nothing, Name, Frame, Rest, framed, in_line, joined, made, made_from, named_as, names_behind, naming, none_say, refusal, say_words}
use Rattle.snow_text_model.specs.Model.Shown.{names_after, short_lines, short_of, shown, shown_frame, shown_rest, tidied}
use Rattle.snow_text_model.proofs.Marks.{parts_more}
use Rattle.snow_text_model.proofs.Framed.{made_again}

-- ---- what went on

-- what was read before an answer
pub record Went {A B E : Type 0} (r : Result A E) (f : A → B) (y : B) : Type 0 where
  pub value : A
  pub read : r ≡ Ok value
  pub gives : f value ≡ y

went_on : {A B E : Type 0} (r : Result A E) (f : A → B) (y : B) → (r >>= λ x. Ok (f x)) ≡ Ok y → Went r f y
went_on (Ok x) f y h = record { value = x; read = refl; gives = cc h }
went_on (Err e) f y h = absurd cc

-- ---- payloads

framed_small : (t : Bool) (words : List Word) (payload found : List ℕ) → (t ≡ true → IsPayload payload)
    → (if t then Ok (Frame payload) else at {A = Said} words (Err reason.Long)) ≡ Ok (Frame found) → IsPayload found
framed_small true words payload found h e = let same : payload ≡ found = cc e in subst IsPayload same (h refl)
framed_small false words payload found h e = absurd cc

say_small : (words : List Word) (r : Result (List ℕ) Halt) (found : List ℕ) → (r >>= framed words) ≡ Ok (Frame found) → IsPayload found
say_small words (Ok payload) found e = framed_small (nat_le (length payload) 2097152) words payload found (leb-true (length payload) 2097152) e
say_small words (Err halt) found e = absurd cc

no_frame : (r : Result (List ℕ) Halt) (found : List ℕ) → (r >>= λ bytes. Ok (Rest bytes)) ≡ Ok (Frame found) → IsPayload found
no_frame (Ok bytes) found e = absurd cc
no_frame (Err halt) found e = absurd cc

named_none : (r : Result (List ℕ) Halt) (block : List ℕ → Named) (found : List ℕ) → (r >>= λ bytes. Ok (Name (block bytes))) ≡ Ok (Frame found) → IsPayload found
named_none (Ok bytes) block found e = absurd cc
named_none (Err halt) block found e = absurd cc

chain_none : (name : Word) (chain : Option Chain) (words : List Word) (found : List ℕ) → named_as name chain words ≡ Ok (Frame found) → IsPayload found
chain_none name None words found e = absurd cc
chain_none name (Some chain) words found e =
    named_none (ended chain.fields (drop 1 words)) (λ bytes. record { name = name; bytes = bytes; identifier = chain.identifier bytes }) found e

naming_none : (t u : Bool) (all : List Word) (name : Word) (chain : Option Chain) (block : List Word) (found : List ℕ)
    → (if t then at {A = Said} all (Err reason.Naming) else if u then at {A = Said} all (Err reason.Twice) else named_as name chain block) ≡ Ok (Frame found) → IsPayload found
naming_none true u all name chain block found e = absurd cc
naming_none false true all name chain block found e = absurd cc
naming_none false false all name chain block found e = chain_none name chain block found e

no_naming : (names : Names) (words : List Word) (found : List ℕ) → naming names words ≡ Ok (Frame found) → IsPayload found
unfolding naming
no_naming names [] found e = absurd cc
no_naming names (name ∷ block) found e =
    naming_none (not (is_name name)) (is_some (find (λ n. bytes_eq n.name name) names)) (name ∷ block) name (chain_of names (first_word block)) block found e

words_small : (t u : Bool) (names : Names) (words more : List Word) (found : List ℕ)
    → (if t then (bytes_of names more >>= λ bytes. Ok (Rest bytes)) else if u then naming names more else (payload_of names words >>= framed words)) ≡ Ok (Frame found) → IsPayload found
words_small true u names words more found e = no_frame (bytes_of names more) found e
words_small false true names words more found e = no_naming names more found e
words_small false false names words more found e = say_small words (payload_of names words) found e

-- a frame that words say isn't too long
pub said_small : (names : Names) (words : List Word) (found : List ℕ) → say_words names words ≡ Ok (Frame found) → IsPayload found
unfolding say_words
said_small names [] found e = absurd cc
said_small names (word ∷ more) found e = words_small (bytes_eq (codes "rest") word) (bytes_eq (codes "name") word) names (word ∷ more) more found e

-- ---- lines

-- a frame in front of a stream
pub shown_front : (form : BlockForm) (payload bytes : List ℕ) → IsPayload payload → shown form (frame payload ++ bytes) ≡ shown_frame form payload ++ shown form bytes
unfolding shown
shown_front form payload bytes small =
    ap (λ (f : List (List ℕ) × List ℕ). flat_map (shown_frame form) f.0 ++ shown_rest f.1) (frames_front (frame payload ++ bytes) (payload, bytes) (frame_first payload bytes small))
    ∙ append_assoc (shown_frame form payload) (flat_map (shown_frame form) (frames_of bytes).0) (shown_rest (frames_of bytes).1)

-- what begins with no frame is the rest
pub shown_end : (form : BlockForm) (rest : List ℕ) → first_of rest ≡ None → shown form rest ≡ shown_rest rest
unfolding shown
shown_end form rest e = ap (λ (f : List (List ℕ) × List ℕ). flat_map (shown_frame form) f.0 ++ shown_rest f.1) (frames_end rest e)

-- a newline ends a line
pub line_front : (names : Names) (n : ℕ) (text more : List ℕ) → All (λ c. c == 10 ≡ false) text → made_from names n (parts 10 (text ++ 10 ∷ more)) ≡ made_from names n (text ∷ parts 10 more)
line_front names n text more h = ap (made_from names n) (parts_more 10 text more h)

shown_none : (form : BlockForm) → shown form [] ≡ []
unfolding shown frames_of frames_in shown_rest
shown_none form = refl

-- lines that say nothing
pub record SayNothing (form : BlockForm) (lines : List (List ℕ)) (bytes : List ℕ) : Type 0 where
  pub bytes_too : bytes ≡ []
  pub short_too : (names : Names) → short_lines form names lines ≡ []

no_words : (names : Names) (words : List Word) → length words ≡ 0 → say_words names words ≡ Ok Nothing
unfolding say_words
no_words names [] h = refl
no_words names (word ∷ more) h = absurd (omega (arith, h))

none_next : (form : BlockForm) (t : Bool) (line : List ℕ) (more : List (List ℕ)) (bytes : List ℕ) (next : Result (List ℕ) Refusal) (error : Refusal) → (t ≡ true → length (words_of line) ≡ 0)
    → (next ≡ Ok bytes → SayNothing form more bytes) → (if t then next else Err error) ≡ Ok bytes → SayNothing form (line ∷ more) bytes
unfolding short_lines
none_next form true line more bytes next error empty others e =
    let rest = others e in
    record { bytes_too = rest.bytes_too; short_too = λ names. rw (no_words names (words_of line) (empty refl)) (rest.short_too names) }
none_next form false line more bytes next error empty others e = absurd cc

none_said : (form : BlockForm) (n : ℕ) (lines : List (List ℕ)) (bytes : List ℕ) → none_say n lines ≡ Ok bytes → SayNothing form lines bytes
unfolding none_say short_lines
none_said form n [] bytes e = record { bytes_too = cc e; short_too = λ names. refl }
none_said form n (line ∷ more) bytes e =
    none_next form (length (words_of line) == 0) line more bytes (none_say (n + 1) more) (refusal n line (record { why = reason.Behind; left = length (words_of line) }))
    (eqb-true (length (words_of line)) 0) (none_said form (n + 1) more bytes) e

-- a line and those behind it
line_tidied : (form : BlockForm) (names : Names) (n : ℕ) (line : List ℕ) (more : List (List ℕ)) (bytes : List ℕ) (r : Result Said Halt) → ((found : List ℕ) → r ≡ Ok (Frame found) → IsPayload found)
    → ((later : Names) (b : List ℕ) → made_from later (n + 1) more ≡ Ok b → shown form b ≡ short_lines form later more)
    → (in_line n line r >>= λ said. joined said (made_from (names_behind said names) (n + 1) more) (none_say (n + 1) more)) ≡ Ok bytes → shown form bytes ≡ short_of form r ++ short_lines form (names_after r names) more
line_tidied form names n line more bytes (Ok Nothing) small others e = others names bytes e
line_tidied form names n line more bytes (Ok (Name block)) small others e = others (block ∷ names) bytes e
line_tidied form names n line more bytes (Ok (Frame payload)) small others e =
    let w = went_on (made_from names (n + 1) more) (λ (b : List ℕ). frame payload ++ b) bytes e in
    ap (shown form) (sym w.gives) ∙ shown_front form payload w.value (small payload refl) ∙ ap (λ (l : List ℕ). shown_frame form payload ++ l) (others names w.value w.read)
line_tidied form names n line more bytes (Ok (Rest rest)) small others e =
    let w = went_on (none_say (n + 1) more) (λ (b : List ℕ). rest ++ b) bytes e in
    let none = none_said form (n + 1) more w.value w.read in
    ap (shown form) (sym w.gives ∙ ap (λ (b : List ℕ). rest ++ b) none.bytes_too ∙ append-nil rest)
    ∙ sym (append-nil (shown form rest)) ∙ ap (λ (l : List ℕ). shown form rest ++ l) (sym (none.short_too names))
line_tidied form names n line more bytes (Err halt) small others e = absurd cc

lines_tidied : (form : BlockForm) (lines : List (List ℕ)) (names : Names) (n : ℕ) (bytes : List ℕ) → made_from names n lines ≡ Ok bytes → shown form bytes ≡ short_lines form names lines
unfolding made_from short_lines
lines_tidied form [] names n bytes e = let none : bytes ≡ [] = cc e in ap (shown form) none ∙ shown_none form
lines_tidied form (line ∷ more) names n bytes e =
    line_tidied form names n line more bytes (say_words names (words_of line)) (said_small names (words_of line)) (λ later. lines_tidied form more later (n + 1)) e

-- the stream that a text means has the text's short form
pub shown_tidied : (form : BlockForm) (text bytes : List ℕ) → made text ≡ Ok bytes → shown form bytes ≡ tidied form text
unfolding made tidied
shown_tidied form text bytes e = lines_tidied form (parts 10 text) [] 1 bytes e

-- and the short form means it
pub tidied_again : (form : BlockForm) (text bytes : List ℕ) → IsBytes bytes → made text ≡ Ok bytes → made (tidied form text) ≡ Ok bytes
tidied_again form text bytes fits e = ap made (sym (shown_tidied form text bytes e)) ∙ made_again form bytes fits
