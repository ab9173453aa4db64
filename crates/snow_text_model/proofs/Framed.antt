-- Each stream is made again from its text.
use Rattle.std.proofs.Common.{◌≡◌, ℕ, ◌+◌, ◌<◌, ◌==◌, if◌then◌else◌, Bool, true, false, not, List, [], ◌∷◌, ◌++◌, All, length, codes, Result, Ok, Err, refl, sym, ap, ◌∙◌, append_assoc, append-nil, subst, arith}
use Rattle.std.specs.List.{filter, flat_map, list_all}
use Rattle.std.proofs.lemmas.Bool.{and_parts, le-leb}
use Rattle.std.proofs.lemmas.List.Elements.{All-head, All-tail}
use Rattle.snow_wire.specs.declared.event.Event.{Event}
use Rattle.snow_wire.specs.Model.Frame.{IsPayload, frame, frames_of}
use Rattle.snow_wire.specs.Model.Reading.{IsBytes, event_of}
use Rattle.snow_wire.specs.Model.Spelling.{number}
use Rattle.snow_wire.proofs.Numbers.{IsBytes-behind}
use Rattle.snow_wire.proofs.Streams.{are_frames}
use Rattle.snow_text_model.specs.declared.block_form.BlockForm.{BlockForm}
use Rattle.snow_text_model.specs.Model.Words.{Word, Halt, is_word, parts, said, spaced, words_of}
use Rattle.snow_text_model.specs.Model.Bytes.{bytes_of, bytes_text}
use Rattle.snow_text_model.specs.Model.Events.{payload_of}
use Rattle.snow_text_model.specs.Model.Made.{Said, Name, names_behind, Nothing, Frame, Rest, joined, made, made_from, none_say, say_words}
use Rattle.snow_text_model.specs.Model.Shown.{event_words, frame_words, is_frame, line, say, shown, shown_frame, shown_rest, words_as}
use Rattle.snow_text_model.proofs.Marks.{AllLack, Lacks, hash, lacks_from, lacks_joined, newline, parts_joined, parts_more, space}
use Rattle.snow_text_model.proofs.Runs.{bytes_front}
use Rattle.snow_text_model.proofs.Pieces.{IsBytesWord, bytes_text_is, told_same, word_if}

-- ---- the words of a line

said_if : (t : Bool) (c : ℕ) (rest : List ℕ) → t ≡ false → (if t then [] else c ∷ rest) ≡ c ∷ rest
said_if true c rest h = absurd cc
said_if false c rest h = refl

-- a line without `#` is said whole
said_all : (text : List ℕ) → Lacks 35 text → said text ≡ text
unfolding said
said_all [] h = refl
said_all (c ∷ text) h =
    said_if (c == 35) c (said text) (All-head (λ b. b == 35 ≡ false) c text h) ∙ ap (λ (l : List ℕ). c ∷ l) (said_all text (All-tail (λ b. b == 35 ≡ false) c text h))

-- words that a line keeps
abbrev pub AreWords : List Word → Type 0
AreWords [] = Unit {0}
AreWords (word ∷ more) = (0 < length word) × AreWords more

-- words are no empty parts
pub filter_all : (ws : List Word) → AreWords ws → filter is_word ws ≡ ws
filter_all [] h = refl
filter_all (w ∷ ws) h = rw (word_if w h.0, filter_all ws h.1) refl

-- the words of a line are found again
pub words_again : (word : Word) (more : List Word) → AreWords (word ∷ more) → AllLack 32 (word ∷ more) → AllLack 35 (word ∷ more) → words_of (line (word ∷ more)) ≡ word ∷ more
unfolding words_of spaced
words_again word more are spaces hashes =
    rw (said_all (line (word ∷ more)) (lacks_joined 35 32 refl (word ∷ more) hashes), parts_joined 32 word more spaces) (filter_all (word ∷ more) are)

-- ---- a line that says a frame

-- a line without a newline in it, and what it says
pub record Says (text : List ℕ) (said : Said) : Type 0 where
  pub whole : Lacks 10 text
  pub means : say_words [] (words_of text) ≡ Ok said

-- a word that is known, and one of bytes
named_whole : (name word : Word) (bytes : List ℕ) → Lacks 10 name → IsBytesWord word bytes → Lacks 10 (line (name ∷ word ∷ []))
named_whole name word bytes lacks is = lacks_joined 10 32 refl (name ∷ word ∷ []) (lacks, (is.lacks 10 newline refl refl refl, tt))

named_words : (name word : Word) (bytes : List ℕ) → 0 < length name → Lacks 32 name → Lacks 35 name → IsBytesWord word bytes → words_of (line (name ∷ word ∷ [])) ≡ name ∷ word ∷ []
named_words name word bytes some spaces hashes is =
    words_again name (word ∷ []) (some, (is.some, tt)) (spaces, (is.lacks 32 space refl refl refl, tt)) (hashes, (is.lacks 35 hash refl refl refl, tt))

frame_says : (word : Word) (payload : List ℕ) → IsPayload payload → bytes_of [] (word ∷ []) ≡ Ok payload → say_words [] (codes "frame" ∷ word ∷ []) ≡ Ok (Frame payload)
unfolding say_words payload_of
frame_says word payload small again = rw (again, le-leb (length payload) 2097152 small) refl

-- a payload as it is
frame_line : (payload : List ℕ) → IsPayload payload → IsBytes payload → Says (line (frame_words payload)) (Frame payload)
frame_line payload small fits =
    let is = bytes_text_is payload fits in
    record {
      whole = named_whole (codes "frame") (bytes_text payload) payload (lacks_from 10 (codes "frame") refl) is;
      means = ap (say_words []) (named_words (codes "frame") (bytes_text payload) payload (omega arith) (lacks_from 32 (codes "frame") refl) (lacks_from 35 (codes "frame") refl) is)
          ∙ frame_says (bytes_text payload) payload small is.again;
    }

rest_says : (word : Word) (bytes : List ℕ) → bytes_of [] (word ∷ []) ≡ Ok bytes → say_words [] (codes "rest" ∷ word ∷ []) ≡ Ok (Rest bytes)
unfolding say_words
rest_says word bytes again = rw again refl

-- what stands behind the last frame
rest_line : (bytes : List ℕ) → IsBytes bytes → Says (line (codes "rest" ∷ bytes_text bytes ∷ [])) (Rest bytes)
rest_line bytes fits =
    let is = bytes_text_is bytes fits in
    record {
      whole = named_whole (codes "rest") (bytes_text bytes) bytes (lacks_from 10 (codes "rest") refl) is;
      means = ap (say_words []) (named_words (codes "rest") (bytes_text bytes) bytes (omega arith) (lacks_from 32 (codes "rest") refl) (lacks_from 35 (codes "rest") refl) is)
          ∙ rest_says (bytes_text bytes) bytes is.again;
    }

pub frame_told : (payload : List ℕ) (r : Result Said Halt) → is_frame payload r ≡ true → r ≡ Ok (Frame payload)
frame_told payload (Ok Nothing) h = absurd cc
frame_told payload (Ok (Name block)) h = absurd cc
frame_told payload (Ok (Frame found)) h = ap (λ (p : List ℕ). Ok (Frame p)) (told_same found payload h)
frame_told payload (Ok (Rest bytes)) h = absurd cc
frame_told payload (Err halt) h = absurd cc

-- words that passed the test
said_told : (words : List Word) (payload : List ℕ) → say words payload ≡ true → Says (line words) (Frame payload)
unfolding say
said_told words payload h =
    let both = and_parts (list_all (λ c. not (c == 10)) (line words)) (is_frame payload (say_words [] (words_of (line words)))) h in
    record { whole = lacks_from 10 (line words) both.0; means = frame_told payload (say_words [] (words_of (line words))) both.1 }

if_said : (t : Bool) (words : List Word) (payload : List ℕ) → IsPayload payload → IsBytes payload → (t ≡ true → Says (line words) (Frame payload))
    → Says (line (if t then words else frame_words payload)) (Frame payload)
if_said true words payload small fits h = h refl
if_said false words payload small fits h = frame_line payload small fits

line_says : {E : Type 0} (form : BlockForm) (payload : List ℕ) (r : Result Event E) → IsPayload payload → IsBytes payload → Says (line (words_as form payload r)) (Frame payload)
line_says form payload (Ok e) small fits = if_said (say (event_words form e) payload) (event_words form e) payload small fits (said_told (event_words form e) payload)
line_says form payload (Err fault) small fits = frame_line payload small fits

-- ---- a text

-- a line in front of others
line_first : (n : ℕ) (text more : List ℕ) (said : Said) → Says text said → made_from [] n (parts 10 ((text ++ 10 ∷ []) ++ more)) ≡ joined said (made_from (names_behind said []) (n + 1) (parts 10 more)) (none_say (n + 1) (parts 10 more))
unfolding made_from
line_first n text more said says =
    rw (append_assoc text (10 ∷ []) more, parts_more 10 text more says.whole, says.means) refl

-- a frame in front of others
frame_first : (form : BlockForm) (n : ℕ) (payload more bytes : List ℕ) → IsPayload payload → IsBytes payload → made_from [] (n + 1) (parts 10 more) ≡ Ok bytes
    → made_from [] n (parts 10 (shown_frame form payload ++ more)) ≡ Ok (frame payload ++ bytes)
unfolding shown_frame
frame_first form n payload more bytes small fits others =
    line_first n (line (words_as form payload (event_of payload))) more (Frame payload) (line_says form payload (event_of payload) small fits) ∙ rw others refl

-- the rest
rest_made : (n : ℕ) (rest : List ℕ) → IsBytes rest → made_from [] n (parts 10 (shown_rest rest)) ≡ Ok rest
unfolding shown_rest made_from none_say say_words words_of said spaced
rest_made n [] fits = refl
rest_made n (b ∷ bytes) fits =
    ap (λ (l : List ℕ). made_from [] n (parts 10 l)) (sym (append-nil (line (codes "rest" ∷ bytes_text (b ∷ bytes) ∷ []) ++ 10 ∷ [])))
    ∙ line_first n (line (codes "rest" ∷ bytes_text (b ∷ bytes) ∷ [])) [] (Rest (b ∷ bytes)) (rest_line (b ∷ bytes) fits)
    ∙ ap Ok (append-nil (b ∷ bytes))

-- frames and a rest
frames_made : (form : BlockForm) (payloads : List (List ℕ)) (rest : List ℕ) (n : ℕ) → All IsPayload payloads → IsBytes (flat_map frame payloads ++ rest)
    → made_from [] n (parts 10 (flat_map (shown_frame form) payloads ++ shown_rest rest)) ≡ Ok (flat_map frame payloads ++ rest)
frames_made form [] rest n small fits = rest_made n rest fits
frames_made form (p ∷ ps) rest n small fits =
    let behind = flat_map frame ps ++ rest in
    let all : IsBytes (frame p ++ behind) = subst IsBytes (append_assoc (frame p) (flat_map frame ps) rest) fits in
    let others = frames_made form ps rest (n + 1) (All-tail IsPayload p ps small) (IsBytes-behind (frame p) behind all) in
    let own = IsBytes-behind (number 4 (length p)) p (bytes_front (frame p) behind all) in
    ap (λ (l : List ℕ). made_from [] n (parts 10 l)) (append_assoc (shown_frame form p) (flat_map (shown_frame form) ps) (shown_rest rest))
    ∙ frame_first form n p (flat_map (shown_frame form) ps ++ shown_rest rest) behind (All-head IsPayload p ps small) own others
    ∙ ap Ok (sym (append_assoc (frame p) (flat_map frame ps) rest))

-- a stream is made again from its text
pub made_again : (form : BlockForm) (bytes : List ℕ) → IsBytes bytes → made (shown form bytes) ≡ Ok bytes
unfolding made shown
made_again form bytes fits =
    let are = are_frames bytes fits in
    frames_made form (frames_of bytes).0 (frames_of bytes).1 1 are.each (subst IsBytes are.whole fits) ∙ ap Ok (sym are.whole)
