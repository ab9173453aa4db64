-- Which words a frame's line has.
use Rattle.std.proofs.Common.{◌≡◌, ℕ, ◌<◌, ◌≤◌, ◌==◌, ◌&&◌, not, false, List, [], ◌∷◌, ◌++◌, length, Result, Ok, Err, refl, ap, arith}
use Rattle.std.specs.List.{list_all}
use Rattle.std.proofs.lemmas.Bool.{and_parts, false_from_ne_true}
use Rattle.snow_wire.specs.declared.event.Event.{Event}
use Rattle.snow_wire.specs.declared.event.Event.TheVariants as event
use Rattle.snow_wire.specs.declared.skip.Fault.{Fault}
use Rattle.snow_wire.specs.Model.Reading.{event_of}
use Rattle.snow_text_model.specs.declared.block_form.BlockForm.{BlockForm}
use Rattle.snow_text_model.specs.Model.Words.{Word, words_of}
use Rattle.snow_text_model.specs.Model.Made.{say_words}
use Rattle.snow_text_model.specs.Model.Shown.{event_words, frame_words, is_frame, line, say, shown_frame, words_as}
use Rattle.snow_say.specs.Clauses.Lined.{written_words}
use Rattle.snow_text_model.proofs.Framed.{frame_told}
use Rattle.snow_text_model.proofs.Tidied.{said_small}

-- no words say a payload that is too long for a frame
long_not : (words : List Word) (payload : List ℕ) → 2097152 < length payload → say words payload ≡ false
unfolding say
long_not words payload long =
    false_from_ne_true (list_all (λ c. not (c == 10)) (line words) && is_frame payload (say_words [] (words_of (line words)))) (λ e.
    let both = and_parts (list_all (λ c. not (c == 10)) (line words)) (is_frame payload (say_words [] (words_of (line words)))) e in
    let small : length payload ≤ 2097152 = said_small [] (words_of (line words)) payload (frame_told payload (say_words [] (words_of (line words))) both.1) in
    omega (arith, long, small))

long_as_is : {E : Type 0} (f : BlockForm) (payload : List ℕ) (r : Result Event E) → 2097152 < length payload → words_as f payload r ≡ frame_words payload
long_as_is f payload (Ok e) long = rw (long_not (event_words f e) payload long) refl
long_as_is f payload (Err fault) long = refl

-- a payload that is too long for a frame is shown as it is
pub shown_long : (f : BlockForm) (payload : List ℕ) → 2097152 < length payload → shown_frame f payload ≡ line (frame_words payload) ++ 10 ∷ []
unfolding shown_frame
shown_long f payload long = ap (λ (ws : List Word). line ws ++ 10 ∷ []) (long_as_is f payload (event_of payload) long)

-- and one that holds no event
pub shown_fault : (f : BlockForm) (payload : List ℕ) (fault : Fault) → event_of payload ≡ Err fault → shown_frame f payload ≡ line (frame_words payload) ++ 10 ∷ []
unfolding shown_frame
shown_fault f payload fault e = ap (λ (r : Result Event Fault). line (words_as f payload r) ++ 10 ∷ []) e

-- one that holds a line is shown in words where these say it
pub shown_line : (f : BlockForm) (payload said : List ℕ) → event_of payload ≡ Ok (event.Line said) → shown_frame f payload ≡ line (written_words said payload) ++ 10 ∷ []
unfolding shown_frame event_words
shown_line f payload said e = ap (λ (r : Result Event Fault). line (words_as f payload r) ++ 10 ∷ []) e
