-- Frames of a stream that comes in pieces: what was given stays, and more bytes only come behind it.
use Rattle.std.proofs.Common.{◌≡◌, ℕ, zero, suc, ◌+◌, ◌<◌, ◌≤◌, true, ◌&&◌, nat_le, nat_lt, List, [], ◌∷◌, ◌++◌, length, take, drop, Option, Some, None, refl, sym, ap, subst, ◌∙◌, append_assoc, append-nil, arith}
use Rattle.std.proofs.lemmas.Bool.Decides.{nat_tests}
use Rattle.std.proofs.lemmas.List.{length-append, length-drop, take-append-le, drop-append-le}
use Rattle.byteorder.specs.Numbers.{big_from-append}
use Rattle.snow_wire.specs.Model.Frame.{length_word, is_whole, is_too_long, first_of, led_by, frames_in, frames_of}
use Rattle.snow_wire.specs.Clauses.Stream.{Intake, without, taken}
use Rattle.snow_wire.proofs.Streams.{IsWhole, whole_if, if_whole, given_if, frames_front, frames_end}

-- frames that were given, and what is behind them
abbrev pub ahead : List (List ℕ) → List (List ℕ) × List ℕ → List (List ℕ) × List ℕ
ahead given behind = (given ++ behind.0, behind.1)

word_more : (bytes more : List ℕ) → 4 ≤ length bytes → length_word (bytes ++ more) ≡ length_word bytes
word_more bytes more long = big_from-append 4 bytes more long

first_with : (bytes more : List ℕ) (w : ℕ) → length_word (bytes ++ more) ≡ w → IsWhole (length bytes) w
    → first_of (bytes ++ more) ≡ Some (take w (drop 4 bytes), drop w (drop 4 bytes) ++ more)
unfolding first_of
first_with bytes more w word whole =
    let four : 4 ≤ length bytes = whole.word in
    let all : 4 + w ≤ length bytes = whole.all in
    let len : w ≤ length (drop 4 bytes) = omega (arith, length-drop 4 bytes) in
    let test : is_whole (bytes ++ more) ≡ true = if_whole (length (bytes ++ more)) (length_word (bytes ++ more)) (rw word whole.limit) (rw word (omega (arith, length-append bytes more))) in
    rw (test, word, drop-append-le 4 bytes more four, take-append-le w (drop 4 bytes) more len, drop-append-le w (drop 4 bytes) more len) refl

-- a frame in front stays in front
pub first_more : (bytes more : List ℕ) (first : List ℕ × List ℕ) → first_of bytes ≡ Some first → first_of (bytes ++ more) ≡ Some (first.0, first.1 ++ more)
unfolding first_of
first_more bytes more first e =
    let g = given_if (is_whole bytes) (take (length_word bytes) (drop 4 bytes), drop (length_word bytes) (drop 4 bytes)) first e in
    let whole = whole_if (length bytes) (length_word bytes) g.0 in
    subst (λ (f : List ℕ × List ℕ). first_of (bytes ++ more) ≡ Some (f.0, f.1 ++ more)) g.1 (first_with bytes more (length_word bytes) (word_more bytes more whole.word) whole)

long_if : (n w : ℕ) → (nat_le 4 n && nat_lt 2097152 w) ≡ true → (4 ≤ n) × (2097152 < w)
long_if n w h = (grind (arith, nat_tests), grind (arith, nat_tests))

if_long : (n w : ℕ) → 4 ≤ n → 2097152 < w → (nat_le 4 n && nat_lt 2097152 w) ≡ true
if_long n w a b = grind (arith, nat_tests)

-- a length that no frame has stays one
pub long_more : (bytes more : List ℕ) → is_too_long bytes ≡ true → is_too_long (bytes ++ more) ≡ true
long_more bytes more e =
    let g = long_if (length bytes) (length_word bytes) e in
    let four : 4 ≤ length bytes = g.0 in
    if_long (length (bytes ++ more)) (length_word (bytes ++ more)) (omega (arith, length-append bytes more)) (rw (word_more bytes more four) g.1)

pieces_led : (n : ℕ) (bytes more : List ℕ) (o : Option (List ℕ × List ℕ)) → first_of bytes ≡ o
    → ((first : List ℕ × List ℕ) → o ≡ Some first → frames_of (first.1 ++ more) ≡ ahead (frames_in n first.1).0 (frames_of ((frames_in n first.1).1 ++ more)))
    → frames_of (bytes ++ more) ≡ ahead (led_by (frames_in n) bytes o).0 (frames_of ((led_by (frames_in n) bytes o).1 ++ more))
pieces_led n bytes more None e behind = refl
pieces_led n bytes more (Some first) e behind =
    frames_front (bytes ++ more) (first.0, first.1 ++ more) (first_more bytes more first e)
    ∙ ap (λ (r : List (List ℕ) × List ℕ). (first.0 ∷ r.0, r.1)) (behind first refl)

pieces_in : (n : ℕ) (bytes more : List ℕ) → frames_of (bytes ++ more) ≡ ahead (frames_in n bytes).0 (frames_of ((frames_in n bytes).1 ++ more))
unfolding frames_in
pieces_in zero bytes more = refl
pieces_in (suc n) bytes more = pieces_led n bytes more (first_of bytes) refl (λ first e. pieces_in n first.1 more)

-- more bytes only come behind the frames
pub pieces : (bytes more : List ℕ) → frames_of (bytes ++ more) ≡ ahead (frames_of bytes).0 (frames_of ((frames_of bytes).1 ++ more))
unfolding frames_of
pieces bytes more = pieces_in (length bytes) bytes more

-- ---- a decoder's frames, while a stream comes in pieces

-- a piece came
pub goes_on : (bytes : List ℕ) (given : List (List ℕ)) (rest piece : List ℕ) → frames_of bytes ≡ ahead given (frames_of rest) → frames_of (bytes ++ piece) ≡ ahead given (frames_of (rest ++ piece))
goes_on bytes given rest piece so_far =
    pieces bytes piece
    ∙ ap (λ (r : List (List ℕ) × List ℕ). ahead r.0 (frames_of (r.1 ++ piece))) so_far
    ∙ ap (λ (l : List (List ℕ)). (l, (frames_of ((frames_of rest).1 ++ piece)).1)) (append_assoc given (frames_of rest).0 (frames_of ((frames_of rest).1 ++ piece)).0)
    ∙ ap (ahead given) (sym (pieces rest piece))

-- no further frame is there: all were given
pub gave_all : (bytes : List ℕ) (given : List (List ℕ)) (rest : List ℕ) → frames_of bytes ≡ ahead given (frames_of rest) → first_of rest ≡ None → frames_of bytes ≡ (given, rest)
gave_all bytes given rest so_far none =
    so_far ∙ ap (ahead given) (frames_end rest none) ∙ ap (λ (l : List (List ℕ)). (l, rest)) (append-nil given)

-- ---- what taking a frame leaves

-- a frame was there: it counts
pub taken_one : (i : Intake) (payload behind : List ℕ) → first_of i.rest ≡ Some (payload, behind) → taken i ≡ record { given = i.given + 1; rest = behind }
taken_one i payload behind e = ap (without i) e

-- no frame was there: all stays
pub taken_none : (i : Intake) → first_of i.rest ≡ None → taken i ≡ i
taken_none i e = ap (without i) e
