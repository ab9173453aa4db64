-- Pieces of a text, as a source gives them.
use Rattle.std.proofs.Common.{◌≡◌, ℕ, ◌+◌, ◌-◌, ◌^◌, ◌≤◌, List, [], length, take, Option, Some, None, IfSome, Result, Ok, Err, refl, sym, ap, ◌∙◌, arith}
use Rattle.std.specs.Io.KnownBytes.{Consumes, IsAtEnd}
use Rattle.std.proofs.lemmas.List.{take-append-le, length-append}
use borrow.Rule.Slice.PartMut.{put_mid, post_of}
use Rattle.snow_text.specs.declared.maker.MakeStop.{MakeStop}
use Rattle.snow_text.specs.declared.maker.MakeStop.TheVariants as make
use Rattle.snow_text.specs.declared.whole.MakeEnd.TheVariants as end
use Rattle.snow_text_model.specs.Model.Words.{parts}
use Rattle.snow_text_model.specs.Model.Made.{made, made_from}
use Rattle.snow_words.specs.Clauses.Making.{onto}
use Rattle.snow_text.specs.Clauses.Texts.{PieceSteps, Standing, TextEnds, begun, means}
use Rattle.snow_text.specs.Clauses.Whole.{Reads, end_at}
use Rattle.snow_text.specs.Kept.Pieces.{IsOn}
use Rattle.snow_text.proofs.Spliced.{glued_none}

-- what was read into the front stands there
pub read_front : (xs buf : List ℕ) (k n : ℕ) → n ≤ length buf → take n (put_mid 0 k xs buf) ≡ take n buf
read_front xs buf k n fits = take-append-le n buf (post_of 0 k xs) fits

-- ---- what is still to come

onto_nothing : {E : Type 0} (told : Result (List ℕ) E) → told ≡ onto [] told
onto_nothing (Ok bytes) = refl
onto_nothing (Err e) = refl

-- nothing was taken
pub on_begun : (left : Option (List ℕ)) (s : Standing) → s ≡ begun → IsOn left left s (2 ^ 40)
unfolding made
on_begun None s e = tt
on_begun (Some text) s e =
    (onto_nothing (made_from [] 1 (parts 10 text)) ∙ ap (λ ps. onto [] (made_from [] 1 ps)) (sym (glued_none (parts 10 text))) ∙ ap (λ (b : Standing). means b text) (sym e), refl)

-- one piece more
pub on_next : (before now after : Option (List ℕ)) (s t : Standing) (room n : ℕ) (piece : List ℕ)
    → IsOn before now s room → Consumes now after piece → length piece ≡ n → n ≤ room → PieceSteps (Ok tt) s t piece → IsOn before after t (room - n)
on_next None now after s t room n piece on took long few steps = tt
on_next (Some text) None after s t room n piece on took long few steps = absurd on
on_next (Some text) (Some left) None s t room n piece on took long few steps = absurd took
on_next (Some text) (Some left) (Some rest) s t room n piece on took long few steps =
    let grown : length left ≡ length piece + length rest = ap length took ∙ length-append piece rest in
    (on.0 ∙ ap (means s) took ∙ steps rest, omega (arith, on.1, grown, long, few))

-- a piece that isn't taken
pub on_stopped : (before now after : Option (List ℕ)) (s u : Standing) (room : ℕ) (piece stream : List ℕ) (stop : MakeStop)
    → IsOn before now s room → Consumes now after piece → PieceSteps (Err stop) s u piece → IfSome before (λ text. Reads (Err (end_at stop)) text stream)
on_stopped None now after s u room piece stream stop on took steps = tt
on_stopped (Some text) now after s u room piece stream make.Memory on took steps = tt
on_stopped (Some text) None after s u room piece stream (make.Refused r) on took steps = absurd on
on_stopped (Some text) (Some left) None s u room piece stream (make.Refused r) on took steps = absurd took
on_stopped (Some text) (Some left) (Some rest) s u room piece stream (make.Refused r) on took steps = on.0 ∙ ap (means s) took ∙ steps rest

-- nothing is left
on_end : (before now after : Option (List ℕ)) (s : Standing) (room : ℕ) → IsOn before now s room → Consumes now after [] → IsAtEnd after → IfSome before (λ text. made text ≡ means s [])
on_end None now after s room on took none = tt
on_end (Some text) None after s room on took none = absurd on
on_end (Some text) (Some left) None s room on took none = absurd took
on_end (Some text) (Some left) (Some rest) s room on took none = on.0 ∙ ap (means s) (took ∙ none)

ends_as : (before : Option (List ℕ)) (s : Standing) (stream : List ℕ) → IfSome before (λ text. made text ≡ means s []) → TextEnds (Ok tt) s stream → IfSome before (λ text. Reads (Ok tt) text stream)
ends_as None s stream told ends = tt
ends_as (Some text) s stream told ends = told ∙ ends

ends_not : (before : Option (List ℕ)) (s : Standing) (stream stream_after : List ℕ) (stop : MakeStop) → IfSome before (λ text. made text ≡ means s []) → TextEnds (Err stop) s stream
    → IfSome before (λ text. Reads (Err (end_at stop)) text stream_after)
ends_not None s stream after stop told ends = tt
ends_not (Some text) s stream after make.Memory told ends = tt
ends_not (Some text) s stream after (make.Refused r) told ends = told ∙ ends

-- the text has ended
pub on_ended : (before now after : Option (List ℕ)) (s : Standing) (room : ℕ) (stream : List ℕ) → IsOn before now s room → Consumes now after [] → IsAtEnd after → TextEnds (Ok tt) s stream
    → IfSome before (λ text. Reads (Ok tt) text stream)
on_ended before now after s room stream on took none ends = ends_as before s stream (on_end before now after s room on took none) ends

pub on_refused : (before now after : Option (List ℕ)) (s : Standing) (room : ℕ) (stream stream_after : List ℕ) (stop : MakeStop) → IsOn before now s room → Consumes now after [] → IsAtEnd after
    → TextEnds (Err stop) s stream → IfSome before (λ text. Reads (Err (end_at stop)) text stream_after)
on_refused before now after s room stream stream_after stop on took none ends = ends_not before s stream stream_after stop (on_end before now after s room on took none) ends

-- no more may come
pub on_limit : (before now : Option (List ℕ)) (s : Standing) (room : ℕ) (stream : List ℕ) → IsOn before now s room → room ≡ 0 → IfSome before (λ text. Reads (Err end.InputLimit) text stream)
on_limit None now s room stream on full = tt
on_limit (Some text) None s room stream on full = absurd on
on_limit (Some text) (Some left) s room stream on full = omega (arith, on.1, full)
