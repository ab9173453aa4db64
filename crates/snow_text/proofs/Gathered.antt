-- The lines of a text, taken one by one as its pieces come.
use Rattle.std.proofs.Common.{◌≡◌, ℕ, ◌+◌, ◌==◌, Bool, true, false, List, [], ◌∷◌, ◌++◌, length, Result, Ok, Err, if◌then◌else◌, refl, sym, ap, ◌∙◌, append_assoc, append-nil}
use Rattle.snow_wire.specs.Model.Frame.{frame}
use Rattle.snow_text_model.specs.declared.refusal.Reason.TheVariants as reason
use Rattle.snow_text_model.specs.declared.refusal.Refusal.{Refusal}
use Rattle.snow_text.specs.declared.maker.MakeStop.{MakeStop}
use Rattle.snow_text.specs.declared.maker.MakeStop.TheVariants as make
use Rattle.snow_text_model.specs.Model.Words.{◌>>=◌, words_of}
use Rattle.snow_text_model.specs.Model.Names.{Names}
use Rattle.snow_text_model.specs.Model.Made.{Said, Nothing, Name, Frame, Rest, joined, made_from, names_behind, none_say, refusal, say_line}
use Rattle.snow_text.specs.Clauses.Columns.{halt_at}
use Rattle.snow_words.specs.Clauses.Making.{onto}
use Rattle.snow_text.specs.Clauses.Maker.{LineMade, bytes_said, is_rest}
use Rattle.snow_text.specs.Clauses.Texts.{LineTakes, lines_say, passed}

-- ---- a line

onto_then : {E : Type 0} (old new : List ℕ) (told : Result (List ℕ) E) → onto old (told >>= (λ bytes. Ok (new ++ bytes))) ≡ onto (old ++ new) told
onto_then old new (Ok x) = ap Ok (sym (append_assoc old new x))
onto_then old new (Err e) = refl

onto_none : {E : Type 0} (old : List ℕ) (told : Result (List ℕ) E) → onto old told ≡ onto (old ++ []) told
onto_none old told = ap (λ l. onto l told) (sym (append-nil old))

-- what was said, in front of further lines
said_then : (said : Said) (names : Names) (old : List ℕ) (n : ℕ) (more : List (List ℕ))
    → onto old (joined said (made_from (names_behind said names) n more) (none_say n more))
    ≡ onto (old ++ bytes_said said) (lines_say (is_rest said) (names_behind said names) n more)
said_then Nothing names old n more = onto_none old (made_from names n more)
said_then (Name block) names old n more = onto_none old (made_from (block ∷ names) n more)
said_then (Frame payload) names old n more = onto_then old (frame payload) (made_from names n more)
said_then (Rest bytes) names old n more = onto_then old bytes (none_say n more)

-- a line before a rest was taken
line_then : (names : Names) (old : List ℕ) (n : ℕ) (more : List (List ℕ)) (told : Result Said Refusal) (after : Names) (new : List ℕ) (rest : Bool)
    → LineMade (Ok rest) names old after new told
    → onto old (told >>= (λ said. joined said (made_from (names_behind said names) n more) (none_say n more))) ≡ onto new (lines_say rest after n more)
line_then names old n more (Ok said) after new rest taken = rw (taken.0, taken.1, taken.2) (said_then said names old n more)
line_then names old n more (Err r) after new rest taken = absurd taken

line_not : (names : Names) (old : List ℕ) (n : ℕ) (more : List (List ℕ)) (told : Result Said Refusal) (after : Names) (new : List ℕ) (r : Refusal)
    → LineMade (Err (make.Refused r)) names old after new told
    → onto old (told >>= (λ said. joined said (made_from (names_behind said names) n more) (none_say n more))) ≡ Err r
line_not names old n more (Ok said) after new r taken = absurd taken
line_not names old n more (Err e) after new r taken = ap Err (sym taken.0)

pub line_takes : (result : Result Bool MakeStop) (names after : Names) (old new line : List ℕ) (n : ℕ) → LineMade result names old after new (say_line names n line)
    → LineTakes result false n names old after new line
unfolding made_from
line_takes (Ok rest) names after old new line n taken = λ more. line_then names old (n + 1) more (say_line names n line) after new rest taken
line_takes (Err make.Memory) names after old new line n taken = tt
line_takes (Err (make.Refused r)) names after old new line n taken = λ more. line_not names old (n + 1) more (say_line names n line) after new r taken

-- a line behind a rest
pass_then : (n m : ℕ) (line : List ℕ) (more : List (List ℕ)) (old : List ℕ) (t : Bool) (why : Refusal) (told : Result (Unit {0}) Refusal) → told ≡ (if t then Ok tt else Err why) → told ≡ Ok tt
    → onto old (if t then none_say m more else Err why) ≡ onto old (none_say m more)
pass_then n m line more old true why told e f = refl
pass_then n m line more old false why told e f = cc

pass_not : (n m : ℕ) (line : List ℕ) (more : List (List ℕ)) (old : List ℕ) (t : Bool) (why r : Refusal) (told : Result (Unit {0}) Refusal) → told ≡ (if t then Ok tt else Err why) → told ≡ Err r
    → onto old (if t then none_say m more else Err why) ≡ Err r
pass_not n m line more old true why r told e f = cc
pass_not n m line more old false why r told e f = cc

pub line_passed : (names : Names) (old line : List ℕ) (n : ℕ) (behind : Bool) → behind ≡ true → Ok tt ≡ passed n line → LineTakes (Ok true) behind n names old names old line
unfolding none_say
line_passed names old line n behind b e more = rw b
    (pass_then n (n + 1) line more old (length (words_of line) == 0) (refusal n line (halt_at reason.Behind (length (words_of line)))) (Ok tt) e refl)

pub line_refused : (names after : Names) (old new line : List ℕ) (n : ℕ) (behind : Bool) (r : Refusal) → behind ≡ true → Err r ≡ passed n line → LineTakes (Err (make.Refused r)) behind n names old after new line
unfolding none_say
line_refused names after old new line n behind r b e more = rw b
    (pass_not n (n + 1) line more old (length (words_of line) == 0) (refusal n line (halt_at reason.Behind (length (words_of line)))) r (Err r) e refl)

pub pass_none : (n : ℕ) (line : List ℕ) (words : ℕ) → words ≡ length (words_of line) → words ≡ 0 → Ok tt ≡ passed n line
pass_none n line words e z = let none : length (words_of line) ≡ 0 = sym e ∙ z in rw none refl

pub pass_some : (n : ℕ) (line : List ℕ) (words : ℕ) (r : Refusal) → words ≡ length (words_of line) → words == 0 ≡ false → r ≡ refusal n line (halt_at reason.Behind words) → Err r ≡ passed n line
pass_some n line words r e z h =
    let some : length (words_of line) == 0 ≡ false = ap (λ w. w == 0) (sym e) ∙ z in
    rw (some, h, e) refl

-- what a line wants
pub ruleset stepping = (line_takes)
