-- What making the bytes of a text owes, as its pieces come.
use Rattle.std.specs.Prelude.{◌≡◌, ℕ, ◌+◌, ◌==◌, if◌then◌else◌, Bool, true, false, List, [], ◌∷◌, ◌++◌, length, Result, Ok, Err, ⊤}
use Rattle.snow_text_model.specs.declared.refusal.Reason.TheVariants as reason
use Rattle.snow_text_model.specs.declared.refusal.Refusal.{Refusal}
use Rattle.snow_text.specs.declared.maker.MakeStop.{MakeStop}
use Rattle.snow_text.specs.declared.maker.MakeStop.TheVariants as make
use Rattle.snow_text_model.specs.Model.Words.{parts, words_of}
use Rattle.snow_text_model.specs.Model.Names.{Names}
use Rattle.snow_text_model.specs.Model.Made.{made_from, none_say, refusal}
use Rattle.snow_text.specs.Clauses.Columns.{halt_at}
use Rattle.snow_words.specs.Clauses.Making.{onto}

-- a line behind a rest says nothing, or is refused
abbrev pub passed : ℕ → List ℕ → Result (Unit {0}) Refusal
passed n line = if length (words_of line) == 0 then Ok tt else Err (refusal n line (halt_at reason.Behind (length (words_of line))))

-- the blocks that have a name, the bytes so far, the next line's number, and whether a rest came
pub record Lining : Type 0 where
  pub names : Names
  pub stream : List ℕ
  pub number : ℕ
  pub behind : Bool

-- no line was taken
abbrev pub begun_lines : Lining
begun_lines = record { names = []; stream = []; number = 1; behind = false }

-- what lines say, in front of which a rest came or none
abbrev pub lines_say : Bool → Names → ℕ → List (List ℕ) → Result (List ℕ) Refusal
lines_say true names n lines = none_say n lines
lines_say false names n lines = made_from names n lines

-- the bytes so far, and those that further lines say
abbrev pub says : Lining → List (List ℕ) → Result (List ℕ) Refusal
says s lines = onto s.stream (lines_say s.behind s.names s.number lines)

-- what was to come means what is still to come, or it is refused; or memory ran out
abbrev pub Steps : Result (Unit {0}) MakeStop → Result (List ℕ) Refusal → Result (List ℕ) Refusal → Type 0
Steps (Ok u) before now = before ≡ now
Steps (Err make.Memory) before now = ⊤
Steps (Err (make.Refused r)) before now = before ≡ Err r

-- a line was taken, whatever comes behind it
abbrev pub LineSteps : Result (Unit {0}) MakeStop → Lining → Lining → List ℕ → Type 0
LineSteps result before now line = (more : List (List ℕ)) → Steps result (says before (line ∷ more)) (says now more)

-- the same of a line's number, and of whether a rest came
abbrev pub LineTakes : Result Bool MakeStop → Bool → ℕ → Names → List ℕ → Names → List ℕ → List ℕ → Type 0
LineTakes (Ok rest) behind n names old after new line =
    (more : List (List ℕ)) → onto old (lines_say behind names n (line ∷ more)) ≡ onto new (lines_say rest after (n + 1) more)
LineTakes (Err make.Memory) behind n names old after new line = ⊤
LineTakes (Err (make.Refused r)) behind n names old after new line = (more : List (List ℕ)) → onto old (lines_say behind names n (line ∷ more)) ≡ Err r

-- ---- pieces

-- a text in front of the first part
abbrev pub glued : List ℕ → List (List ℕ) → List (List ℕ)
glued front [] = []
glued front (part ∷ more) = (front ++ part) ∷ more

-- where a maker stands between lines, and the front of the next line, as far as it came
pub record Standing : Type 0 where
  pub lines : Lining
  pub left : List ℕ

-- nothing came
abbrev pub begun : Standing
begun = record { lines = begun_lines; left = [] }

-- what a text means, of which this was taken and this is still to come
abbrev pub means : Standing → List ℕ → Result (List ℕ) Refusal
means s text = says s.lines (glued s.left (parts 10 text))

-- a piece was taken, whatever comes behind it
abbrev pub PieceSteps : Result (Unit {0}) MakeStop → Standing → Standing → List ℕ → Type 0
PieceSteps result before now piece = (more : List ℕ) → Steps result (means before (piece ++ more)) (means now more)

-- the end of a line was taken, whatever comes behind it
abbrev pub EndSteps : Result (Unit {0}) MakeStop → Standing → Standing → List ℕ → Type 0
EndSteps result before now line = (more : List (List ℕ)) → Steps result (says before.lines ((before.left ++ line) ∷ more)) (says now.lines more)

-- the text has ended: its bytes are those so far
abbrev pub TextEnds : Result (Unit {0}) MakeStop → Standing → List ℕ → Type 0
TextEnds result before stream = Steps result (means before []) (Ok stream)
