-- What a maker takes of a line.
use Rattle.std.proofs.Common.{◌≡◌, ℕ, Bool, List, subst, Result, Ok, Err, sym, ap}
use Rattle.snow_text_model.specs.Model.Words.{Halt, words_of}
use Rattle.snow_text_model.specs.Model.Names.{Names}
use Rattle.snow_text_model.specs.Model.Made.{Said, in_line, refusal, say_line, say_words}
use Rattle.snow_say.specs.declared.meaning.Meaning.{Meaning}
use Rattle.snow_say.specs.declared.meaning.Meaning.TheVariants as meaning
use Rattle.snow_say.specs.Clauses.Meaning.{Says}
use Rattle.snow_text.specs.declared.maker.MakeStop.{MakeStop}
use Rattle.snow_text.specs.declared.maker.MakeStop.TheVariants as make
use Rattle.snow_text.specs.Clauses.Maker.{LineMade, LineTaken, said_in}

-- what its words say
pub line_said : (names : Names) (n : ℕ) (line : List ℕ) (said : Said) → say_words names (words_of line) ≡ Ok said → say_line names n line ≡ Ok said
line_said names n line said h = ap (in_line n line) h

pub line_refused : (names : Names) (n : ℕ) (line : List ℕ) (halt : Halt) → say_words names (words_of line) ≡ Err halt → say_line names n line ≡ Err (refusal n line halt)
line_refused names n line halt h = ap (in_line n line) h

says_in : (m : Meaning) (bytes : List ℕ) (told : Result Said Halt) → Says (Ok m) bytes told → told ≡ Ok (said_in m bytes)
says_in meaning.Nothing bytes told h = h
says_in (meaning.Name block) bytes told h = h
says_in meaning.Frame bytes told h = h
says_in meaning.Rest bytes told h = h

-- what was said was taken
pub line_taken : (names : Names) (n : ℕ) (line bytes : List ℕ) (m : Meaning) (result : Result Bool MakeStop) (before after : Names) (old new : List ℕ)
    → Says (Ok m) bytes (say_words names (words_of line)) → LineTaken result before old after new (said_in m bytes) → LineMade result before old after new (say_line names n line)
line_taken names n line bytes m (Ok rest) before after old new h k =
    subst (λ t. LineMade (Ok rest) before old after new t) (sym (line_said names n line (said_in m bytes) (says_in m bytes (say_words names (words_of line)) h))) k
line_taken names n line bytes m (Err make.Memory) before after old new h k = k
line_taken names n line bytes m (Err (make.Refused r)) before after old new h k = absurd k

-- what a line wants
pub ruleset lining = (line_taken, line_refused)
