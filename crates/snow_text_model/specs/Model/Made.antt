-- What a text means: the bytes of a stream, or the first place that says nothing.
use Rattle.std.specs.Prelude.{ℕ, ◌+◌, ◌-◌, ◌==◌, not, nat_le, if◌then◌else◌, List, [], ◌∷◌, ◌++◌, length, drop, codes, Option, Some, None, is_some, Result, Ok, Err}
use Rattle.std.specs.List.{find}
use Rattle.std.specs.Str.{bytes_eq}
use Rattle.snow_base.specs.declared.limits.TheConstants.{FRAME_BYTES}
use Rattle.snow_wire.specs.Model.Frame.{frame}
use Rattle.snow_text_model.specs.declared.refusal.Reason.TheVariants as reason
use Rattle.snow_text_model.specs.declared.refusal.Refusal.{Refusal}
use Rattle.snow_text_model.specs.Model.Words.{Word, Halt, ◌>>=◌, parts, said, words_of, column_of, at, ended}
use Rattle.snow_text_model.specs.Model.Names.{Named, Names, is_name}
use Rattle.snow_text_model.specs.Model.Bytes.{bytes_of}
use Rattle.snow_text_model.specs.Model.Events.{Chain, chain_of, first_word, payload_of}

-- what a line says: nothing, a block's name, a frame's payload, or what stands behind the last whole frame
pub data Said : Type 0 where
  Nothing : Said
  Name : Named → Said
  Frame : List ℕ → Said
  Rest : List ℕ → Said

-- a frame, where the payload isn't too long
abbrev pub framed : List Word → List ℕ → Result Said Halt
framed words payload = if nat_le (length payload) FRAME_BYTES then Ok (Frame payload) else at words (Err reason.Long)

-- a block in the words of a chain, by a name
abbrev pub named_as : Word → Option Chain → List Word → Result Said Halt
named_as name None words = at words (Err reason.Chain)
named_as name (Some chain) words = ended chain.fields (drop 1 words) >>= λ bytes. Ok (Name (record { name = name; bytes = bytes; identifier = chain.identifier bytes }))

-- a block gets a name that no other has
unfoldable pub naming : Names → List Word → Result Said Halt
naming names [] = at [] (Err reason.Missing)
naming names (name ∷ block) =
    if not (is_name name) then at (name ∷ block) (Err reason.Naming)
    else if is_some (find (λ n. bytes_eq n.name name) names) then at (name ∷ block) (Err reason.Twice)
    else named_as name (chain_of names (first_word block)) block

-- what words say
unfoldable pub say_words : Names → List Word → Result Said Halt
say_words names [] = Ok Nothing
say_words names (word ∷ more) =
    if bytes_eq (codes "rest") word then (bytes_of names more >>= λ bytes. Ok (Rest bytes))
    else if bytes_eq (codes "name") word then naming names more
    else (payload_of names (word ∷ more) >>= framed (word ∷ more))

-- where a line with this number isn't taken
abbrev pub refusal : ℕ → List ℕ → Halt → Refusal
refusal n line halt = record {
  line = n;
  column = column_of (length (words_of line) - halt.left) 1 (parts 32 (said line));
  reason = halt.why;
}

-- a halt in this line
abbrev pub in_line : {A : Type 0} → ℕ → List ℕ → Result A Halt → Result A Refusal
in_line n line (Ok x) = Ok x
in_line n line (Err halt) = Err (refusal n line halt)

-- what a line says
abbrev pub say_line : Names → ℕ → List ℕ → Result Said Refusal
say_line names n line = in_line n line (say_words names (words_of line))

-- lines that say nothing, from this number on
unfoldable pub none_say : ℕ → List (List ℕ) → Result (List ℕ) Refusal
none_say n [] = Ok []
none_say n (line ∷ more) =
    if length (words_of line) == 0
    then none_say (n + 1) more
    else Err (refusal n line (record { why = reason.Behind; left = length (words_of line) }))

-- the names behind what was said
abbrev pub names_behind : Said → Names → Names
names_behind Nothing names = names
names_behind (Name block) names = block ∷ names
names_behind (Frame payload) names = names
names_behind (Rest bytes) names = names

-- what a line says, with what those behind it say: the bytes of frames, or of a rest and no more
abbrev pub joined : Said → Result (List ℕ) Refusal → Result (List ℕ) Refusal → Result (List ℕ) Refusal
joined Nothing others none = others
joined (Name block) others none = others
joined (Frame payload) others none = others >>= λ bytes. Ok (frame payload ++ bytes)
joined (Rest bytes) others none = none >>= λ empty. Ok (bytes ++ empty)

-- the bytes that lines say, from this number on, where these names were given
unfoldable pub made_from : Names → ℕ → List (List ℕ) → Result (List ℕ) Refusal
made_from names n [] = Ok []
made_from names n (line ∷ more) =
    say_line names n line >>= λ said. joined said (made_from (names_behind said names) (n + 1) more) (none_say (n + 1) more)

-- the bytes that a text means
unfoldable pub made : List ℕ → Result (List ℕ) Refusal
made text = made_from [] 1 (parts 10 text)
