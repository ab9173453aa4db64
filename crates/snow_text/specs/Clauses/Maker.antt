-- What a maker owes that takes a line.
use Rattle.std.specs.Prelude.{◌≡◌, ℕ, Bool, true, false, List, [], ◌++◌, Result, Ok, Err}
use Rattle.snow_wire.specs.Model.Frame.{frame}
use Rattle.snow_text_model.specs.declared.refusal.Refusal.{Refusal}
use Rattle.snow_text_model.specs.Model.Names.{Names}
use Rattle.snow_text_model.specs.Model.Made.{Said, Nothing, Name, Frame, Rest, names_behind}
use Rattle.snow_say.specs.declared.meaning.Meaning.{Meaning}
use Rattle.snow_say.specs.declared.meaning.Meaning.TheVariants as meaning
use Rattle.snow_text.specs.declared.maker.MakeStop.{MakeStop}
use Rattle.snow_text.specs.declared.maker.MakeStop.TheVariants as make

-- the bytes of a stream that a line says
abbrev pub bytes_said : Said → List ℕ
bytes_said Nothing = []
bytes_said (Name block) = []
bytes_said (Frame payload) = frame payload
bytes_said (Rest bytes) = bytes

-- what was said, with the bytes of a frame or of a rest
abbrev pub said_in : Meaning → List ℕ → Said
said_in meaning.Nothing bytes = Nothing
said_in (meaning.Name block) bytes = Name block
said_in meaning.Frame bytes = Frame bytes
said_in meaning.Rest bytes = Rest bytes

abbrev pub is_rest : Said → Bool
is_rest (Rest bytes) = true
is_rest other = false

-- what was said was taken, or memory ran out and all stayed as it was
abbrev pub LineTaken : Result Bool MakeStop → Names → List ℕ → Names → List ℕ → Said → Type 0
LineTaken (Ok rest) before old after new said = (after ≡ names_behind said before) × (new ≡ old ++ bytes_said said) × (rest ≡ is_rest said)
LineTaken (Err make.Memory) before old after new said = (after ≡ before) × (new ≡ old)
LineTaken (Err (make.Refused r)) before old after new said = ⊥

-- a line was taken, or refused, or memory ran out: then all stayed as it was
abbrev pub LineMade : Result Bool MakeStop → Names → List ℕ → Names → List ℕ → Result Said Refusal → Type 0
LineMade (Err make.Memory) before old after new told = (after ≡ before) × (new ≡ old)
LineMade result before old after new (Ok said) = LineTaken result before old after new said
LineMade (Ok rest) before old after new (Err refusal) = ⊥
LineMade (Err (make.Refused r)) before old after new (Err refusal) = (r ≡ refusal) × (after ≡ before) × (new ≡ old)

-- the blocks that have a name, and the bytes of a stream so far
pub record Making : Type 0 where
  pub names : Names
  pub stream : List ℕ
