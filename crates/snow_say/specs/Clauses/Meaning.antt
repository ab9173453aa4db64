-- What telling what words say owes.
use Rattle.std.specs.Prelude.{◌≡◌, ℕ, ◌≤◌, List, length, Result, Ok, Err, ⊤}
use Rattle.snow_say.specs.declared.meaning.Meaning.{Meaning}
use Rattle.snow_say.specs.declared.meaning.Meaning.TheVariants as meaning
use Rattle.snow_words.specs.declared.stop.Stop.{Stop}
use Rattle.snow_words.specs.declared.stop.Stop.TheVariants as stop
use Rattle.snow_text_model.specs.Model.Words.{Word, Halt, ◌>>=◌, ended}
use Rattle.snow_text_model.specs.Model.Names.{Named, Names}
use Rattle.snow_text_model.specs.Model.Events.{Chain}
use Rattle.snow_say.specs.declared.chain.Chain.{Chain as Kind}
use Rattle.snow_say.specs.Clauses.Blocks.{chain_in, fields_in}
use Rattle.snow_text_model.specs.Model.Made.{Said, Nothing, Name, Frame, Rest, framed}

-- words were read: what they say, with the bytes of a frame or of a rest
abbrev pub Says : Result Meaning Stop → List ℕ → Result Said Halt → Type 0
Says (Ok meaning.Nothing) bytes told = told ≡ Ok Nothing
Says (Ok (meaning.Name block)) bytes told = told ≡ Ok (Name block)
Says (Ok meaning.Frame) bytes told = told ≡ Ok (Frame bytes)
Says (Ok meaning.Rest) bytes told = told ≡ Ok (Rest bytes)
Says (Err stop.Memory) bytes told = ⊤
Says (Err (stop.At why left)) bytes told = told ≡ Err (record { why = why; left = left })

-- a block was given a name
abbrev pub Gives : Result Named Stop → Result Said Halt → Type 0
Gives (Ok block) told = told ≡ Ok (Name block)
Gives (Err stop.Memory) told = ⊤
Gives (Err (stop.At why left)) told = told ≡ Err (record { why = why; left = left })

-- a block by a name
abbrev pub block_named : Chain → Word → List ℕ → Named
block_named chain name bytes = record { name = name; bytes = bytes; identifier = chain.identifier bytes }

-- a payload that was told, where it isn't too long
unfoldable pub framed_as : List Word → Result (List ℕ) Halt → Result Said Halt
framed_as words told = told >>= framed words

-- a rest that was told
abbrev pub rest_as : Result (List ℕ) Halt → Result Said Halt
rest_as told = told >>= (λ bytes. Ok (Rest bytes))

-- a block of a chain, by a name
unfoldable pub named_block : Kind → Names → Word → List Word → Result Said Halt
named_block k names name words = ended (fields_in k names) words >>= (λ bytes. Ok (Name (block_named (chain_in names k) name bytes)))

-- a payload isn't too long
abbrev pub Fits : Meaning → List ℕ → Type 0
Fits meaning.Frame bytes = length bytes ≤ 2097152
Fits other bytes = ⊤

-- words were read that say this
abbrev pub FitsIn : Result Meaning Stop → List ℕ → Type 0
FitsIn (Ok meaning) bytes = Fits meaning bytes
FitsIn (Err stop) bytes = ⊤
