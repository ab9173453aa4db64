-- Blocks in the words of their chains.
use Rattle.std.specs.Prelude.{Bool, false, ◌&&◌, ◌==◌, List, [], ◌∷◌, length, codes}
use Rattle.std.specs.Str.{bytes_eq}
use Rattle.snow_say.specs.declared.chain.Chain.{Chain as Kind}
use Rattle.snow_say.specs.declared.chain.Chain.TheVariants as chain
use Rattle.snow_text_model.specs.Model.Words.{Word, Field}
use Rattle.snow_text_model.specs.Model.Names.{Names}
use Rattle.snow_text_model.specs.Model.Events.{Chain, plain, tally, ledger}

-- a chain's blocks
abbrev pub chain_in : Names → Kind → Chain
chain_in names chain.Plain = plain names
chain_in names chain.Tally = tally names
chain_in names chain.Ledger = ledger names

-- the fields of a chain's blocks
unfoldable pub fields_in : Kind → Names → Field
fields_in k names = (chain_in names k).fields

-- the words say no bytes
abbrev pub is_dot : List Word → Bool
is_dot [] = false
is_dot (word ∷ more) = bytes_eq word (codes ".") && length more == 0
