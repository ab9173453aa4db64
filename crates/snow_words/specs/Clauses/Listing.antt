-- Items of lists, and lists of them.
use Rattle.std.specs.Prelude.{ℕ, List, [], ◌++◌, replicate, Option, Some, None, Result, Ok, Err}
use Rattle.snow_wire.specs.Model.Spelling.{number}
use Rattle.snow_text_model.specs.declared.refusal.Reason.{Reason}
use Rattle.snow_text_model.specs.declared.refusal.Reason.TheVariants as reason
use Rattle.snow_words.specs.declared.items.Item.{Item}
use Rattle.snow_words.specs.declared.items.Item.TheVariants as item
use Rattle.snow_text_model.specs.Model.Words.{Word, Halt, ◌>>=◌, at, each, parts}
use Rattle.snow_text_model.specs.Model.Names.{Names}
use Rattle.snow_text_model.specs.Model.Bytes.{item_word, number_word}
use Rattle.snow_text_model.specs.Model.Events.{ids_word, listed, pair, times_word, transfer_word, weighed_word}

-- the items that a word says
unfoldable pub items_of : Names → Item → Word → Result (List (List ℕ)) Reason
items_of names item.Number word = times_word word
items_of names item.Id word = ids_word names word
items_of names item.Node word = weighed_word names word
items_of names item.Transfer word = transfer_word word

-- two parts, or the reason why there aren't
abbrev pub halves : Reason → Option (Word × Word) → Result (Word × Word) Reason
halves why (Some both) = Ok both
halves why None = Err why

-- bytes that were told, and others behind them
abbrev pub both_told : {E : Type 0} → Result (List ℕ) E → Result (List ℕ) E → Result (List ℕ) E
both_told a b = a >>= (λ x. b >>= (λ y. Ok (x ++ y)))

-- a node and its weight
unfoldable pub weighed_bytes : Names → Word → Result (List ℕ) Reason
weighed_bytes names word = pair reason.Node (parts 58 word) >>= (λ both. both_told (item_word names 20 both.0) (number_word 8 both.1))

-- the bytes of a transfer
abbrev pub transfer_numbers : Word → Word → Word → Word → Result (List ℕ) Reason
transfer_numbers a b c d = both_told (number_word 2 a) (both_told (number_word 2 b) (both_told (number_word 8 c) (number_word 8 d)))

abbrev pub transfer_last : Word → Word → Word → Result (List ℕ) Reason
transfer_last a b word = pair reason.Transfer (parts 64 word) >>= (λ both. transfer_numbers a b both.0 both.1)

abbrev pub transfer_to : Word → Word → Result (List ℕ) Reason
transfer_to a word = pair reason.Transfer (parts 58 word) >>= (λ both. transfer_last a both.0 both.1)

unfoldable pub transfer_bytes : Word → Result (List ℕ) Reason
transfer_bytes word = pair reason.Transfer (parts 62 word) >>= (λ both. transfer_to both.0 both.1)

-- a number that was told, as often as was told
abbrev pub numbers_told : Result ℕ Reason → Result ℕ Reason → Result (List (List ℕ)) Reason
numbers_told n times = (n >>= (λ v. Ok (number 8 v))) >>= (λ bytes. times >>= (λ k. Ok (replicate k bytes)))

-- a list of the items that were told
abbrev pub list_told : Result (List (List ℕ)) Reason → Result (List ℕ) Reason
list_told told = told >>= listed

abbrev pub list_read : Result (List (List ℕ)) Halt → Result (List ℕ) Halt
list_read told = told >>= (λ items. at [] (listed items))

-- a list whose items stand in a word
abbrev pub list_of : Names → Item → Word → Result (List ℕ) Reason
list_of names item word = list_told (each (items_of names item) (parts 44 word))
