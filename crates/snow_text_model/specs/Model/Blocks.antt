-- The words of a block: those of its chain where they spell the very bytes, and else the bytes.
use Rattle.std.specs.Prelude.{ℕ, zero, suc, ◌-◌, ◌/◌, Bool, false, if◌then◌else◌, List, [], ◌∷◌, ◌++◌, length, take, drop, codes, decimal, Result, Ok}
use Rattle.std.specs.List.{join_with_byte}
use Rattle.std.specs.Str.{bytes_eq}
use Rattle.byteorder.specs.Endian.{big_number}
use Rattle.snow_text_model.specs.declared.block_form.BlockForm.{BlockForm}
use Rattle.snow_text_model.specs.declared.block_form.BlockForm.TheVariants as form
use Rattle.snow_text_model.specs.Model.Words.{Word, Halt}
use Rattle.snow_text_model.specs.Model.Bytes.{bytes_text, fixed_text}
use Rattle.snow_text_model.specs.Model.Events.{block_of}

-- bytes behind the fields of a block, if there are
abbrev pub behind_words : List ℕ → List Word
behind_words [] = []
behind_words (byte ∷ bytes) = bytes_text (byte ∷ bytes) ∷ []

-- FROM>TO:AMOUNT@SEQUENCE
abbrev pub transfer_text : List ℕ → Word
transfer_text t =
    decimal (big_number 2 t)
    ++ 62 ∷ (decimal (big_number 2 (drop 2 t)) ++ 58 ∷ (decimal (big_number 8 (drop 4 t)) ++ 64 ∷ decimal (big_number 8 (drop 12 t))))

-- so many transfers
abbrev pub transfer_texts : ℕ → List ℕ → List Word
transfer_texts zero bytes = []
transfer_texts (suc n) bytes = transfer_text (take 20 bytes) ∷ transfer_texts n (drop 20 bytes)

-- what the words of a chain would be
abbrev pub words_in : BlockForm → List ℕ → List Word
words_in form.Bytes bytes = bytes_text bytes ∷ []
words_in form.Plain bytes =
    codes "plain" ∷ fixed_text (take 32 bytes) ∷ fixed_text (take 32 (drop 32 bytes)) ∷ decimal (big_number 8 (drop 64 bytes)) ∷ decimal (big_number 1 (drop 72 bytes))
    ∷ behind_words (drop 73 bytes)
words_in form.Tally bytes =
    codes "tally" ∷ fixed_text (take 32 bytes) ∷ decimal (big_number 8 (drop 32 bytes)) ∷ decimal (big_number 8 (drop 40 bytes)) ∷ behind_words (drop 48 bytes)
words_in form.Ledger bytes =
    codes "ledger" ∷ fixed_text (take 32 bytes) ∷ decimal (big_number 8 (drop 32 bytes)) ∷ transfer_texts ((length bytes - 42) / 20) (drop 42 bytes)

-- a block was read as these bytes
abbrev pub is_block : List ℕ → Result (List ℕ) Halt → Bool
is_block bytes (Ok found) = bytes_eq found bytes
is_block bytes other = false

-- words, where they spell the very bytes
abbrev pub words_if : Bool → List Word → List ℕ → List Word
words_if spell words bytes = if spell then words else bytes_text bytes ∷ []

-- the words of a block
abbrev pub block_words : BlockForm → List ℕ → List Word
block_words form.Bytes bytes = bytes_text bytes ∷ []
block_words form.Plain bytes = words_if (is_block bytes (block_of [] (words_in form.Plain bytes))) (words_in form.Plain bytes) bytes
block_words form.Tally bytes = words_if (is_block bytes (block_of [] (words_in form.Tally bytes))) (words_in form.Tally bytes) bytes
block_words form.Ledger bytes = words_if (is_block bytes (block_of [] (words_in form.Ledger bytes))) (words_in form.Ledger bytes) bytes

-- the words of a block with a space between two of them
abbrev pub block_line : BlockForm → List ℕ → List ℕ
block_line form bytes = join_with_byte 32 (block_words form bytes)
