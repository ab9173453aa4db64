-- Words that are put one behind another.
use Rattle.std.specs.Prelude.{ℕ, ◌+◌, ◌*◌, Bool, ◌&&◌, ◌==◌, nat_le, List, [], ◌∷◌, ◌++◌, length, map, drop, codes, decimal}
use Rattle.byteorder.specs.Endian.{big_number}
use Rattle.snow_wire.specs.declared.event.Start.{Start}
use Rattle.snow_wire.specs.Model.Spelling.{flag}
use Rattle.snow_text_model.specs.Model.Words.{Word}
use Rattle.snow_text_model.specs.Model.Bytes.{fixed_text}
use Rattle.snow_text_model.specs.Model.Blocks.{behind_words}
use Rattle.snow_text_model.specs.Model.Shown.{times_texts, weighed_text}

-- words with a mark before the first, and a gap before each other; nothing where there is no word
unfoldable pub led : List ℕ → List ℕ → List Word → List ℕ
led mark gap [] = []
led mark gap (word ∷ more) = mark ++ (word ++ led gap gap more)

-- the height and the byte of validity of a plain block, and the bytes behind them, each with a space before it
abbrev pub plain_fields : List ℕ → List ℕ
plain_fields bytes = (32 ∷ decimal (big_number 8 bytes)) ++ ((32 ∷ decimal (big_number 1 (drop 8 bytes))) ++ led (32 ∷ []) (32 ∷ []) (behind_words (drop 9 bytes)))

-- two numbers of a tally block, and the bytes behind them, each with a space before it
abbrev pub tally_fields : List ℕ → List ℕ
tally_fields bytes = (32 ∷ decimal (big_number 8 bytes)) ++ ((32 ∷ decimal (big_number 8 (drop 8 bytes))) ++ led (32 ∷ []) (32 ∷ []) (behind_words (drop 16 bytes)))

-- a ledger block has just the transfers that it counts
abbrev pub is_ledger : List ℕ → Bool
is_ledger bytes = nat_le 42 (length bytes) && length bytes == 42 + 20 * big_number 2 (drop 40 bytes)

-- a name, a node and the number of a request
abbrev pub sender_text : Word → List ℕ → ℕ → List ℕ
sender_text name node request = name ++ ((32 ∷ fixed_text node) ++ (32 ∷ decimal request))

-- the first four numbers of a Start
abbrev pub first_numbers : Start → List ℕ
first_numbers s =
    (codes "start k=" ++ decimal s.k)
    ++ ((codes " alpha-preference=" ++ decimal s.alpha_preference)
    ++ ((codes " alpha-confidence=" ++ decimal s.alpha_confidence)
    ++ (codes " beta=" ++ decimal s.beta)))

-- the fields behind them, up to the last block
abbrev pub more_fields : Start → List ℕ
more_fields s =
    (codes " repolls=" ++ decimal s.repolls) ++ ((codes " boot=" ++ decimal (flag s.boot)) ++ (codes " last=" ++ fixed_text s.last))

-- the height, the state and the nodes
abbrev pub last_fields : Start → List ℕ
last_fields s =
    (codes " height=" ++ decimal s.height)
    ++ (led (codes " state=") (44 ∷ []) (times_texts s.state) ++ led (codes " nodes=") (44 ∷ []) (map weighed_text s.nodes))
