-- Numbers and bytes: how a word says them, and the shortest word that does.
use Rattle.std.specs.Prelude.{ℕ, ◌+◌, ◌-◌, ◌*◌, ◌^◌, Bool, ◌&&◌, ◌||◌, ◌==◌, nat_lt, if◌then◌else◌, List, [], ◌∷◌, ◌++◌, length, take, drop, map, replicate, codes, decimal, Result, Ok, Err}
use Rattle.std.specs.List.{list_all, join_with_byte}
use Rattle.std.specs.Str.{all_ascii_digits, bytes_eq}
use Rattle.std.specs.Str.Parse.{digits_value}
use Rattle.hex.specs.Hex.{encode_lower, decode_of}
use Rattle.hex.specs.declared.error.FromHexError.{FromHexError}
use Rattle.snow_wire.specs.Model.Spelling.{number}
use Rattle.snow_text_model.specs.declared.refusal.Reason.{Reason}
use Rattle.snow_text_model.specs.declared.refusal.Reason.TheVariants as reason
use Rattle.snow_text_model.specs.Model.Words.{Word, Halt, ◌>>=◌, where_holds, is_word, parts, each, all_of, at}
use Rattle.snow_text_model.specs.Model.Names.{Names, called, is_call}

-- ---- what a word says

-- a decimal number below a limit
unfoldable pub number_below : ℕ → Word → Result ℕ Reason
number_below limit word =
    where_holds (is_word word && all_ascii_digits word && nat_lt (digits_value 10 word) limit) (digits_value 10 word) reason.Number

-- the bytes of a decimal number, which are so many
unfoldable pub number_word : ℕ → Word → Result (List ℕ) Reason
number_word size word = do
  n ← number_below (2 ^ (8 * size)) word
  Ok (number size n)

-- no capital letter of a hexadecimal number
abbrev pub is_small : ℕ → Bool
is_small c = nat_lt c 65 || nat_lt 70 c

-- bytes that were decoded
abbrev pub decoded : Result (List ℕ) FromHexError → Result (List ℕ) Reason
decoded (Ok bytes) = Ok bytes
decoded (Err e) = Err reason.Digits

-- pairs of small hexadecimal digits
unfoldable pub digits_word : Word → Result (List ℕ) Reason
digits_word word = if is_word word && list_all is_small word then decoded (decode_of word) else Err reason.Digits

-- one byte again and again
abbrev pub again : List ℕ → ℕ → Result (List ℕ) Reason
again (byte ∷ []) times = Ok (replicate times byte)
again bytes times = Err reason.Digits

-- digits, or a byte again and again, up to 4,194,304 times
unfoldable pub piece_of : List Word → Result (List ℕ) Reason
piece_of (digits ∷ []) = digits_word digits
piece_of (digits ∷ times ∷ []) = do
  bytes ← digits_word digits
  n ← number_below 4194305 times
  again bytes n
piece_of other = Err reason.Digits

-- the bytes of a piece
abbrev pub piece_word : Word → Result (List ℕ) Reason
piece_word word = piece_of (parts 42 word)

-- pieces with `+` between them
unfoldable pub bytes_word : Word → Result (List ℕ) Reason
bytes_word word = each piece_word (parts 43 word)

-- exactly so many
abbrev pub exactly : ℕ → List ℕ → Result (List ℕ) Reason
exactly size bytes = where_holds (length bytes == size) bytes reason.Size

-- what stands before the two full stops at the end, if there are
abbrev pub is_open : Word → Bool
is_open word = bytes_eq (drop (length word - 2) word) (codes "..")

-- so many bytes, where `..` fills up with zeros
unfoldable pub fixed_word : ℕ → Word → Result (List ℕ) Reason
fixed_word size word =
    if is_open word
    then bytes_word (take (length word - 2) word) >>= (λ front. exactly size (front ++ replicate (size - length front) 0))
    else bytes_word word >>= exactly size

-- bytes, or those of a block that has a name
unfoldable pub part_word : Names → Word → Result (List ℕ) Reason
part_word names word = if is_call word then called (λ n. n.bytes) names word else bytes_word word

-- so many bytes, or the identifier of a block that has a name
unfoldable pub item_word : Names → ℕ → Word → Result (List ℕ) Reason
item_word names size word = if is_call word then (called (λ n. n.identifier) names word >>= exactly size) else fixed_word size word

-- any number of bytes; `.` alone is none
unfoldable pub bytes_of : Names → List Word → Result (List ℕ) Halt
bytes_of names [] = at [] (Err reason.Missing)
bytes_of names (word ∷ more) =
    if bytes_eq word (codes ".") && length more == 0 then Ok [] else all_of (part_word names) (word ∷ more)

-- ---- the shortest word

-- an element in front of others that are told as runs: each with how often it stands, at most 4,194,304 times
abbrev pub led_by : ℕ → List (ℕ × ℕ) → List (ℕ × ℕ)
led_by x [] = (x, 1) ∷ []
led_by x (run ∷ runs) = if x == run.0 && nat_lt run.1 4194304 then (run.0, run.1 + 1) ∷ runs else (x, 1) ∷ run ∷ runs

-- the runs of equal elements
unfoldable pub runs_of : List ℕ → List (ℕ × ℕ)
runs_of [] = []
runs_of (x ∷ xs) = led_by x (runs_of xs)

-- a piece: bytes as they are, or one again and again
pub data Piece : Type 0 where
  Plain : List ℕ → Piece
  Again : ℕ → ℕ → Piece

-- bytes in front of pieces, as they are
abbrev pub onto : List ℕ → List Piece → List Piece
onto bytes (Plain more ∷ pieces) = Plain (bytes ++ more) ∷ pieces
onto bytes other = Plain bytes ∷ other

-- a run in front of pieces: from three on it is a piece of its own
abbrev pub laid : ℕ × ℕ → List Piece → List Piece
laid run pieces = if nat_lt run.1 3 then onto (replicate run.1 run.0) pieces else Again run.0 run.1 ∷ pieces

-- the pieces of runs
unfoldable pub pieces_of : List (ℕ × ℕ) → List Piece
pieces_of [] = []
pieces_of (run ∷ runs) = laid run (pieces_of runs)

abbrev pub piece_text : Piece → Word
piece_text (Plain bytes) = encode_lower bytes
piece_text (Again byte times) = encode_lower (byte ∷ []) ++ 42 ∷ decimal times

-- the short form of bytes, of which there is one at least
unfoldable pub short : List ℕ → Word
short bytes = join_with_byte 43 (map piece_text (pieces_of (runs_of bytes)))

-- the short form of any bytes
unfoldable pub bytes_text : List ℕ → Word
bytes_text [] = codes "."
bytes_text (byte ∷ bytes) = short (byte ∷ bytes)

-- a byte in front of others that end with no zero
abbrev pub kept : ℕ → List ℕ → List ℕ
kept byte [] = if byte == 0 then [] else byte ∷ []
kept byte (next ∷ more) = byte ∷ next ∷ more

-- without the zeros at the end
unfoldable pub trimmed : List ℕ → List ℕ
trimmed [] = []
trimmed (byte ∷ bytes) = kept byte (trimmed bytes)

-- at least one byte
abbrev pub some_of : List ℕ → List ℕ
some_of [] = 0 ∷ []
some_of (byte ∷ bytes) = byte ∷ bytes

-- the short form of bytes whose number is known
unfoldable pub fixed_text : List ℕ → Word
fixed_text bytes =
    let front = some_of (trimmed bytes) in
    if length front == length bytes then short bytes else short front ++ codes ".."
