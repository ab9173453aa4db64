-- The short form of bytes says these bytes.
use Rattle.std.proofs.Common.{◌≡◌, ℕ, zero, suc, ◌/◌, ◌%◌, ◌<◌, ◌^◌, ◌==◌, ◌&&◌, nat_lt, Bool, true, false, List, [], ◌∷◌, length, map, slice_index, codes, decimal, Ok, refl, ap, ◌∙◌, append-nil, subst, arith}
use Rattle.std.specs.List.{list_all, join_with_byte}
use Rattle.std.specs.Str.{all_ascii_digits, bytes_eq}
use Rattle.std.specs.Str.Parse.{digits_value}
use Rattle.std.proofs.lemmas.Bool.{and_parts, lt-ltb, and_from, false_from_ne_true, both_ways}
use Rattle.std.proofs.lemmas.List.{length-append}
use Rattle.std.proofs.lemmas.List.Elements.{All-head}
use Rattle.std.proofs.lemmas.Fmt.{decimal_is_IsNumeral, digits_decimal, decimal_nonempty}
use Rattle.std.proofs.lemmas.Slice.Eq.{bytes_eq-Decides}
use Rattle.std.proofs.lemmas.Str.Parse.{IsNumeralModel, numerals_by_value, tells_all_ascii_digits}
use Rattle.hex.specs.Hex.{encode_lower, encode_with, lower_digits}
use Rattle.hex.proofs.HexLemmas.{decode_of-encode_lower, length-encode_with}
use Rattle.snow_wire.specs.Model.Reading.{IsBytes}
use Rattle.snow_text_model.specs.declared.refusal.Reason.TheVariants as reason
use Rattle.snow_text_model.specs.Model.Words.{Word, where_holds, is_word, each, all_of}
use Rattle.snow_text_model.specs.Model.Names.{is_call}
use Rattle.snow_text_model.specs.Model.Bytes.{part_word, Piece, Plain, Again, bytes_of, bytes_text, bytes_word, digits_word, is_small, number_below, piece_of, piece_text, piece_word, pieces_of, runs_of, short}
use Rattle.snow_text_model.proofs.Marks.{AllLack, IsMark, Lacks, decimal_lacks, dollar, full_stop, hex_lacks, lacks_both, lacks_cons, lacks_joined, lacks_nil, parts_joined, parts_more, parts_one, plus, star}
use Rattle.snow_text_model.proofs.Runs.{ArePieces, IsPiece, bytes_below, bytes_in, bytes_through, pieces_are, pieces_through, runs_are, runs_spread}

-- equal bytes are told equal
pub same_bytes : (a b : List ℕ) → a ≡ b → bytes_eq a b ≡ true
same_bytes a b e = (bytes_eq-Decides a b).1 e

-- bytes that are told equal are
pub told_same : (a b : List ℕ) → bytes_eq a b ≡ true → a ≡ b
told_same a b e = (bytes_eq-Decides a b).0 e

-- ---- numbers

numerals : IsNumeralModel (λ ds. all_ascii_digits ds ≡ true) (digits_value 10)
numerals = numerals_by_value (λ ds. all_ascii_digits ds ≡ true) tells_all_ascii_digits

-- a word that isn't empty
pub word_if : (word : Word) → 0 < length word → is_word word ≡ true
word_if word h = lt-ltb 0 (length word) h

value_holds : (t : Bool) (v n : ℕ) → t ≡ true → v ≡ n → where_holds t v reason.Number ≡ Ok n
value_holds t v n h e = rw (h, e) refl

-- a number is read again
pub number_again : (limit n : ℕ) → n < limit → n < 2 ^ 64 → number_below limit (decimal n) ≡ Ok n
unfolding number_below
number_again limit n small fits =
    let value : digits_value 10 (decimal n) ≡ n = (decimal_is_IsNumeral n fits).1 in
    let test : (is_word (decimal n) && all_ascii_digits (decimal n) && nat_lt (digits_value 10 (decimal n)) limit) ≡ true =
    and_from (is_word (decimal n) && all_ascii_digits (decimal n)) (nat_lt (digits_value 10 (decimal n)) limit)
    (and_from (is_word (decimal n)) (all_ascii_digits (decimal n)) (word_if (decimal n) (decimal_nonempty n fits)) (digits_decimal numerals n fits))
    (lt-ltb (digits_value 10 (decimal n)) limit (rw value small)) in
    value_holds (is_word (decimal n) && all_ascii_digits (decimal n) && nat_lt (digits_value 10 (decimal n)) limit) (digits_value 10 (decimal n)) n test value

-- ---- digits

place_small : (table : List ℕ) (d : ℕ) → list_all is_small table ≡ true → is_small (slice_index table d) ≡ true
place_small [] d h = refl
place_small (c ∷ table) zero h = (and_parts (is_small c) (list_all is_small table) h).0
place_small (c ∷ table) (suc d) h = place_small table d (and_parts (is_small c) (list_all is_small table) h).1

hex_small : (bytes : List ℕ) → list_all is_small (encode_lower bytes) ≡ true
unfolding encode_with
hex_small [] = refl
hex_small (b ∷ bytes) =
    and_from (is_small (slice_index lower_digits (b / 16))) (list_all is_small (slice_index lower_digits (b % 16) ∷ encode_lower bytes)) (place_small lower_digits (b / 16) refl)
    (and_from (is_small (slice_index lower_digits (b % 16))) (list_all is_small (encode_lower bytes)) (place_small lower_digits (b % 16) refl) (hex_small bytes))

-- the digits of bytes aren't empty
pub hex_some : (bytes : List ℕ) → 0 < length bytes → 0 < length (encode_lower bytes)
hex_some bytes h = omega (arith, h, length-encode_with lower_digits bytes)

-- digits are read again
pub digits_again : (bytes : List ℕ) → IsBytes bytes → 0 < length bytes → digits_word (encode_lower bytes) ≡ Ok bytes
unfolding digits_word
digits_again bytes fits some =
    let test : (is_word (encode_lower bytes) && list_all is_small (encode_lower bytes)) ≡ true =
    and_from (is_word (encode_lower bytes)) (list_all is_small (encode_lower bytes)) (word_if (encode_lower bytes) (hex_some bytes some)) (hex_small bytes) in
    rw (test, decode_of-encode_lower bytes fits) refl

-- ---- pieces

single : (b : ℕ) → b < 256 → IsBytes (b ∷ [])
single b h zero = h
single b h (suc k) = omega arith

-- a piece is read again
piece_again : (p : Piece) → IsPiece p → piece_word (piece_text p) ≡ Ok (bytes_in p)
unfolding piece_of
piece_again (Plain bytes) is = rw (parts_one 42 (encode_lower bytes) (hex_lacks 42 star bytes)) (digits_again bytes is.0 is.1)
piece_again (Again b n) is =
    let few : n < 4194305 = is.1 in
    let fits : n < 2 ^ 64 = omega (arith, few) in
    rw (parts_more 42 (encode_lower (b ∷ [])) (decimal n) (hex_lacks 42 star (b ∷ [])), parts_one 42 (decimal n) (decimal_lacks 42 star n fits), digits_again (b ∷ []) (single b is.0) (omega arith), number_again 4194305 n few fits) refl

pieces_again : (ps : List Piece) → ArePieces ps → each piece_word (map piece_text ps) ≡ Ok (bytes_through ps)
unfolding each
pieces_again [] are = refl
pieces_again (p ∷ ps) are = rw (piece_again p are.0, pieces_again ps are.1) refl

-- a byte that stands in no piece
piece_lacks : (c : ℕ) → IsMark c → 42 == c ≡ false → (p : Piece) → IsPiece p → Lacks c (piece_text p)
piece_lacks c mark apart (Plain bytes) is = hex_lacks c mark bytes
piece_lacks c mark apart (Again b n) is =
    let few : n < 4194305 = is.1 in
    let fits : n < 2 ^ 64 = omega (arith, few) in
    lacks_both c (encode_lower (b ∷ [])) (42 ∷ decimal n) (hex_lacks c mark (b ∷ [])) (lacks_cons c 42 (decimal n) apart (decimal_lacks c mark n fits))

pieces_lack : (c : ℕ) → IsMark c → 42 == c ≡ false → (ps : List Piece) → ArePieces ps → AllLack c (map piece_text ps)
pieces_lack c mark apart [] are = tt
pieces_lack c mark apart (p ∷ ps) are = (piece_lacks c mark apart p are.0, pieces_lack c mark apart ps are.1)

-- pieces that were joined are read again
joined_again : (ps : List Piece) → ArePieces ps → 0 < length (bytes_through ps) → bytes_word (join_with_byte 43 (map piece_text ps)) ≡ Ok (bytes_through ps)
unfolding bytes_word
joined_again [] are some = absurd (omega (arith, some))
joined_again (p ∷ ps) are some =
    ap (each piece_word) (parts_joined 43 (piece_text p) (map piece_text ps) (pieces_lack 43 plus refl (p ∷ ps) are)) ∙ pieces_again (p ∷ ps) are

piece_some : (p : Piece) → IsPiece p → 0 < length (piece_text p)
piece_some (Plain bytes) is = hex_some bytes is.1
piece_some (Again b n) is = omega (arith, hex_some (b ∷ []) (omega arith), length-append (encode_lower (b ∷ [])) (42 ∷ decimal n))

joined_some : (ps : List Piece) → ArePieces ps → 0 < length (bytes_through ps) → 0 < length (join_with_byte 43 (map piece_text ps))
joined_some [] are some = absurd (omega (arith, some))
joined_some (p ∷ []) are some = piece_some p are.0
joined_some (p ∷ q ∷ ps) are some =
    let first = piece_some p are.0 in
    omega (arith, first, length-append (piece_text p) (43 ∷ join_with_byte 43 (map piece_text (q ∷ ps))))

through : (bytes : List ℕ) → bytes_through (pieces_of (runs_of bytes)) ≡ bytes
through bytes = pieces_through (runs_of bytes) ∙ runs_spread bytes

-- a word says these bytes
pub record IsShort (word : Word) (bytes : List ℕ) : Type 0 where
  pub again : bytes_word word ≡ Ok bytes
  pub some : 0 < length word
  pub lacks : (c : ℕ) → IsMark c → 42 == c ≡ false → 43 == c ≡ false → Lacks c word

-- the short form says its bytes
pub short_is : (bytes : List ℕ) → IsBytes bytes → 0 < length bytes → IsShort (short bytes) bytes
unfolding short
short_is bytes fits some =
    let are = pieces_are (runs_of bytes) (runs_are 256 bytes (bytes_below bytes fits)) in
    let long : 0 < length (bytes_through (pieces_of (runs_of bytes))) = rw (through bytes) some in
    record {
      again = joined_again (pieces_of (runs_of bytes)) are long ∙ ap Ok (through bytes);
      some = joined_some (pieces_of (runs_of bytes)) are long;
      lacks = λ c mark star plus. lacks_joined c 43 plus (map piece_text (pieces_of (runs_of bytes))) (pieces_lack c mark star (pieces_of (runs_of bytes)) are);
    }

-- ---- bytes of any number

-- a word that has no full stop isn't one
pub no_stop : (word : Word) → Lacks 46 word → bytes_eq word (codes ".") ≡ false
no_stop word lacks = false_from_ne_true (bytes_eq word (codes ".")) (stop word lacks)
  where
    stop : (word : Word) → Lacks 46 word → bytes_eq word (codes ".") ≡ true → ⊥
    stop word lacks told =
        let same : word ≡ 46 ∷ [] = told_same word (codes ".") told in
        let alone = subst (λ (w : List ℕ). Lacks 46 w) same lacks in
        both_ways (46 == 46) (All-head (λ b. b == 46 ≡ false) 46 [] alone) refl

-- a word without `$` calls no block
pub no_call : (word : Word) → Lacks 36 word → is_call word ≡ false
no_call [] lacks = refl
no_call (c ∷ word) lacks = All-head (λ b. b == 36 ≡ false) c word lacks

-- a word says bytes where there may be none
pub record IsBytesWord (word : Word) (bytes : List ℕ) : Type 0 where
  pub again : bytes_of [] (word ∷ []) ≡ Ok bytes
  pub some : 0 < length word
  pub lacks : (c : ℕ) → IsMark c → 42 == c ≡ false → 43 == c ≡ false → 46 == c ≡ false → Lacks c word

of_short : (word : Word) (bytes : List ℕ) → IsShort word bytes → IsBytesWord word bytes
unfolding bytes_of all_of part_word
of_short word bytes is = record {
  again = rw (no_stop word (is.lacks 46 full_stop refl refl), no_call word (is.lacks 36 dollar refl refl), is.again) (ap Ok (append-nil bytes));
  some = is.some;
  lacks = λ c mark star plus stop. is.lacks c mark star plus;
}

-- the short form of any bytes says them
pub bytes_text_is : (bytes : List ℕ) → IsBytes bytes → IsBytesWord (bytes_text bytes) bytes
unfolding bytes_text bytes_of
bytes_text_is [] fits = record {
  again = refl;
  some = omega arith;
  lacks = λ c mark star plus stop. lacks_cons c 46 [] stop (lacks_nil c);
}
bytes_text_is (b ∷ bytes) fits = of_short (short (b ∷ bytes)) (b ∷ bytes) (short_is (b ∷ bytes) fits (omega arith))
