-- Words that are read as what they spell: numbers, bytes, blocks, draws.
use Rattle.std.proofs.Common.{◌≡◌, ℕ, zero, suc, ◌/◌, ◌%◌, ◌^◌, ◌<◌, ◌≤◌, ◌==◌, ◌&&◌, Bool, true, false, not, if◌then◌else◌, nat_lt, nat_le, List, [], ◌∷◌, ◌++◌, All, length, take, drop, slice_index, codes, decimal, Option, Some, None, Result, Ok, Err, refl, sym, ap, ◌∙◌, subst, append_assoc, arith}
use Rattle.std.specs.List.{list_all}
use Rattle.std.specs.Str.{bytes_eq}
use Rattle.std.specs.Str.Parse.{AllDigits}
use Rattle.std.proofs.lemmas.Bool.{and_parts, lt-ltb, ltb-true, le-ltb, le-leb, leb-true, ne_eqb}
use Rattle.std.proofs.Math.Seq.{take-append_seam, drop-append_seam}
use Rattle.std.proofs.lemmas.List.{length-append}
use Rattle.std.proofs.lemmas.Fmt.{decimal_is_IsNumeral, digits_value-decimal}
use Rattle.std.proofs.lemmas.List.Elements.{All-nil, All-cons, All-append}
use Rattle.std.proofs.lemmas.Slice.Eq.{bytes_eq-Decides}
use Rattle.std.proofs.lemmas.Str.Parse.{IsNumeralModel, numerals_by_fold, tells_digits, digit_from_value}
use Rattle.hex.specs.Hex.{IsBytes, encode_lower, encode_with, decode_of, decode_sized, lower_digits}
use Rattle.hex.specs.declared.error.FromHexError.{FromHexError}
use Rattle.hex.proofs.HexLemmas.{decode_of-ok, decode_of-encode_lower, decode_sized-ok, decode_sized-twice, decode_sized-encode_lower, length-encode_with}
use Rattle.snow_reading.specs.Clauses.Range.{AreBytes, IsDraw}
use Rattle.snow_reading.specs.Model.Reading.{if_digits, if_written, if_draw, number_of, bytes_of, block_of, draw_of, value_after, ◌>>=◌}
use Rattle.snow_lines.specs.Model.Text.{Draw, block_word, draw_word}

-- no byte is a space
abbrev pub NoSpace : List ℕ → Type 0
NoSpace word = All (λ b. b == 32 ≡ false) word

-- a word is read as x exactly where x spells it
pub record IsField {A : Type 0} (of : List ℕ → Option A) (spell : A → List ℕ) (Good : A → Type 0) : Type 0 where
  pub found : (word : List ℕ) (x : A) → of word ≡ Some x → (spell x ≡ word) × Good x
  pub only : (x : A) → Good x → of (spell x) ≡ Some x
  pub whole : (x : A) → Good x → NoSpace (spell x)

-- what an answer under a condition shows
pub if_shows : {A : Type 0} (b : Bool) (x y : A) → (if b then Some x else None) ≡ Some y → (b ≡ true) × (x ≡ y)
if_shows true x y h = (refl, cc h)
if_shows false x y h = cc h

-- a condition that holds
pub if_holds : {A : Type 0} (b : Bool) (x : A) → b ≡ true → (if b then Some x else None) ≡ Some x
if_holds true x h = refl
if_holds false x h = cc h

-- two conditions that hold
pub both_hold : (a b : Bool) → a ≡ true → b ≡ true → a && b ≡ true
both_hold a b p q = rw (p, q) refl

-- equal bytes are told equal
pub same_bytes : (a b : List ℕ) → a ≡ b → bytes_eq a b ≡ true
same_bytes a b e = (bytes_eq-Decides a b).1 e

-- bytes that are told equal are
pub told_same : (a b : List ℕ) → bytes_eq a b ≡ true → a ≡ b
told_same a b e = (bytes_eq-Decides a b).0 e

-- a word that a test passes has no space
pub no_space_from : (word : List ℕ) → list_all (λ b. not (b == 32)) word ≡ true → NoSpace word
no_space_from [] h = All-nil (λ b. b == 32 ≡ false)
no_space_from (c ∷ cs) h =
    let parts = and_parts (not (c == 32)) (list_all (λ b. not (b == 32)) cs) h in
    All-cons (λ b. b == 32 ≡ false) c cs (flipped (c == 32) parts.0) (no_space_from cs parts.1)
  where
    flipped : (b : Bool) → not b ≡ true → b ≡ false
    flipped true e = sym e
    flipped false e = refl

-- ---- numbers

-- digits are no spaces
digits_no_space : (ds : List ℕ) → AllDigits 10 ds → NoSpace ds
digits_no_space [] h = All-nil (λ b. b == 32 ≡ false)
digits_no_space (c ∷ cs) h =
    All-cons (λ b. b == 32 ≡ false) c cs (ne_eqb c 32 (λ e. let range = digit_from_value c h.0 in omega (arith, range, e))) (digits_no_space cs h.1)

-- the number that digits write
value_model : IsNumeralModel (AllDigits 10) (value_after 0)
value_model = numerals_by_fold (AllDigits 10) tells_digits value_after (record { empty = λ n. refl; more = λ n c cs k. refl })

-- numbers below the limit
pub number_field : (limit : ℕ) → limit ≤ 2 ^ 64 → IsField (number_of limit) decimal (λ n. n < limit)
unfolding number_of
number_field limit fits = record {
  found = λ word n h.
      let m = value_after 0 word in
      let shown = if_shows (nat_lt m limit && bytes_eq (decimal m) word) m n h in
      let parts = and_parts (nat_lt m limit) (bytes_eq (decimal m) word) shown.0 in
      (ap decimal (sym shown.1) ∙ told_same (decimal m) word parts.1, subst (λ (k : ℕ). k < limit) shown.1 (ltb-true m limit parts.0));
  only = λ n h.
      let small : n < 2 ^ 64 = omega (arith, h, fits) in
      let same : value_after 0 (decimal n) ≡ n = digits_value-decimal value_model n small in
      ap (if_written limit (decimal n)) same
      ∙ if_holds (nat_lt n limit && bytes_eq (decimal n) (decimal n)) n (both_hold (nat_lt n limit) (bytes_eq (decimal n) (decimal n)) (lt-ltb n limit h) (same_bytes (decimal n) (decimal n) refl));
  whole = λ n h. let small : n < 2 ^ 64 = omega (arith, h, fits) in digits_no_space (decimal n) (decimal_is_IsNumeral n small).0.1;
}

-- ---- bytes

-- a place of a table without spaces holds none
place_no_space : (table : List ℕ) (d : ℕ) → list_all (λ b. not (b == 32)) table ≡ true → slice_index table d == 32 ≡ false
place_no_space [] d h = refl
place_no_space (c ∷ table) zero h =
    let parts = and_parts (not (c == 32)) (list_all (λ b. not (b == 32)) table) h in flipped (c == 32) parts.0
  where
    flipped : (b : Bool) → not b ≡ true → b ≡ false
    flipped true e = sym e
    flipped false e = refl
place_no_space (c ∷ table) (suc d) h =
    let parts = and_parts (not (c == 32)) (list_all (λ b. not (b == 32)) table) h in place_no_space table d parts.1

-- hexadecimal digits are no spaces
pub hex_no_space : (bytes : List ℕ) → NoSpace (encode_lower bytes)
unfolding encode_with
hex_no_space [] = All-nil (λ b. b == 32 ≡ false)
hex_no_space (b ∷ bytes) =
    All-cons (λ c. c == 32 ≡ false) (slice_index lower_digits (b / 16)) (slice_index lower_digits (b % 16) ∷ encode_lower bytes) (place_no_space lower_digits (b / 16) refl)
    (All-cons (λ c. c == 32 ≡ false) (slice_index lower_digits (b % 16)) (encode_lower bytes) (place_no_space lower_digits (b % 16) refl) (hex_no_space bytes))

-- what bytes that were read show
digits_shown : (word : List ℕ) (r : Result (List ℕ) FromHexError) (bytes : List ℕ) → if_digits word r ≡ Some bytes → (r ≡ Ok bytes) × (encode_lower bytes ≡ word)
digits_shown word (Ok made) bytes h =
    let shown = if_shows (bytes_eq (encode_lower made) word) made bytes h in
    (ap Ok shown.1, ap encode_lower (sym shown.1) ∙ told_same (encode_lower made) word shown.0)
digits_shown word (Err e) bytes h = cc h

-- so many bytes
pub bytes_field : (n : ℕ) → IsField (bytes_of n) encode_lower (AreBytes n)
unfolding bytes_of
bytes_field n = record {
  found = λ word bytes h.
      let shown = digits_shown word (decode_sized word n) bytes h in
      let twice = decode_sized-ok word n bytes shown.0 in
      let made = decode_of-ok word bytes (sym (decode_sized-twice word n twice) ∙ shown.0) in
      (shown.1, (omega (arith, twice, made.2), made.3));
  only = λ bytes h.
      ap (if_digits (encode_lower bytes)) (decode_sized-encode_lower bytes n h.0 h.1)
      ∙ if_holds (bytes_eq (encode_lower bytes) (encode_lower bytes)) bytes (same_bytes (encode_lower bytes) (encode_lower bytes) refl);
  whole = λ bytes h. hex_no_space bytes;
}

-- a block's word isn't empty
block_word_some : (bytes : List ℕ) → length (block_word bytes) == 0 ≡ false
unfolding encode_with
block_word_some [] = refl
block_word_some (b ∷ bytes) = ne_eqb _ 0 (λ e. omega (arith, e))

-- the digits of bytes that are there are a block's word
block_word_digits : (bytes : List ℕ) → length (encode_lower bytes) == 0 ≡ false → block_word bytes ≡ encode_lower bytes
unfolding encode_with
block_word_digits [] h = cc h
block_word_digits (b ∷ bytes) h = refl

-- a full stop is no digits
no_stop : (b : ℕ) (bytes : List ℕ) → bytes_eq (encode_lower (b ∷ bytes)) (codes ".") ≡ false
unfolding encode_with
no_stop b bytes = by (slice_index lower_digits (b / 16) == 46)
  where
    by : (t : Bool) → t && false ≡ false
    by true = refl
    by false = refl

-- a word that is there and no full stop
unstopped : (p q : Bool) (x : Option (List ℕ)) → p ≡ false → q ≡ false → (if p then None else if q then Some [] else x) ≡ x
unstopped p q x a b = rw (a, b) refl

-- blocks
pub block_field : IsField block_of block_word IsBytes
unfolding block_of
block_field = record {
  found = shown;
  only = again;
  whole = no_space;
}
  where
    shown : (word bytes : List ℕ) → block_of word ≡ Some bytes → (block_word bytes ≡ word) × IsBytes bytes
    shown word bytes h = by (length word == 0) (bytes_eq word (codes ".")) refl refl h
      where
        by : (p q : Bool) → length word == 0 ≡ p → bytes_eq word (codes ".") ≡ q
            → (if p then None else if q then Some [] else if_digits word (decode_of word)) ≡ Some bytes → (block_word bytes ≡ word) × IsBytes bytes
        by true q a b h = cc h
        by false true a b h =
            let none : [] ≡ bytes = cc in
            (ap block_word (sym none) ∙ sym (told_same word (codes ".") b), subst IsBytes none (λ i. omega arith))
        by false false a b h =
            let digits = digits_shown word (decode_of word) bytes h in
            (block_word_digits bytes (ap (λ (w : List ℕ). length w == 0) digits.1 ∙ a) ∙ digits.1, (decode_of-ok word bytes digits.0).3)

    again : (bytes : List ℕ) → IsBytes bytes → block_of (block_word bytes) ≡ Some bytes
    again [] h = refl
    again (b ∷ bytes) h =
        let word = encode_lower (b ∷ bytes) in
        unstopped (length word == 0) (bytes_eq word (codes ".")) (if_digits word (decode_of word)) (block_word_some (b ∷ bytes)) (no_stop b bytes)
        ∙ ap (if_digits word) (decode_of-encode_lower (b ∷ bytes) h)
        ∙ if_holds (bytes_eq word word) (b ∷ bytes) (same_bytes word word refl)

    no_space : (bytes : List ℕ) → IsBytes bytes → NoSpace (block_word bytes)
    no_space [] h = no_space_from (codes ".") refl
    no_space (b ∷ bytes) h = hex_no_space (b ∷ bytes)

-- ---- draws

-- what is read of two parts shows both
pub bind_shows : {A B : Type 0} (r : Option A) (f : A → Option B) (y : B) → (r >>= f) ≡ Some y → (x : A) × (r ≡ Some x) × (f x ≡ Some y)
bind_shows (Some x) f y h = (x, refl, h)
bind_shows None f y h = cc h

-- a list's front of its length
take_front : (n : ℕ) (xs ys : List ℕ) → length xs ≡ n → take n (xs ++ ys) ≡ xs
take_front n xs ys h = subst (λ (k : ℕ). take k (xs ++ ys) ≡ xs) h (take-append_seam xs ys)

-- what is behind a list's length
drop_front : (n : ℕ) (xs ys : List ℕ) → length xs ≡ n → drop n (xs ++ ys) ≡ ys
drop_front n xs ys h = subst (λ (k : ℕ). drop k (xs ++ ys) ≡ ys) h (drop-append_seam xs ys)

-- a draw's word begins with its node
front_of_draw : (d : Draw) → length d.node ≡ 20 → take 40 (draw_word d) ≡ encode_lower d.node
front_of_draw d h =
    let len = length-encode_with lower_digits d.node in
    ap (take 40) (append_assoc (encode_lower d.node) (codes "*") (decimal d.count))
    ∙ take_front 40 (encode_lower d.node) (codes "*" ++ decimal d.count) (omega (arith, len, h))

-- a draw's word up to its count
length_behind : (d : Draw) → length d.node ≡ 20 → length (encode_lower d.node ++ codes "*") ≡ 41
length_behind d h =
    let len = length-encode_with lower_digits d.node in
    omega (arith, length-append (encode_lower d.node) (codes "*"), len, h)

-- a draw's word ends with its count
behind_draw : (d : Draw) → length d.node ≡ 20 → drop 41 (draw_word d) ≡ decimal d.count
behind_draw d h = drop_front 41 (encode_lower d.node ++ codes "*") (decimal d.count) (length_behind d h)

-- a condition that doesn't hold
unless : {A : Type 0} (p : Bool) (x : Option A) → p ≡ false → (if p then None else x) ≡ x
unless p x a = rw a refl

-- draws
pub draw_field : IsField draw_of draw_word IsDraw
unfolding draw_of
draw_field = record { found = shown; only = again; whole = no_space }
  where
    shown : (word : List ℕ) (d : Draw) → draw_of word ≡ Some d → (draw_word d ≡ word) × IsDraw d
    shown word d h = by (nat_lt (length word) 41) h
      where
        read : Option Draw
        read = bytes_of 20 (take 40 word) >>= (λ node. number_of (2 ^ 32) (drop 41 word) >>= (λ count. if_draw word (record { node = node; count = count })))

        by : (p : Bool) → (if p then None else read) ≡ Some d → (draw_word d ≡ word) × IsDraw d
        by true h = cc h
        by false h =
            let node = bind_shows (bytes_of 20 (take 40 word)) _ d h in
            let count = bind_shows (number_of (2 ^ 32) (drop 41 word)) _ d node.2 in
            let made : Draw = record { node = node.0; count = count.0 } in
            let parts = if_shows (nat_le 1 made.count && bytes_eq (draw_word made) word) made d count.2 in
            let both = and_parts (nat_le 1 made.count) (bytes_eq (draw_word made) word) parts.0 in
            let whose = (bytes_field 20).found (take 40 word) node.0 node.1 in
            let often = (number_field (2 ^ 32) (omega arith)).found (drop 41 word) count.0 count.1 in
            let good : IsDraw made = (whose.1, leb-true 1 made.count both.0, often.1) in
            (ap draw_word (sym parts.1) ∙ told_same (draw_word made) word both.1, subst IsDraw parts.1 good)

    again : (d : Draw) → IsDraw d → draw_of (draw_word d) ≡ Some d
    again d h =
        let word = draw_word d in
        let behind : List ℕ → ℕ → Option Draw = λ node count. if_draw word (record { node = node; count = count }) in
        let long : 41 ≤ length word = omega (arith, length-append (encode_lower d.node ++ codes "*") (decimal d.count), length_behind d h.0.0) in
        unless (nat_lt (length word) 41) (bytes_of 20 (take 40 word) >>= (λ node. number_of (2 ^ 32) (drop 41 word) >>= behind node)) (le-ltb (length word) 41 long)
        ∙ ap (λ (r : Option (List ℕ)). r >>= (λ node. number_of (2 ^ 32) (drop 41 word) >>= behind node)) (ap (bytes_of 20) (front_of_draw d h.0.0) ∙ (bytes_field 20).only d.node h.0)
        ∙ ap (λ (r : Option ℕ). r >>= behind d.node) (ap (number_of (2 ^ 32)) (behind_draw d h.0.0) ∙ (number_field (2 ^ 32) (omega arith)).only d.count h.2)
        ∙ if_holds (nat_le 1 d.count && bytes_eq word word) d (both_hold (nat_le 1 d.count) (bytes_eq word word) (le-leb 1 d.count h.1) (same_bytes word word refl))

    no_space : (d : Draw) → IsDraw d → NoSpace (draw_word d)
    no_space d h =
        All-append (λ b. b == 32 ≡ false) (encode_lower d.node ++ codes "*") (decimal d.count)
        (All-append (λ b. b == 32 ≡ false) (encode_lower d.node) (codes "*") (hex_no_space d.node) (no_space_from (codes "*") refl))
        ((number_field (2 ^ 32) (omega arith)).whole d.count h.2)
