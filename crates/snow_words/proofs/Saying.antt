-- Numbers and bytes that words say, appended to others.
use Rattle.std.proofs.Common.{◌≡◌, ◌≢◌, ℕ, ◌+◌, ◌-◌, ◌*◌, ◌^◌, ◌<◌, ◌≤◌, ◌==◌, ◌&&◌, nat_lt, Bool, true, false, List, [], ◌∷◌, ◌++◌, length, take, drop, replicate, codes, Some, None, Result, Ok, Err, if◌then◌else◌, get_or, refl, sym, ap, ◌∙◌, eq-eqb, append_assoc, append-nil, add-one, drop-cons, drop-drop, length-drop, arith}
use borrow.Rule.Slice.PartMut.{mid_of, post_of, put_mid}
use Rattle.std.proofs.lemmas.List.{take_all}
use Rattle.std.proofs.Math.ListN.{drop_of_length-le}
use Rattle.std.proofs.lemmas.Grind.{common_steps}
use Rattle.std.proofs.lemmas.Bool.{and_parts, lt-ltb}
use Rattle.std.proofs.lemmas.Bool.Decides.{nat_tests}
use Rattle.std.proofs.lemmas.List.{length-append}
use Rattle.std.proofs.lemmas.List.Splits.{length-slice_split}
use Rattle.std.specs.Str.{all_ascii_digits, bytes_eq}
use Rattle.std.specs.Char.{digit_value, is_ascii_digit}
use Rattle.std.specs.Str.Parse.{digits_value, digits_value_after}
use Rattle.byteorder.specs.Endian.{big_bytes}
use Rattle.snow_wire.specs.Model.Spelling.{number}
use Rattle.snow_text_model.specs.declared.refusal.Reason.{Reason}
use Rattle.snow_text_model.specs.declared.refusal.Reason.TheVariants as reason
use Rattle.snow_words.specs.declared.stop.Why.{Why}
use Rattle.snow_words.specs.declared.stop.Why.TheVariants as fault
use Rattle.snow_text_model.specs.Model.Words.{Word, ◌>>=◌, each, parts, where_holds}
use Rattle.snow_text_model.specs.Model.Bytes.{again, bytes_word, digits_word, exactly, fixed_word, number_below, piece_of, piece_word}
use Rattle.snow_words.specs.Clauses.Cutting.{first}
use Rattle.snow_words.specs.Clauses.Making.{Tells, filled, onto, repeated}
use Rattle.snow_words.specs.Clauses.Numbers.{value_after}
use Rattle.snow_text_model.proofs.Pieces.{word_if}
use Rattle.snow_text_model.proofs.Runs.{length_again}
use Rattle.snow_words.proofs.Cutting.{taken_shorter}

-- ---- numbers

number_digit : (c : ℕ) → is_ascii_digit c ≡ true → digit_value c ≡ c - 48
number_digit c h = grind (arith, nat_tests, h)

value_more : (n c : ℕ) (cs : List ℕ) → is_ascii_digit c ≡ true → value_after n (c ∷ cs) ≡ value_after (n * 10 + (c - 48)) cs
unfolding value_after
value_more n c cs h = rw (h, number_digit c h) refl

value_grows : (n : ℕ) (cs : List ℕ) → all_ascii_digits cs ≡ true → n ≤ digits_value_after 10 n cs
value_grows n [] h = omega arith
value_grows n (c ∷ cs) h =
    let both = and_parts (is_ascii_digit c) (all_ascii_digits cs) h in
    let more = value_grows (n * 10 + digit_value c) cs both.1 in
    omega (arith, more)

if_grows : (test : Bool) (n v : ℕ) → 2 ^ 64 ≤ n → (test ≡ true → n ≤ v) → (if test && nat_lt v (2 ^ 64) then Some v else None) ≡ None
if_grows false n v h k = refl
if_grows true n v h k = let le : n ≤ v = k refl in let no : nat_lt v (2 ^ 64) ≡ false = grind (arith, nat_tests, h, le) in rw no refl

value_much : (n : ℕ) (cs : List ℕ) → 2 ^ 64 ≤ n → value_after n cs ≡ None
unfolding value_after
value_much n cs h = if_grows (all_ascii_digits cs) n (digits_value_after 10 n cs) h (value_grows n cs)

-- the digit at i is read
pub value_next : (n : ℕ) (word : List ℕ) (i : ℕ) → i < length word → is_ascii_digit (get_or word i 0) ≡ true
    → value_after n (drop i word) ≡ value_after (n * 10 + (get_or word i 0 - 48)) (drop (i + 1) word)
value_next n word i h d =
    let here : drop i word ≡ get_or word i 0 ∷ drop (i + 1) word = rw add-one (drop-cons word i 0 h) in
    ap (value_after n) here ∙ value_more n (get_or word i 0) (drop (i + 1) word) d

-- what stands at i is no digit
pub value_bad : (n : ℕ) (word : List ℕ) (i : ℕ) → i < length word → is_ascii_digit (get_or word i 0) ≡ false → value_after n (drop i word) ≡ None
unfolding value_after
value_bad n word i h d =
    let here : drop i word ≡ get_or word i 0 ∷ drop (i + 1) word = rw add-one (drop-cons word i 0 h) in
    rw (here, d) refl

-- the number gets too large at i
pub value_over : (n : ℕ) (word : List ℕ) (i : ℕ) → i < length word → is_ascii_digit (get_or word i 0) ≡ true → 2 ^ 64 ≤ n * 10 + (get_or word i 0 - 48)
    → value_after n (drop i word) ≡ None
value_over n word i h d k = value_next n word i h d ∙ value_much (n * 10 + (get_or word i 0 - 48)) (drop (i + 1) word) k

-- no digit is left
pub value_done : (n : ℕ) (word : List ℕ) (i : ℕ) → length word ≤ i → n < 2 ^ 64 → value_after n (drop i word) ≡ Some n
unfolding value_after
value_done n word i h k =
    let none : drop i word ≡ [] = drop_of_length-le word h in
    let small : nat_lt n (2 ^ 64) ≡ true = lt-ltb n (2 ^ 64) k in
    rw (none, small) refl

below_if : (test : Bool) (v limit n : ℕ) → limit ≤ 2 ^ 64 → (if test && nat_lt v (2 ^ 64) then Some v else None) ≡ Some n → n < limit
    → where_holds (test && nat_lt v limit) v reason.Number ≡ Ok n
below_if false v limit n l h k = cc h
below_if true v limit n l h k = grind (arith, nat_tests, l, h, k)

large_if : (test : Bool) (v limit n : ℕ) → limit ≤ 2 ^ 64 → (if test && nat_lt v (2 ^ 64) then Some v else None) ≡ Some n → limit ≤ n
    → where_holds (test && nat_lt v limit) v reason.Number ≡ Err reason.Number
large_if false v limit n l h k = refl
large_if true v limit n l h k = grind (arith, nat_tests, l, h, k)

none_if : (test : Bool) (v limit : ℕ) → limit ≤ 2 ^ 64 → (if test && nat_lt v (2 ^ 64) then Some v else None) ≡ None
    → where_holds (test && nat_lt v limit) v reason.Number ≡ Err reason.Number
none_if false v limit l h = refl
none_if true v limit l h = grind (arith, nat_tests, l, h)

-- a number that was read is below the limit
pub below_some : (limit : ℕ) (word : List ℕ) (n : ℕ) → limit ≤ 2 ^ 64 → 0 < length word → value_after 0 word ≡ Some n → n < limit → number_below limit word ≡ Ok n
unfolding number_below value_after
below_some limit word n l some h k = rw (word_if word some) (below_if (all_ascii_digits word) (digits_value 10 word) limit n l h k)

-- or it isn't
pub below_large : (most : ℕ) (word : List ℕ) (n : ℕ) → most < 2 ^ 64 → 0 < length word → value_after 0 word ≡ Some n → most < n → number_below (most + 1) word ≡ Err reason.Number
unfolding number_below value_after
below_large most word n l some h k = rw (word_if word some) (large_if (all_ascii_digits word) (digits_value 10 word) (most + 1) n (omega arith) h (omega arith))

-- or none was read
pub below_none : (limit : ℕ) (word : List ℕ) → limit ≤ 2 ^ 64 → 0 < length word → value_after 0 word ≡ None → number_below limit word ≡ Err reason.Number
unfolding number_below value_after
below_none limit word l some h = rw (word_if word some) (none_if (all_ascii_digits word) (digits_value 10 word) limit l h)

-- no number has no digit
pub below_empty : (limit : ℕ) (word : List ℕ) → length word ≡ 0 → number_below limit word ≡ Err reason.Number
unfolding number_below
below_empty limit [] h = refl
below_empty limit (c ∷ cs) h = absurd (omega (arith, h))

-- the bytes of a number
pub number_is : (n x : ℕ) → number n x ≡ big_bytes n x
unfolding number
number_is n x = refl

-- a number that is written over bytes
pub written_at : (at n : ℕ) (bytes word : List ℕ) → at ≤ length bytes
    → put_mid at (length bytes - at) bytes (word ++ drop n (mid_of at (length bytes - at) bytes)) ≡ take at bytes ++ word ++ drop (at + n) bytes
written_at at n bytes word h =
    let whole : mid_of at (length bytes - at) bytes ≡ drop at bytes = take_all (length bytes - at) (drop at bytes) (omega (arith, length-drop at bytes)) in
    let none : post_of at (length bytes - at) bytes ≡ [] = drop_of_length-le (drop at bytes) (omega (arith, length-drop at bytes)) in
    let behind : drop n (mid_of at (length bytes - at) bytes) ≡ drop (at + n) bytes = ap (drop n) whole ∙ drop-drop n at bytes in
    ap (λ l. take at bytes ++ l) (ap (λ l. (word ++ drop n (mid_of at (length bytes - at) bytes)) ++ l) none ∙ append-nil (word ++ drop n (mid_of at (length bytes - at) bytes)) ∙ ap (λ l. word ++ l) behind)
    ∙ sym (append_assoc (take at bytes) word (drop (at + n) bytes))

-- ---- bytes behind others

-- a piece without a star
pub piece_plain : (word : List ℕ) → parts 42 word ≡ word ∷ [] → piece_word word ≡ digits_word word
unfolding piece_of
piece_plain word h = rw h refl

pub some_parts : (c : ℕ) (text : List ℕ) → 0 < length (parts c text)
some_parts c text = omega (arith, length-slice_split (λ b. b == c) text)

get_behind : (old : List ℕ) (b : ℕ) → get_or (old ++ b ∷ []) (length old) 0 ≡ b
get_behind [] b = refl
get_behind (x ∷ old) b = get_behind old b

pub take_front : (old more : List ℕ) → take (length old) (old ++ more) ≡ old
take_front old more = grind (arith, common_steps)

-- pieces with one star, and with more
pub piece_two : (digits times : List ℕ) → parts 42 times ≡ times ∷ [] → piece_of (digits ∷ parts 42 times) ≡ repeated (digits_word digits) (number_below 4194305 times)
unfolding piece_of
piece_two digits times h = rw h refl

many : (a b : Word) (ps : List Word) → 0 < length ps → piece_of (a ∷ b ∷ ps) ≡ Err reason.Digits
unfolding piece_of
many a b [] h = absurd (omega (arith, h))
many a b (p ∷ ps) h = refl

pub piece_many : (digits times front rest : List ℕ) → parts 42 times ≡ front ∷ parts 42 rest → piece_of (digits ∷ parts 42 times) ≡ Err reason.Digits
unfolding piece_of
piece_many digits times front rest h = rw h (many digits front (parts 42 rest) (some_parts 42 rest))

-- what was told makes longer
pub onto_longer : {E : Type 0} (old new : List ℕ) (told : Result (List ℕ) E) → onto old told ≡ Ok new → length old ≤ length new
onto_longer old new (Ok bytes) h = let e : old ++ bytes ≡ new = cc in omega (arith, length-append old bytes, ap length e)
onto_longer old new (Err e) h = cc h

again_one : (old told : List ℕ) (n : ℕ) → length told ≡ 1 → onto old (again told n) ≡ Ok (take (length old) (old ++ told) ++ replicate n (get_or (old ++ told) (length old) 0))
again_one old [] n h = absurd (omega (arith, h))
again_one old (b ∷ []) n h = rw (take_front old (b ∷ []), get_behind old b) refl
again_one old (b ∷ c ∷ told) n h = absurd (omega (arith, h))

again_not : (old told : List ℕ) (n : ℕ) → length told ≢ 1 → onto old (again told n) ≡ Err reason.Digits
again_not old [] n h = refl
again_not old (b ∷ []) n h = absurd (h refl)
again_not old (b ∷ c ∷ told) n h = refl

pub repeated_one : (old new : List ℕ) (told : Result (List ℕ) Reason) (times : Result ℕ Reason) (n : ℕ) → onto old told ≡ Ok new → times ≡ Ok n → length new ≡ length old + 1
    → onto old (repeated told times) ≡ Ok (take (length old) new ++ replicate n (get_or new (length old) 0))
repeated_one old new (Ok told) times n h e k =
    let same : old ++ told ≡ new = cc in
    rw (e, ← same) (again_one old told n (omega (arith, length-append old told, ap length same, k)))
repeated_one old new (Err why) times n h e k = cc h

pub repeated_not : (old new : List ℕ) (told : Result (List ℕ) Reason) (times : Result ℕ Reason) (n : ℕ) → onto old told ≡ Ok new → times ≡ Ok n → length new ≢ length old + 1
    → onto old (repeated told times) ≡ Err reason.Digits
repeated_not old new (Ok told) times n h e k =
    let same : old ++ told ≡ new = cc in
    rw e (again_not old told n (λ f. k (sym (ap length same) ∙ length-append old told ∙ ap (λ m. length old + m) f)))
repeated_not old new (Err why) times n h e k = cc h

pub repeated_uncounted : (old new : List ℕ) (told : Result (List ℕ) Reason) (times : Result ℕ Reason) (why : Reason) → onto old told ≡ Ok new → times ≡ Err why
    → onto old (repeated told times) ≡ Err why
repeated_uncounted old new (Ok told) times why h e = rw e refl
repeated_uncounted old new (Err other) times why h e = cc h

pub repeated_bad : (old : List ℕ) (told : Result (List ℕ) Reason) (times : Result ℕ Reason) (why : Reason) → onto old told ≡ Err why → onto old (repeated told times) ≡ Err why
repeated_bad old (Ok told) times why h = cc h
repeated_bad old (Err other) times why h = h

-- what a byte that is said again and again wants
pub ruleset repeating = (repeated_one, repeated_not, repeated_uncounted, repeated_bad)

-- ---- each part

onto_both : (old a : List ℕ) (rest : Result (List ℕ) Reason) → onto old (rest >>= (λ xs. Ok (a ++ xs))) ≡ onto (old ++ a) rest
onto_both old a (Ok xs) = ap Ok (sym (append_assoc old a xs))
onto_both old a (Err why) = refl

each_told : (old new : List ℕ) (told rest : Result (List ℕ) Reason) → onto old told ≡ Ok new → onto old (told >>= (λ x. rest >>= (λ xs. Ok (x ++ xs)))) ≡ onto new rest
each_told old new (Ok a) rest h = let same : old ++ a ≡ new = cc in onto_both old a rest ∙ ap (λ l. onto l rest) same
each_told old new (Err why) rest h = cc h

each_not : (old : List ℕ) (told rest : Result (List ℕ) Reason) (why : Reason) → onto old told ≡ Err why → onto old (told >>= (λ x. rest >>= (λ xs. Ok (x ++ xs)))) ≡ Err why
each_not old (Ok a) rest why h = cc h
each_not old (Err e) rest why h = h

module _ (of : Word → Result (List ℕ) Reason) where
  -- the first part was told
  pub each_next : (old new : List ℕ) (ps : List Word) (p : Word) → Some p ≡ first ps → onto old (of p) ≡ Ok new → onto old (each of ps) ≡ onto new (each of (drop 1 ps))
  unfolding each
  each_next old new [] p f h = cc f
  each_next old new (q ∷ ps) p f h = let same : q ≡ p = cc in each_told old new (of q) (each of ps) (ap (λ w. onto old (of w)) same ∙ h)

  -- it tells nothing
  pub each_stop : (old : List ℕ) (ps : List Word) (p : Word) (why : Reason) → Some p ≡ first ps → onto old (of p) ≡ Err why → onto old (each of ps) ≡ Err why
  unfolding each
  each_stop old [] p why f h = cc f
  each_stop old (q ∷ ps) p why f h = let same : q ≡ p = cc in each_not old (of q) (each of ps) why (ap (λ w. onto old (of w)) same ∙ h)

  -- none is left
  pub each_done : (old : List ℕ) (ps : List Word) → None ≡ first ps → onto old (each of ps) ≡ Ok old
  unfolding each
  each_done old [] f = ap Ok (append-nil old)
  each_done old (q ∷ ps) f = cc f

-- the same of pieces
pub piece_next : (old new : List ℕ) (ps : List Word) (p : Word) → Some p ≡ first ps → onto old (piece_word p) ≡ Ok new → onto old (each piece_word ps) ≡ onto new (each piece_word (drop 1 ps))
piece_next = each_next piece_word

pub piece_stop : (old : List ℕ) (ps : List Word) (p : Word) (why : Reason) → Some p ≡ first ps → onto old (piece_word p) ≡ Err why → onto old (each piece_word ps) ≡ Err why
piece_stop = each_stop piece_word

pub piece_done : (old : List ℕ) (ps : List Word) → None ≡ first ps → onto old (each piece_word ps) ≡ Ok old
piece_done = each_done piece_word

-- a piece stopped, and so do all
pub piece_failed : (old : List ℕ) (ps : List Word) (p : Word) (now later : List ℕ) (all : Result (List ℕ) Reason) (told : Result (Unit {0}) Why) (e : Why) → Some p ≡ first ps
    → Tells told now (onto old (piece_word p)) → told ≡ Err e → onto old (each piece_word ps) ≡ all → Tells (Err e) later all
piece_failed old ps p now later all (Ok u) e f h k g = cc k
piece_failed old ps p now later all (Err fault.Memory) fault.Memory f h k g = tt
piece_failed old ps p now later all (Err fault.Memory) (fault.Not r) f h k g = cc k
piece_failed old ps p now later all (Err (fault.Not reason)) fault.Memory f h k g = cc k
piece_failed old ps p now later all (Err (fault.Not reason)) (fault.Not r) f h k g =
    let same : reason ≡ r = cc in sym g ∙ piece_stop old ps p reason f h ∙ ap Err same

-- what going through pieces wants
pub ruleset eaching = (piece_next, piece_done, taken_shorter)

-- ---- so many bytes

exact_if : (size : ℕ) (old bytes : List ℕ) → length bytes ≡ size → onto old (exactly size bytes) ≡ Ok (old ++ bytes)
exact_if size old bytes h = rw (eq-eqb (length bytes) size h) refl

exact_not : (size : ℕ) (old bytes : List ℕ) → length bytes ≢ size → onto old (exactly size bytes) ≡ Err reason.Size
exact_not size old bytes h = let no : length bytes == size ≡ false = grind (arith, nat_tests, h) in rw no refl

length_zeros : (n : ℕ) → length {A = ℕ} (replicate n 0) ≡ n
length_zeros n = length_again n 0

pub filled_up : (size : ℕ) (old new : List ℕ) (told : Result (List ℕ) Reason) → onto old told ≡ Ok new → length new - length old ≤ size
    → onto old (filled size told) ≡ Ok (new ++ replicate (size - (length new - length old)) 0)
filled_up size old new (Ok bytes) h k =
    let same : old ++ bytes ≡ new = cc in
    let long : length new - length old ≡ length bytes = omega (arith, length-append old bytes, ap length same) in
    let whole : length (bytes ++ replicate (size - length bytes) 0) ≡ size = length-append bytes (replicate (size - length bytes) 0) ∙ omega (arith, length_zeros (size - length bytes), long, k) in
    exact_if size old (bytes ++ replicate (size - length bytes) 0) whole
    ∙ ap Ok (sym (append_assoc old bytes (replicate (size - length bytes) 0)) ∙ rw (same, long) refl)
filled_up size old new (Err why) h k = cc h

pub filled_over : (size : ℕ) (old new : List ℕ) (told : Result (List ℕ) Reason) → onto old told ≡ Ok new → size < length new - length old → onto old (filled size told) ≡ Err reason.Size
filled_over size old new (Ok bytes) h k =
    let same : old ++ bytes ≡ new = cc in
    exact_not size old (bytes ++ replicate (size - length bytes) 0)
    (λ e. omega (arith, e, length-append bytes (replicate (size - length bytes) 0), length-append old bytes, ap length same, k))
filled_over size old new (Err why) h k = cc h

pub filled_bad : (size : ℕ) (old : List ℕ) (told : Result (List ℕ) Reason) (why : Reason) → onto old told ≡ Err why → onto old (filled size told) ≡ Err why
filled_bad size old (Ok bytes) why h = cc h
filled_bad size old (Err e) why h = h

pub exactly_so : (size : ℕ) (old new : List ℕ) (told : Result (List ℕ) Reason) → onto old told ≡ Ok new → length new - length old ≡ size → onto old (told >>= exactly size) ≡ Ok new
exactly_so size old new (Ok bytes) h k =
    let same : old ++ bytes ≡ new = cc in exact_if size old bytes (omega (arith, length-append old bytes, ap length same, k)) ∙ ap Ok same
exactly_so size old new (Err why) h k = cc h

pub exactly_not : (size : ℕ) (old new : List ℕ) (told : Result (List ℕ) Reason) → onto old told ≡ Ok new → length new - length old ≢ size → onto old (told >>= exactly size) ≡ Err reason.Size
exactly_not size old new (Ok bytes) h k =
    let same : old ++ bytes ≡ new = cc in exact_not size old bytes (λ e. k (omega (arith, length-append old bytes, ap length same, e)))
exactly_not size old new (Err why) h k = cc h

pub exactly_bad : (size : ℕ) (old : List ℕ) (told : Result (List ℕ) Reason) (why : Reason) → onto old told ≡ Err why → onto old (told >>= exactly size) ≡ Err why
exactly_bad size old (Ok bytes) why h = cc h
exactly_bad size old (Err e) why h = h

-- what a word of so many bytes wants
pub ruleset sizing = (onto_longer, filled_up, filled_over, filled_bad, exactly_so, exactly_not, exactly_bad)

-- a word that is open, and one that isn't
pub fixed_open : (size : ℕ) (word : List ℕ) → bytes_eq (drop (length word - 2) word) (codes "..") ≡ true → fixed_word size word ≡ filled size (bytes_word (take (length word - 2) word))
unfolding fixed_word
fixed_open size word h = rw h refl

pub fixed_closed : (size : ℕ) (word : List ℕ) → bytes_eq (drop (length word - 2) word) (codes "..") ≡ false → fixed_word size word ≡ (bytes_word word >>= exactly size)
unfolding fixed_word
fixed_closed size word h = rw h refl
