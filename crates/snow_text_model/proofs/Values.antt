-- Words that say a value: numbers, and bytes whose number is known.
use Rattle.std.proofs.Common.{◌≡◌, ℕ, zero, suc, ◌+◌, ◌-◌, ◌*◌, ◌<◌, ◌^◌, ◌==◌, if◌then◌else◌, Bool, true, false, List, [], ◌∷◌, ◌++◌, length, take, drop, replicate, codes, decimal, Result, Ok, refl, sym, ap, ◌∙◌, subst, arith}
use Rattle.std.proofs.Math.Seq.{take-append_seam, drop-append_seam}
use Rattle.std.proofs.lemmas.Bool.{eq-eqb, eqb-true, false_from_ne_true, both_ways}
use Rattle.std.proofs.lemmas.Fmt.{decimal_nonempty}
use Rattle.std.proofs.lemmas.List.{length-append, take-append-drop}
use Rattle.std.proofs.lemmas.List.Elements.{All-head, All-tail}
use Rattle.snow_wire.specs.Model.Reading.{IsBytes}
use Rattle.snow_wire.specs.Model.Spelling.{number}
use Rattle.snow_text_model.specs.declared.refusal.Reason.{Reason}
use Rattle.snow_text_model.specs.Model.Words.{Word, ◌>>=◌}
use Rattle.snow_text_model.specs.Model.Names.{is_call}
use Rattle.snow_text_model.specs.Model.Bytes.{exactly, fixed_text, fixed_word, is_open, item_word, kept, number_below, number_word, short, some_of, trimmed}
use Rattle.snow_text_model.proofs.Marks.{IsMark, Lacks, decimal_lacks, dollar, full_stop, lacks_both, lacks_cons, lacks_nil}
use Rattle.snow_text_model.proofs.Runs.{bytes_front, length_again}
use Rattle.snow_text_model.proofs.Pieces.{IsShort, no_call, number_again, same_bytes, short_is, told_same}

-- a word of digits, `*`, `+` and `.`
pub record IsValue (word : Word) : Type 0 where
  pub some : 0 < length word
  pub lacks : (c : ℕ) → IsMark c → 42 == c ≡ false → 43 == c ≡ false → 46 == c ≡ false → Lacks c word

-- a word is read as these bytes
pub record Says (of : Word → Result (List ℕ) Reason) (word : Word) (bytes : List ℕ) : Type 0 where
  pub again : of word ≡ Ok bytes
  pub value : IsValue word

-- ---- numbers

-- a decimal number
pub decimal_value : (n : ℕ) → n < 2 ^ 64 → IsValue (decimal n)
decimal_value n fits = record { some = decimal_nonempty n fits; lacks = λ c mark star plus stop. decimal_lacks c mark n fits }

number_read : (size n : ℕ) (r : Result ℕ Reason) → r ≡ Ok n → (r >>= λ m. Ok (number size m)) ≡ Ok (number size n)
number_read size n r e = rw e refl

-- a number in so many bytes
pub number_says : (size n : ℕ) → n < 2 ^ (8 * size) → n < 2 ^ 64 → Says (number_word size) (decimal n) (number size n)
unfolding number_word
number_says size n small fits = record {
  again = number_read size n (number_below (2 ^ (8 * size)) (decimal n)) (number_again (2 ^ (8 * size)) n small fits);
  value = decimal_value n fits;
}

-- ---- zeros at the end

-- bytes are a front and zeros
pub record Ends (front bytes : List ℕ) : Type 0 where
  pub zeros : ℕ
  pub whole : bytes ≡ front ++ replicate zeros 0

kept_none : (t : Bool) (b : ℕ) (bytes : List ℕ) → (t ≡ true → b ≡ 0) → Ends [] bytes → Ends (if t then [] else b ∷ []) (b ∷ bytes)
kept_none true b bytes h ends =
    record { zeros = suc ends.zeros; whole = ap (λ (x : ℕ). x ∷ bytes) (h refl) ∙ ap (λ (l : List ℕ). 0 ∷ l) ends.whole }
kept_none false b bytes h ends = record { zeros = ends.zeros; whole = ap (λ (l : List ℕ). b ∷ l) ends.whole }

kept_ends : (b : ℕ) (front bytes : List ℕ) → Ends front bytes → Ends (kept b front) (b ∷ bytes)
kept_ends b [] bytes ends = kept_none (b == 0) b bytes (eqb-true b 0) ends
kept_ends b (c ∷ front) bytes ends = record { zeros = ends.zeros; whole = ap (λ (l : List ℕ). b ∷ l) ends.whole }

-- what was trimmed are zeros
pub trimmed_ends : (bytes : List ℕ) → Ends (trimmed bytes) bytes
unfolding trimmed
trimmed_ends [] = record { zeros = 0; whole = refl }
trimmed_ends (b ∷ bytes) = kept_ends b (trimmed bytes) bytes (trimmed_ends bytes)

some_zeros : (zeros : ℕ) (bytes : List ℕ) → 0 < length bytes → bytes ≡ replicate zeros 0 → Ends (0 ∷ []) bytes
some_zeros zero bytes some e = let none : length bytes ≡ 0 = ap length e in absurd (omega (arith, some, none))
some_zeros (suc k) bytes some e = record { zeros = k; whole = e }

some_ends : (front bytes : List ℕ) → 0 < length bytes → Ends front bytes → Ends (some_of front) bytes
some_ends [] bytes some ends = some_zeros ends.zeros bytes some ends.whole
some_ends (b ∷ front) bytes some ends = ends

-- at least one byte is
pub some_some : (front : List ℕ) → 0 < length (some_of front)
some_some [] = omega arith
some_some (b ∷ front) = omega arith

-- the zeros that are wanting
filled : (front bytes : List ℕ) → Ends front bytes → front ++ replicate (length bytes - length front) 0 ≡ bytes
filled front bytes ends =
    let long : length bytes ≡ length front + ends.zeros = ap length ends.whole ∙ length-append front (replicate ends.zeros 0) ∙ ap (λ (n : ℕ). length front + n) (length_again ends.zeros 0) in
    let wanting : length bytes - length front ≡ ends.zeros = omega (arith, long) in
    ap (λ (n : ℕ). front ++ replicate n 0) wanting ∙ sym ends.whole

-- ---- bytes whose number is known

lacks_behind : (c : ℕ) (a b : List ℕ) → Lacks c (a ++ b) → Lacks c b
lacks_behind c [] b h = h
lacks_behind c (x ∷ a) b h = lacks_behind c a b (All-tail (λ d. d == c ≡ false) x (a ++ b) h)

-- a word without a full stop is closed
closed : (word : Word) → Lacks 46 word → is_open word ≡ false
closed word lacks = false_from_ne_true (is_open word) (opened word lacks)
  where
    opened : (word : Word) → Lacks 46 word → is_open word ≡ true → ⊥
    opened word lacks told =
        let same : drop (length word - 2) word ≡ 46 ∷ 46 ∷ [] = told_same (drop (length word - 2) word) (codes "..") told in
        let whole : Lacks 46 (take (length word - 2) word ++ drop (length word - 2) word) = subst (λ (w : List ℕ). Lacks 46 w) (sym (take-append-drop (length word - 2) word)) lacks in
        let stops = subst (λ (w : List ℕ). Lacks 46 w) same (lacks_behind 46 (take (length word - 2) word) (drop (length word - 2) word) whole) in
        both_ways (46 == 46) (All-head (λ b. b == 46 ≡ false) 46 (46 ∷ []) stops) refl

exactly_so : (size : ℕ) (bytes : List ℕ) → length bytes ≡ size → exactly size bytes ≡ Ok bytes
exactly_so size bytes e = rw (eq-eqb (length bytes) size e) refl

-- bytes without `..`
closed_says : (size : ℕ) (word : Word) (bytes : List ℕ) → length bytes ≡ size → IsShort word bytes → Says (fixed_word size) word bytes
unfolding fixed_word
closed_says size word bytes long is = record {
  again = rw (closed word (is.lacks 46 full_stop refl refl), is.again) (exactly_so size bytes long);
  value = record { some = is.some; lacks = λ c mark star plus stop. is.lacks c mark star plus };
}

two_less : (word : Word) → length (word ++ codes "..") - 2 ≡ length word
two_less word = omega (arith, length-append word (codes ".."))

-- a front, with `..` behind
open_says : (size : ℕ) (word : Word) (front bytes : List ℕ) → length bytes ≡ size → Ends front bytes → IsShort word front → Says (fixed_word size) (word ++ codes "..") bytes
unfolding fixed_word
open_says size word front bytes long ends is =
    let dots : drop (length (word ++ codes "..") - 2) (word ++ codes "..") ≡ codes ".." = ap (λ (n : ℕ). drop n (word ++ codes "..")) (two_less word) ∙ drop-append_seam word (codes "..") in
    let before : take (length (word ++ codes "..") - 2) (word ++ codes "..") ≡ word = ap (λ (n : ℕ). take n (word ++ codes "..")) (two_less word) ∙ take-append_seam word (codes "..") in
    let full : front ++ replicate (size - length front) 0 ≡ bytes = ap (λ (n : ℕ). front ++ replicate (n - length front) 0) (sym long) ∙ filled front bytes ends in
    record {
      again = rw (same_bytes (drop (length (word ++ codes "..") - 2) (word ++ codes "..")) (codes "..") dots, before, is.again, full) (exactly_so size bytes long);
      value = record {
        some = let some = is.some in omega (arith, some, length-append word (codes ".."));
        lacks = λ c mark star plus stop. lacks_both c word (codes "..") (is.lacks c mark star plus) (lacks_cons c 46 (46 ∷ []) stop (lacks_cons c 46 [] stop (lacks_nil c)));
      };
    }

fixed_if : (t : Bool) (size : ℕ) (front bytes : List ℕ) → length bytes ≡ size → Ends front bytes → IsShort (short front) front → IsShort (short bytes) bytes
    → Says (fixed_word size) (if t then short bytes else short front ++ codes "..") bytes
fixed_if true size front bytes long ends some all = closed_says size (short bytes) bytes long all
fixed_if false size front bytes long ends some all = open_says size (short front) front bytes long ends some

-- the short form of so many bytes says them
pub fixed_says : (size : ℕ) (bytes : List ℕ) → 0 < size → length bytes ≡ size → IsBytes bytes → Says (fixed_word size) (fixed_text bytes) bytes
unfolding fixed_text
fixed_says size bytes some long fits =
    let few : 0 < length bytes = omega (arith, some, long) in
    let front = some_of (trimmed bytes) in
    let ends = some_ends (trimmed bytes) bytes few (trimmed_ends bytes) in
    let own = bytes_front front (replicate ends.zeros 0) (subst IsBytes ends.whole fits) in
    fixed_if (length front == length bytes) size front bytes long ends (short_is front own (some_some (trimmed bytes))) (short_is bytes fits few)

item_same : (t : Bool) (called read : Result (List ℕ) Reason) → t ≡ false → (if t then called else read) ≡ read
item_same true called read h = absurd cc
item_same false called read h = refl

-- and where a block's name might stand
pub item_says : (size : ℕ) (bytes : List ℕ) → 0 < size → length bytes ≡ size → IsBytes bytes → Says (item_word [] size) (fixed_text bytes) bytes
unfolding item_word
item_says size bytes some long fits =
    let says = fixed_says size bytes some long fits in
    record { again = item_same (is_call (fixed_text bytes)) _ _ (no_call (fixed_text bytes) (says.value.lacks 36 dollar refl refl refl)) ∙ says.again; value = says.value }
