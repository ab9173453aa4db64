-- Which blocks are shown in the words of their chain: those whose bytes have the length of the chain's blocks.
use Rattle.std.proofs.Common.{◌≡◌, ℕ, ◌+◌, ◌-◌, ◌*◌, ◌<◌, ◌≤◌, ◌^◌, ◌==◌, if◌then◌else◌, Bool, true, false, List, [], ◌∷◌, ◌++◌, length, take, drop, replicate, decimal, Result, Ok, Err, refl, sym, ap, ◌∙◌, subst, arith}
use Rattle.std.proofs.lemmas.Bool.{eqb-true, false_from_ne_true}
use Rattle.std.proofs.lemmas.List.{length-append, length-drop, length-take, take-append-drop, drop-drop}
use Rattle.byteorder.specs.Endian.{big_number}
use Rattle.byteorder.specs.Numbers.{big_from-lt, length-bytes_high_first}
use Rattle.snow_wire.specs.Model.Reading.{IsBytes}
use Rattle.snow_wire.specs.Model.Spelling.{number}
use Rattle.snow_wire.proofs.Numbers.{IsBytes-behind, IsBytes-take, IsWidth, front_spells, width1, width2, width8}
use Rattle.snow_text_model.specs.declared.refusal.Reason.{Reason}
use Rattle.snow_text_model.specs.declared.refusal.Reason.TheVariants as reason
use Rattle.snow_text_model.specs.declared.block_form.BlockForm.TheVariants as form
use Rattle.snow_text_model.specs.Model.Words.{Word, Field, Halt, ◌>>=◌, ◌&◌, at, ended, one, where_holds}
use Rattle.snow_text_model.specs.Model.Names.{called, is_call}
use Rattle.snow_text_model.specs.Model.Bytes.{bytes_text, bytes_word, exactly, fixed_text, fixed_word, is_open, item_word, number_below, number_word}
use Rattle.snow_text_model.specs.Model.Events.{behind, block_of, id_field, number_field, plain, tally}
use Rattle.snow_text_model.specs.Model.Blocks.{behind_words, block_words, is_block, words_if, words_in}
use Rattle.snow_text_model.proofs.Pieces.{bytes_text_is, same_bytes, told_same}
use Rattle.snow_text_model.proofs.Values.{item_says, number_says}
use Rattle.snow_text_model.proofs.Fields.{Fills, all_fills, one_fits, then_fills}

-- ---- what was read

-- what was read before an answer
pub record Read {A B E : Type 0} (r : Result A E) (f : A → Result B E) (y : B) : Type 0 where
  pub value : A
  pub read : r ≡ Ok value
  pub gives : f value ≡ Ok y

pub was_read : {A B E : Type 0} (r : Result A E) (f : A → Result B E) (y : B) → (r >>= f) ≡ Ok y → Read r f y
was_read (Ok x) f y e = record { value = x; read = refl; gives = e }
was_read (Err x) f y e = absurd cc

pub at_ok : {A : Type 0} (ws : List Word) (r : Result A Reason) (x : A) → at ws r ≡ Ok x → r ≡ Ok x
at_ok ws (Ok y) x e = let same : y ≡ x = cc e in ap Ok same
at_ok ws (Err why) x e = absurd cc

pub where_ok : {A : Type 0} (t : Bool) (x y : A) (why : Reason) → where_holds t x why ≡ Ok y → (t ≡ true) × (x ≡ y)
where_ok true x y why e = (refl, cc e)
where_ok false x y why e = absurd cc

pub exactly_long : (size : ℕ) (bytes found : List ℕ) → exactly size bytes ≡ Ok found → length found ≡ size
exactly_long size bytes found e =
    let both = where_ok (length bytes == size) bytes found _ e in
    ap length (sym both.1) ∙ eqb-true (length bytes) size both.0

fixed_long_if : (t : Bool) (size : ℕ) (r q : Result (List ℕ) Reason) (front : List ℕ → List ℕ) (found : List ℕ)
    → (if t then (r >>= λ x. exactly size (front x)) else (q >>= exactly size)) ≡ Ok found → length found ≡ size
fixed_long_if true size r q front found e =
    let b = was_read r (λ x. exactly size (front x)) found e in exactly_long size (front b.value) found b.gives
fixed_long_if false size r q front found e =
    let b = was_read q (exactly size) found e in exactly_long size b.value found b.gives

pub fixed_long : (size : ℕ) (word : Word) (found : List ℕ) → fixed_word size word ≡ Ok found → length found ≡ size
unfolding fixed_word
fixed_long size word found e =
    fixed_long_if (is_open word) size (bytes_word (take (length word - 2) word)) (bytes_word word) (λ front. front ++ replicate (size - length front) 0) found e

item_long_if : (t : Bool) (size : ℕ) (r q : Result (List ℕ) Reason) (found : List ℕ) → (q ≡ Ok found → length found ≡ size) → (if t then (r >>= exactly size) else q) ≡ Ok found → length found ≡ size
item_long_if true size r q found h e = let b = was_read r (exactly size) found e in exactly_long size b.value found b.gives
item_long_if false size r q found h e = h e

pub item_long : (size : ℕ) (word : Word) (found : List ℕ) → item_word [] size word ≡ Ok found → length found ≡ size
unfolding item_word
item_long size word found e = item_long_if (is_call word) size (called (λ n. n.identifier) [] word) (fixed_word size word) found (fixed_long size word found) e

pub number_long : (size : ℕ) (word : Word) (found : List ℕ) → number_word size word ≡ Ok found → length found ≡ size
unfolding number_word number
number_long size word found e =
    let b = was_read (number_below (2 ^ (8 * size)) word) (λ n. Ok (number size n)) found e in
    let same : number size b.value ≡ found = cc b.gives in
    ap length (sym same) ∙ length-bytes_high_first size b.value

-- ---- fields that hold so many bytes at least

pub record Holds (n : ℕ) (a : Field) : Type 0 where
  pub long : (ws : List Word) (x : List ℕ × List Word) → a ws ≡ Ok x → n ≤ length x.0

one_long : (size : ℕ) (of : Word → Result (List ℕ) Reason) → ((w : Word) (found : List ℕ) → of w ≡ Ok found → length found ≡ size) → (ws : List Word) (x : List ℕ × List Word) → one of ws ≡ Ok x → size ≤ length x.0
unfolding one
one_long size of h [] x e = absurd cc
one_long size of h (w ∷ ws) x e =
    let b = was_read (at (w ∷ ws) (of w)) (λ y. Ok (y, ws)) x e in
    let same : (b.value, ws) ≡ x = cc b.gives in
    let long = h w b.value (at_ok (w ∷ ws) (of w) b.value b.read) in
    subst (λ (y : List ℕ × List Word). size ≤ length y.0) same (omega (arith, long))

one_holds : (size : ℕ) (of : Word → Result (List ℕ) Reason) → ((w : Word) (found : List ℕ) → of w ≡ Ok found → length found ≡ size) → Holds size (one of)
one_holds size of h = record { long = one_long size of h }

both_holds : (n m : ℕ) (a b : Field) → Holds n a → Holds m b → Holds (n + m) (a & b)
unfolding ◌&◌
both_holds n m a b ha hb = record {
  long = λ ws x e.
      let first = was_read (a ws) (λ y. b y.1 >>= λ z. Ok (y.0 ++ z.0, z.1)) x e in
      let second = was_read (b first.value.1) (λ z. Ok (first.value.0 ++ z.0, z.1)) x first.gives in
      let same : (first.value.0 ++ second.value.0, second.value.1) ≡ x = cc second.gives in
      let p = ha.long ws first.value first.read in
      let q = hb.long first.value.1 second.value second.read in
      let sum : n + m ≤ length (first.value.0 ++ second.value.0) = omega (arith, p, q, length-append first.value.0 second.value.0) in
      subst (λ (y : List ℕ × List Word). n + m ≤ length y.0) same sum;
}

all_holds : (a : Field) → Holds 0 a
all_holds a = record { long = λ ws x e. omega arith }

pub end_if : (t : Bool) (x found : List ℕ) (halt : Result (List ℕ) Halt) → ((y : List ℕ) → halt ≡ Ok y → ⊥) → (if t then Ok x else halt) ≡ Ok found → x ≡ found
end_if true x found halt h e = cc e
end_if false x found halt h e = absurd (h found e)

ended_long : (n : ℕ) (a : Field) (ws : List Word) (found : List ℕ) → Holds n a → ended a ws ≡ Ok found → n ≤ length found
unfolding ended
ended_long n a ws found h e =
    let b = was_read (a ws) (λ x. if length x.1 == 0 then Ok x.0 else at x.1 (Err reason.Extra)) found e in
    let same = end_if (length b.value.1 == 0) b.value.0 found (at b.value.1 (Err reason.Extra)) (λ y q. cc q) b.gives in
    subst (λ (y : List ℕ). n ≤ length y) same (h.long ws b.value b.read)

id_holds : Holds 32 (id_field [])
id_holds = one_holds 32 (item_word [] 32) (item_long 32)

number_holds : (size : ℕ) → Holds size (number_field size)
number_holds size = one_holds size (number_word size) (number_long size)

-- ---- the parts of bytes

pub bytes_drop : (n : ℕ) (bytes : List ℕ) → IsBytes bytes → IsBytes (drop n bytes)
bytes_drop n bytes fits = IsBytes-behind (take n bytes) (drop n bytes) (subst IsBytes (sym (take-append-drop n bytes)) fits)

pub long_drop : (n m : ℕ) (bytes : List ℕ) → n + m ≤ length bytes → m ≤ length (drop n bytes)
long_drop n m bytes h = omega (arith, h, length-drop n bytes)

-- an identifier in front
pub id_read : (bytes : List ℕ) → 32 ≤ length bytes → IsBytes bytes → item_word [] 32 (fixed_text (take 32 bytes)) ≡ Ok (take 32 bytes)
id_read bytes h fits = (item_says 32 (take 32 bytes) (omega arith) (omega (arith, h, length-take 32 bytes)) (IsBytes-take 32 bytes fits)).again

number_read : (size : ℕ) → IsWidth size → (bytes : List ℕ) → size ≤ length bytes → IsBytes bytes → big_number size bytes < 2 ^ (8 * size) → big_number size bytes < 2 ^ 64 → number_word size (decimal (big_number size bytes)) ≡ Ok (take size bytes)
unfolding number
number_read size width bytes h fits small most =
    (number_says size (big_number size bytes) small most).again ∙ ap Ok (front_spells size width bytes h fits)

pub long_read : (bytes : List ℕ) → 8 ≤ length bytes → IsBytes bytes → number_word 8 (decimal (big_number 8 bytes)) ≡ Ok (take 8 bytes)
long_read bytes h fits = let small = big_from-lt 0 8 bytes fits in number_read 8 width8 bytes h fits (omega (arith, small)) (omega (arith, small))

pub two_read : (bytes : List ℕ) → 2 ≤ length bytes → IsBytes bytes → number_word 2 (decimal (big_number 2 bytes)) ≡ Ok (take 2 bytes)
two_read bytes h fits = let small = big_from-lt 0 2 bytes fits in number_read 2 width2 bytes h fits (omega (arith, small)) (omega (arith, small))

byte_read : (bytes : List ℕ) → 1 ≤ length bytes → IsBytes bytes → number_word 1 (decimal (big_number 1 bytes)) ≡ Ok (take 1 bytes)
byte_read bytes h fits = let small = big_from-lt 0 1 bytes fits in number_read 1 width1 bytes h fits (omega (arith, small)) (omega (arith, small))

behind_read : (bytes : List ℕ) → IsBytes bytes → behind [] (behind_words bytes) ≡ Ok bytes
behind_read [] fits = refl
behind_read (b ∷ bytes) fits = (bytes_text_is (b ∷ bytes) fits).again

-- a field in front
pub front_fills : (n : ℕ) (of : Word → Result (List ℕ) Reason) (a : Field) (word : Word) (ws : List Word) (bytes : List ℕ) → of word ≡ Ok (take n bytes) → Fills a ws (drop n bytes) → Fills (one of & a) (word ∷ ws) bytes
front_fills n of a word ws bytes e fills =
    let both = then_fills (one of) a (word ∷ []) ws (take n bytes) (drop n bytes) (one_fits of word (take n bytes) e) fills in
    record { again = both.again ∙ ap (λ (l : List ℕ). Ok (l, [])) (take-append-drop n bytes) }

pub ended_fills : (a : Field) (ws : List Word) (bytes : List ℕ) → Fills a ws bytes → ended a ws ≡ Ok bytes
unfolding ended
ended_fills a ws bytes fills = rw fills.again refl

pub dropped : (n m k : ℕ) (bytes : List ℕ) → n + m ≡ k → drop m (drop n bytes) ≡ drop k bytes
dropped n m k bytes e = drop-drop m n bytes ∙ ap (λ (i : ℕ). drop i bytes) e

-- ---- plain blocks

plain_fills : (bytes : List ℕ) → IsBytes bytes → 73 ≤ length bytes
    → Fills ((plain []).fields) (fixed_text (take 32 bytes) ∷ fixed_text (take 32 (drop 32 bytes)) ∷ decimal (big_number 8 (drop 64 bytes)) ∷ decimal (big_number 1 (drop 72 bytes)) ∷ behind_words (drop 73 bytes)) bytes
plain_fills bytes fits h =
    let rest = all_fills (behind []) (behind_words (drop 73 bytes)) (drop 73 bytes) (behind_read (drop 73 bytes) (bytes_drop 73 bytes fits)) in
    front_fills 32 (item_word [] 32) _ _ _ bytes (id_read bytes (omega (arith, h)) fits)
    (front_fills 32 (item_word [] 32) _ _ _ (drop 32 bytes) (id_read (drop 32 bytes) (long_drop 32 32 bytes (omega (arith, h))) (bytes_drop 32 bytes fits))
    (rw (dropped 32 32 64 bytes refl)
    (front_fills 8 (number_word 8) _ _ _ (drop 64 bytes) (long_read (drop 64 bytes) (long_drop 64 8 bytes (omega (arith, h))) (bytes_drop 64 bytes fits))
    (rw (dropped 64 8 72 bytes refl)
    (front_fills 1 (number_word 1) _ _ _ (drop 72 bytes) (byte_read (drop 72 bytes) (long_drop 72 1 bytes (omega (arith, h))) (bytes_drop 72 bytes fits))
    (rw (dropped 72 1 73 bytes refl) rest))))))

plain_again : (bytes : List ℕ) → IsBytes bytes → 73 ≤ length bytes → block_of [] (words_in form.Plain bytes) ≡ Ok bytes
unfolding block_of
plain_again bytes fits h = ended_fills ((plain []).fields) _ bytes (plain_fills bytes fits h)

plain_holds : Holds (32 + (32 + (8 + (1 + 0)))) ((plain []).fields)
plain_holds =
    both_holds 32 (32 + (8 + (1 + 0))) _ _ id_holds (both_holds 32 (8 + (1 + 0)) _ _ id_holds (both_holds 8 (1 + 0) _ _ (number_holds 8) (both_holds 1 0 _ _ (number_holds 1) (all_holds _))))

plain_long : (bytes found : List ℕ) → block_of [] (words_in form.Plain bytes) ≡ Ok found → 73 ≤ length found
unfolding block_of
plain_long bytes found e = ended_long (32 + (32 + (8 + (1 + 0)))) ((plain []).fields) _ found plain_holds e

-- ---- tally blocks

tally_fills : (bytes : List ℕ) → IsBytes bytes → 48 ≤ length bytes
    → Fills ((tally []).fields) (fixed_text (take 32 bytes) ∷ decimal (big_number 8 (drop 32 bytes)) ∷ decimal (big_number 8 (drop 40 bytes)) ∷ behind_words (drop 48 bytes)) bytes
tally_fills bytes fits h =
    let rest = all_fills (behind []) (behind_words (drop 48 bytes)) (drop 48 bytes) (behind_read (drop 48 bytes) (bytes_drop 48 bytes fits)) in
    front_fills 32 (item_word [] 32) _ _ _ bytes (id_read bytes (omega (arith, h)) fits)
    (front_fills 8 (number_word 8) _ _ _ (drop 32 bytes) (long_read (drop 32 bytes) (long_drop 32 8 bytes (omega (arith, h))) (bytes_drop 32 bytes fits))
    (rw (dropped 32 8 40 bytes refl)
    (front_fills 8 (number_word 8) _ _ _ (drop 40 bytes) (long_read (drop 40 bytes) (long_drop 40 8 bytes (omega (arith, h))) (bytes_drop 40 bytes fits))
    (rw (dropped 40 8 48 bytes refl) rest))))

tally_again : (bytes : List ℕ) → IsBytes bytes → 48 ≤ length bytes → block_of [] (words_in form.Tally bytes) ≡ Ok bytes
unfolding block_of
tally_again bytes fits h = ended_fills ((tally []).fields) _ bytes (tally_fills bytes fits h)

tally_holds : Holds (32 + (8 + (8 + 0))) ((tally []).fields)
tally_holds = both_holds 32 (8 + (8 + 0)) _ _ id_holds (both_holds 8 (8 + 0) _ _ (number_holds 8) (both_holds 8 0 _ _ (number_holds 8) (all_holds _)))

tally_long : (bytes found : List ℕ) → block_of [] (words_in form.Tally bytes) ≡ Ok found → 48 ≤ length found
unfolding block_of
tally_long bytes found e = ended_long (32 + (8 + (8 + 0))) ((tally []).fields) _ found tally_holds e

-- ---- the test

pub found_again : (bytes : List ℕ) (r : Result (List ℕ) Halt) → r ≡ Ok bytes → is_block bytes r ≡ true
found_again bytes r e = rw e (same_bytes bytes bytes refl)

pub told_found : (bytes : List ℕ) (r : Result (List ℕ) Halt) → is_block bytes r ≡ true → r ≡ Ok bytes
told_found bytes (Ok found) h = ap Ok (told_same found bytes h)
told_found bytes (Err halt) h = absurd cc

pub words_then : (t : Bool) (ws : List Word) (bytes : List ℕ) → t ≡ true → words_if t ws bytes ≡ ws
words_then t ws bytes e = rw e refl

pub words_else : (t : Bool) (ws : List Word) (bytes : List ℕ) → t ≡ false → words_if t ws bytes ≡ bytes_text bytes ∷ []
words_else t ws bytes e = rw e refl

pub plain_words : (bytes : List ℕ) → IsBytes bytes → 73 ≤ length bytes → block_words form.Plain bytes ≡ words_in form.Plain bytes
plain_words bytes fits h =
    let r = block_of [] (words_in form.Plain bytes) in
    words_then (is_block bytes r) (words_in form.Plain bytes) bytes (found_again bytes r (plain_again bytes fits h))

pub plain_bytes : (bytes : List ℕ) → length bytes < 73 → block_words form.Plain bytes ≡ bytes_text bytes ∷ []
plain_bytes bytes h =
    let r = block_of [] (words_in form.Plain bytes) in
    words_else (is_block bytes r) (words_in form.Plain bytes) bytes
    (false_from_ne_true (is_block bytes r) (λ e. let long = plain_long bytes bytes (told_found bytes r e) in omega (arith, long, h)))

pub tally_words : (bytes : List ℕ) → IsBytes bytes → 48 ≤ length bytes → block_words form.Tally bytes ≡ words_in form.Tally bytes
tally_words bytes fits h =
    let r = block_of [] (words_in form.Tally bytes) in
    words_then (is_block bytes r) (words_in form.Tally bytes) bytes (found_again bytes r (tally_again bytes fits h))

pub tally_bytes : (bytes : List ℕ) → length bytes < 48 → block_words form.Tally bytes ≡ bytes_text bytes ∷ []
tally_bytes bytes h =
    let r = block_of [] (words_in form.Tally bytes) in
    words_else (is_block bytes r) (words_in form.Tally bytes) bytes
    (false_from_ne_true (is_block bytes r) (λ e. let long = tally_long bytes bytes (told_found bytes r e) in omega (arith, long, h)))
