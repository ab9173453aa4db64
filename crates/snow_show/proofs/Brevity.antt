-- Lines of a program, in words as short as they can be.
use Rattle.std.proofs.Common.{◌≡◌, ℕ, ◌+◌, ◌-◌, ◌<◌, ◌≤◌, ◌==◌, ◌&&◌, Bool, true, false, if◌then◌else◌, List, [], ◌∷◌, ◌++◌, length, take, drop, reverse, codes, Some, None, Result, Ok, Err, refl, sym, ap, ◌∙◌, ◌%◌, arith}
use Rattle.std.specs.List.{join_with_byte, list_all}
use Rattle.std.proofs.Math.Seq.{drop-append_seam, take-append_seam}
use Rattle.std.proofs.lemmas.Bool.{and_parts}
use Rattle.std.proofs.lemmas.Bool.Decides.{nat_tests}
use Rattle.std.proofs.lemmas.List.{length-append, take_all}
use Rattle.std.proofs.lemmas.List.Splits.{join_with_byte-slice_split}
use Rattle.hex.specs.Hex.{decode_of, decode_pairs, pair_value}
use Rattle.hex.specs.Hex as hex
use Rattle.hex.specs.declared.error.FromHexError.{FromHexError}
use Rattle.hex.specs.declared.error.FromHexError.TheVariants.{OddLength}
use Rattle.snow_text_model.specs.declared.refusal.Reason.{Reason}
use Rattle.snow_text_model.specs.declared.refusal.Reason.TheVariants as reason
use Rattle.snow_text_model.specs.Model.Words.{Word, ◌>>=◌, is_word, parts}
use Rattle.snow_text_model.specs.Model.Bytes.{decoded, digits_word, fixed_text, is_small}
use Rattle.snow_text_model.specs.Model.Lines.{Draw, Kind, kinds_of, later_kinds, line_words, next_kind, short_as, short_words, shortened, shorter}
use Rattle.snow_text_model.specs.Model.Shown.{frame_words, line, say}
use Rattle.snow_words.specs.Clauses.Cutting.{first}
use Rattle.snow_say.specs.Clauses.Lined.{drawn_text, shorter_by, tells, written_words}
use Rattle.snow_words.specs.Clauses.Making.{onto}
use Rattle.snow_show.specs.Clauses.Putting.{Puts}
use Rattle.snow_show.specs.Kept.Listing.{led}
use Rattle.snow_show.proofs.Evented.{led_some}
use Rattle.snow_show.proofs.Itemed.{line_led}
use Rattle.snow_say.proofs.Lined.{reverse_twice}
use Rattle.snow_words.proofs.Appended.{unerr}
use Rattle.snow_words.proofs.Saying.{some_parts}

-- ---- digits

pairs_of : (bytes found : List ℕ) (byte : ℕ) → ◌≡◌ {A = Result (List ℕ) FromHexError} (Ok (byte ∷ bytes)) (Ok found) → 0 < length found
pairs_of bytes found byte h = let same : byte ∷ bytes ≡ found = cc h in omega (arith, ap length same)

pairs_behind : (byte : ℕ) (more : Result (List ℕ) FromHexError) (found : List ℕ) → hex.◌>>=◌ more (λ bytes. Ok (byte ∷ bytes)) ≡ Ok found → 0 < length found
pairs_behind byte (Ok bytes) found h = pairs_of bytes found byte h
pairs_behind byte (Err e) found h = absurd cc

pairs_front : (r : Result ℕ FromHexError) (more : Result (List ℕ) FromHexError) (found : List ℕ) → hex.◌>>=◌ r (λ byte. hex.◌>>=◌ more (λ bytes. Ok (byte ∷ bytes))) ≡ Ok found → 0 < length found
pairs_front (Ok byte) more found h = pairs_behind byte more found h
pairs_front (Err e) more found h = absurd cc

some_pairs : (i : ℕ) (text found : List ℕ) → 0 < length text → decode_pairs i text ≡ Ok found → 0 < length found
unfolding decode_pairs
some_pairs i [] found some h = absurd (omega (arith, some))
some_pairs i (c ∷ []) found some h = absurd cc
some_pairs i (c ∷ d ∷ rest) found some h = pairs_front (pair_value c d i) (decode_pairs (i + 2) rest) found h

decoded_some : (r : Result (List ℕ) FromHexError) (found : List ℕ) → decoded r ≡ Ok found → r ≡ Ok found
decoded_some (Ok bytes) found h = let same : bytes ≡ found = cc h in ap Ok same
decoded_some (Err e) found h = absurd cc

even_some : (odd : Bool) (r : Result (List ℕ) FromHexError) (found : List ℕ) → (if odd then Err OddLength else r) ≡ Ok found → r ≡ Ok found
even_some true r found h = absurd cc
even_some false r found h = h

tested_some : (test : Bool) (word found : List ℕ) → (test ≡ true → 0 < length word) → (if test then decoded (decode_of word) else Err reason.Digits) ≡ Ok found → 0 < length found
tested_some true word found some h = some_pairs 0 word found (some refl) (even_some (length word % 2 == 1) (decode_pairs 0 word) found (decoded_some (decode_of word) found h))
tested_some false word found some h = absurd cc

word_some : (word : List ℕ) (rest : Bool) → (is_word word && rest) ≡ true → 0 < length word
word_some word rest h = let both = and_parts (is_word word) rest h in grind (arith, nat_tests, both.0)

-- digits tell some bytes
digits_some : (word found : List ℕ) → digits_word word ≡ Ok found → 0 < length found
unfolding digits_word
digits_some word found h = tested_some (is_word word && list_all is_small word) word found (word_some word (list_all is_small word)) h

first_told : (r : Result (List ℕ) Reason) (found : List ℕ) → onto [] r ≡ Ok found → r ≡ Ok found
first_told (Ok bytes) found h = let same : bytes ≡ found = cc h in ap Ok same
first_told (Err e) found h = absurd cc

first_not : (r : Result (List ℕ) Reason) (why : Reason) → onto [] r ≡ Err why → r ≡ Err why
first_not (Ok bytes) why h = absurd cc
first_not (Err e) why h = ap Err (unerr e why h)

pub told_some : (word found : List ℕ) → onto [] (digits_word word) ≡ Ok found → 0 < length found
told_some word found h = digits_some word found (first_told (digits_word word) found h)

-- what digits tell was put
pub short_told : {T E : Type 0} (r : Result T E) (a b : List ℕ) (text : List ℕ → Word) (word digits found : List ℕ) → onto [] (digits_word digits) ≡ Ok found → Puts r a b (text found) → Puts r a b (shorter_by text word digits)
short_told r a b text word digits found h p = rw (first_told (digits_word digits) found h) p

-- or the word
pub short_not : {T E : Type 0} (r : Result T E) (a b : List ℕ) (text : List ℕ → Word) (word digits : List ℕ) (why : Reason) → onto [] (digits_word digits) ≡ Err why → Puts r a b word → Puts r a b (shorter_by text word digits)
short_not r a b text word digits why h p = rw (first_not (digits_word digits) why h) p

-- ---- draws

drawn_both : (r : Result (List ℕ) Reason) (word times : Word) → shorter word ((r >>= (λ b. Ok (fixed_text b))) >>= (λ digits. Ok (digits ++ 42 ∷ times))) ≡ shorter word (r >>= (λ b. Ok (drawn_text times b)))
drawn_both (Ok b) word times = refl
drawn_both (Err e) word times = refl

pub draw_none : (word : Word) → reverse (parts 42 word) ≡ word ∷ [] → short_as Draw word ≡ word
unfolding short_as digits_word
draw_none word h = rw h refl

pub draw_some : (word node times : Word) → reverse (parts 42 word) ≡ times ∷ reverse (parts 42 node) → short_as Draw word ≡ shorter_by (drawn_text times) word node
unfolding short_as
draw_some word node times h =
    let back : join_with_byte 42 (reverse (reverse (parts 42 node))) ≡ node = ap (join_with_byte 42) (reverse_twice (parts 42 node)) ∙ join_with_byte-slice_split 42 node in
    rw h (ap (λ n. shorter word ((digits_word n >>= (λ b. Ok (fixed_text b))) >>= (λ digits. Ok (digits ++ 42 ∷ times)))) back ∙ drawn_both (digits_word node) word times)

-- ---- words

words_next : (kinds : List Kind) (ws : List Word) (w : Word) → Some w ≡ first ws
    → led (32 ∷ []) (32 ∷ []) (short_words kinds ws) ≡ (32 ∷ short_as (next_kind kinds) w) ++ led (32 ∷ []) (32 ∷ []) (short_words (later_kinds kinds) (drop 1 ws))
unfolding led short_words
words_next kinds [] w f = absurd cc
words_next kinds (v ∷ ws) w f = let same : v ≡ w = cc in ap (λ (x : Word). (32 ∷ short_as (next_kind kinds) x) ++ led (32 ∷ []) (32 ∷ []) (short_words (later_kinds kinds) ws)) same

pub words_step : (kinds later : List Kind) (kind : Kind) (ws more : List Word) (w : Word) → Some w ≡ first ws → kind ≡ next_kind kinds → later ≡ later_kinds kinds → more ≡ drop 1 ws
    → led (32 ∷ []) (32 ∷ []) (short_words kinds ws) ≡ (32 ∷ short_as kind w) ++ led (32 ∷ []) (32 ∷ []) (short_words later more)
words_step kinds later kind ws more w f e g h = rw (e, g, h) (words_next kinds ws w f)

pub words_end : (kinds : List Kind) (ws : List Word) → None ≡ first ws → led (32 ∷ []) (32 ∷ []) (short_words kinds ws) ≡ []
unfolding led short_words
words_end kinds [] f = refl
words_end kinds (w ∷ ws) f = absurd cc

-- ---- lines

pub line_one : (said : List ℕ) → parts 32 said ≡ said ∷ [] → said ≡ line (line_words said)
unfolding line_words short_words
line_one said h = rw h refl

pub line_more : (said name more : List ℕ) → parts 32 said ≡ name ∷ parts 32 more → name ++ led (32 ∷ []) (32 ∷ []) (short_words (kinds_of name) (parts 32 more)) ≡ line (line_words said)
unfolding line_words
line_more said name more h = rw h (sym (line_led name (short_words (kinds_of name) (parts 32 more))))

some_shortened : (ps : List Word) → 0 < length ps → 0 < length (shortened ps)
some_shortened [] h = h
some_shortened (p ∷ ps) h = omega arith

some_words : (said : List ℕ) → 0 < length (line_words said)
unfolding line_words
some_words said = some_shortened (parts 32 said) (some_parts 32 said)

pub line_marked : (said : List ℕ) → codes "> " ++ line (line_words said) ≡ line (codes ">" ∷ line_words said)
line_marked said = sym (line_led (codes ">") (line_words said) ∙ ap (λ (l : List ℕ). 62 ∷ l) (led_some (line_words said) (some_words said)))

-- ---- what says the payload

if_yes : {A : Type 0} (t : Bool) (a b : A) → t ≡ true → (if t then a else b) ≡ a
if_yes true a b h = refl
if_yes false a b h = absurd cc

if_no : {A : Type 0} (t : Bool) (a b : A) → t ≡ false → (if t then a else b) ≡ b
if_no true a b h = absurd cc
if_no false a b h = refl

pub written_told : (said payload : List ℕ) → tells (line (codes ">" ∷ line_words said)) payload ≡ true → written_words said payload ≡ codes ">" ∷ line_words said
unfolding say
written_told said payload h = if_yes (say (codes ">" ∷ line_words said) payload) (codes ">" ∷ line_words said) (frame_words payload) h

pub written_not : (said payload : List ℕ) → tells (line (codes ">" ∷ line_words said)) payload ≡ false → written_words said payload ≡ frame_words payload
unfolding say
written_not said payload h = if_no (say (codes ">" ∷ line_words said) payload) (codes ">" ∷ line_words said) (frame_words payload) h

-- what was put behind a text, and the text before it
pub put_behind : (a b c : List ℕ) (n : ℕ) → n ≡ length a → c ≡ a ++ b → take (length c - n) (drop n c) ≡ b
put_behind a b c n e f =
    let last : drop n c ≡ b = rw (e, f) (drop-append_seam a b) in
    let fits : length b ≤ length c - n = omega (arith, e, ap length f, length-append a b) in
    ap (λ (l : List ℕ). take (length c - n) l) last ∙ take_all (length c - n) b fits

pub put_before : (a b c : List ℕ) (n : ℕ) → n ≡ length a → c ≡ a ++ b → take n c ≡ a
put_before a b c n e f = rw (e, f) (take-append_seam a b)

-- what the words of a line want
pub ruleset shortening = (told_some, short_told, short_not)
