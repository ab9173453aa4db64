-- Blocks in the words of their chain, where these spell the very bytes.
use Rattle.std.proofs.Common.{◌≡◌, ℕ, zero, suc, ◌-◌, ◌/◌, ◌<◌, ◌≤◌, ◌==◌, if◌then◌else◌, Bool, true, false, not, List, [], ◌∷◌, ◌++◌, length, map, take, drop, codes, decimal, Result, Ok, Err, refl, sym, ap, ◌∙◌, append_assoc, subst, arith}
use Rattle.std.specs.List.{AllByRecursion, join_with_byte, list_all}
use Rattle.std.proofs.lemmas.Bool.{eqb-true}
use Rattle.std.proofs.lemmas.List.{take-append-drop, length-append}
use Rattle.std.proofs.lemmas.List.Elements.{All-head, All-tail}
use Rattle.std.proofs.lemmas.List.Splits.{join_with_byte-slice_split, slice_split-cons_no}
use Rattle.byteorder.specs.Endian.{big_number}
use Rattle.byteorder.specs.Numbers.{big_from-lt}
use Rattle.snow_wire.specs.Model.Frame.{IsPayload}
use Rattle.snow_wire.specs.Model.Reading.{IsBytes}
use Rattle.snow_wire.specs.Model.Spelling.{IsSender, counted, number, sender, sized}
use Rattle.snow_wire.proofs.Numbers.{IsBytes-behind, IsBytes-take}
use Rattle.snow_text_model.specs.declared.block_form.BlockForm.{BlockForm}
use Rattle.snow_text_model.specs.declared.block_form.BlockForm.TheVariants as form
use Rattle.snow_text_model.specs.Model.Words.{Word, Halt, all, parts, spaced, all_of}
use Rattle.snow_text_model.specs.Model.Bytes.{bytes_text, fixed_text, short, some_of, trimmed}
use Rattle.snow_text_model.specs.Model.Events.{block_of, blocks_of, listed_block, payload_of, sized_block}
use Rattle.snow_text_model.specs.Model.Blocks.{behind_words, block_line, block_words, is_block, transfer_text, transfer_texts, words_if, words_in}
use Rattle.snow_text_model.specs.Model.Shown.{line, listed_text, say, sent_words, some_word}
use Rattle.snow_text_model.proofs.Marks.{AllLack, Lacks, comma, lacks_both, lacks_cons, lacks_from, lacks_joined, lacks_nil, parts_joined, parts_more}
use Rattle.snow_text_model.proofs.Runs.{bytes_front}
use Rattle.snow_text_model.proofs.Pieces.{bytes_text_is, short_is, told_same}
use Rattle.snow_text_model.proofs.Framed.{filter_all}
use Rattle.snow_text_model.proofs.Values.{IsValue, decimal_value, some_some, trimmed_ends}
use Rattle.snow_text_model.proofs.Fields.{all_each, all_fills, each_again, listed_again, no_items}
use Rattle.snow_text_model.proofs.Clean.{AreClean, IsClean, clean_at, clean_value, words_from, gaps_from}
use Rattle.snow_text_model.proofs.Worded.{Worded, block_again, items_bytes, known, sent_says}

-- ---- words of blocks

-- a clean word without a comma
pub record IsPart (word : Word) : Type 0 where
  pub clean : IsClean word
  pub apart : Lacks 44 word

abbrev pub AreParts : List Word → Type 0
AreParts [] = Unit {0}
AreParts (word ∷ more) = IsPart word × AreParts more

parts_clean : (ws : List Word) → AreParts ws → AreClean ws
parts_clean [] h = tt
parts_clean (w ∷ ws) h = (h.0.clean, parts_clean ws h.1)

parts_apart : (ws : List Word) → AreParts ws → AllLack 44 ws
parts_apart [] h = tt
parts_apart (w ∷ ws) h = (h.0.apart, parts_apart ws h.1)

value_part : (word : Word) → IsValue word → IsPart word
value_part word is = record { clean = clean_value word is; apart = is.lacks 44 comma refl refl refl }

name_part : (word : Word) → 0 < length word → list_all (λ b. not (b == 10)) word ≡ true → list_all (λ b. not (b == 32)) word ≡ true → list_all (λ b. not (b == 35)) word ≡ true → list_all (λ b. not (b == 44)) word ≡ true → IsPart word
name_part word some line gap note apart = record { clean = known word some line gap note; apart = lacks_from 44 word apart }

part_at : (c : ℕ) (a b : Word) → c == 10 ≡ false → c == 32 ≡ false → c == 35 ≡ false → c == 44 ≡ false → IsPart a → IsPart b → IsPart (a ++ c ∷ b)
part_at c a b line gap note apart pa pb = record { clean = clean_at c a b line gap note pa.clean pb.clean; apart = lacks_both 44 a (c ∷ b) pa.apart (lacks_cons 44 c b apart pb.apart) }

-- ---- fields of blocks

bytes_drop : (n : ℕ) (bytes : List ℕ) → IsBytes bytes → IsBytes (drop n bytes)
bytes_drop n bytes fits = IsBytes-behind (take n bytes) (drop n bytes) (subst IsBytes (sym (take-append-drop n bytes)) fits)

some_bytes : (front : List ℕ) → IsBytes front → IsBytes (some_of front)
some_bytes [] fits zero = omega arith
some_bytes [] fits (suc k) = omega arith
some_bytes (b ∷ front) fits k = fits k

fixed_if : (t : Bool) (front bytes : List ℕ) → (t ≡ true → length front ≡ length bytes) → 0 < length front → IsBytes front → IsBytes bytes → IsValue (if t then short bytes else short front ++ codes "..")
fixed_if true front bytes h some own fits =
    let same = h refl in
    let is = short_is bytes fits (omega (arith, some, same)) in
    record { some = is.some; lacks = λ c mark star plus stop. is.lacks c mark star plus }
fixed_if false front bytes h some own fits =
    let is = short_is front own some in
    let long = is.some in
    record {
      some = omega (arith, long, length-append (short front) (codes ".."));
      lacks = λ c mark star plus stop. lacks_both c (short front) (codes "..") (is.lacks c mark star plus) (lacks_cons c 46 (46 ∷ []) stop (lacks_cons c 46 [] stop (lacks_nil c)));
    }

-- the short form of any bytes, with or without zeros at its end
fixed_part : (bytes : List ℕ) → IsBytes bytes → IsPart (fixed_text bytes)
unfolding fixed_text
fixed_part bytes fits =
    let ends = trimmed_ends bytes in
    let own = bytes_front (trimmed bytes) _ (subst IsBytes ends.whole fits) in
    let front = some_of (trimmed bytes) in
    value_part _ (fixed_if (length front == length bytes) front bytes (eqb-true (length front) (length bytes)) (some_some (trimmed bytes)) (some_bytes (trimmed bytes) own) fits)

long_part : (bytes : List ℕ) → IsBytes bytes → IsPart (decimal (big_number 8 bytes))
long_part bytes fits = let small = big_from-lt 0 8 bytes fits in value_part (decimal (big_number 8 bytes)) (decimal_value (big_number 8 bytes) (omega (arith, small)))

two_part : (bytes : List ℕ) → IsBytes bytes → IsPart (decimal (big_number 2 bytes))
two_part bytes fits = let small = big_from-lt 0 2 bytes fits in value_part (decimal (big_number 2 bytes)) (decimal_value (big_number 2 bytes) (omega (arith, small)))

byte_part : (bytes : List ℕ) → IsBytes bytes → IsPart (decimal (big_number 1 bytes))
byte_part bytes fits = let small = big_from-lt 0 1 bytes fits in value_part (decimal (big_number 1 bytes)) (decimal_value (big_number 1 bytes) (omega (arith, small)))

text_part : (bytes : List ℕ) → IsBytes bytes → IsPart (bytes_text bytes)
text_part bytes fits = let is = bytes_text_is bytes fits in value_part (bytes_text bytes) (record { some = is.some; lacks = is.lacks })

behind_parts : (bytes : List ℕ) → IsBytes bytes → AreParts (behind_words bytes)
behind_parts [] fits = tt
behind_parts (b ∷ bytes) fits = (text_part (b ∷ bytes) fits, tt)

transfer_part : (t : List ℕ) → IsBytes t → IsPart (transfer_text t)
transfer_part t fits =
    part_at 62 (decimal (big_number 2 t)) (decimal (big_number 2 (drop 2 t)) ++ 58 ∷ (decimal (big_number 8 (drop 4 t)) ++ 64 ∷ decimal (big_number 8 (drop 12 t)))) refl refl refl refl (two_part t fits)
    (part_at 58 (decimal (big_number 2 (drop 2 t))) (decimal (big_number 8 (drop 4 t)) ++ 64 ∷ decimal (big_number 8 (drop 12 t))) refl refl refl refl (two_part (drop 2 t) (bytes_drop 2 t fits))
    (part_at 64 (decimal (big_number 8 (drop 4 t))) (decimal (big_number 8 (drop 12 t))) refl refl refl refl (long_part (drop 4 t) (bytes_drop 4 t fits)) (long_part (drop 12 t) (bytes_drop 12 t fits))))

transfers_parts : (n : ℕ) (bytes : List ℕ) → IsBytes bytes → AreParts (transfer_texts n bytes)
transfers_parts zero bytes fits = tt
transfers_parts (suc n) bytes fits = (transfer_part (take 20 bytes) (IsBytes-take 20 bytes fits), transfers_parts n (drop 20 bytes) (bytes_drop 20 bytes fits))

-- ---- the words of a block

chain_parts : (f : BlockForm) (bytes : List ℕ) → IsBytes bytes → AreParts (words_in f bytes)
chain_parts form.Bytes bytes fits = (text_part bytes fits, tt)
chain_parts form.Plain bytes fits = (
  name_part (codes "plain") (omega arith) refl refl refl refl,
  (
    fixed_part (take 32 bytes) (IsBytes-take 32 bytes fits),
    (
      fixed_part (take 32 (drop 32 bytes)) (IsBytes-take 32 (drop 32 bytes) (bytes_drop 32 bytes fits)),
      (long_part (drop 64 bytes) (bytes_drop 64 bytes fits), (byte_part (drop 72 bytes) (bytes_drop 72 bytes fits), behind_parts (drop 73 bytes) (bytes_drop 73 bytes fits))),
    ),
  ),
)
chain_parts form.Tally bytes fits = (
  name_part (codes "tally") (omega arith) refl refl refl refl,
  (
    fixed_part (take 32 bytes) (IsBytes-take 32 bytes fits),
    (long_part (drop 32 bytes) (bytes_drop 32 bytes fits), (long_part (drop 40 bytes) (bytes_drop 40 bytes fits), behind_parts (drop 48 bytes) (bytes_drop 48 bytes fits))),
  ),
)
chain_parts form.Ledger bytes fits = (
  name_part (codes "ledger") (omega arith) refl refl refl refl,
  (
    fixed_part (take 32 bytes) (IsBytes-take 32 bytes fits),
    (long_part (drop 32 bytes) (bytes_drop 32 bytes fits), transfers_parts ((length bytes - 42) / 20) (drop 42 bytes) (bytes_drop 42 bytes fits)),
  ),
)

-- words that are read as a block
pub record IsBlockWords (ws : List Word) (bytes : List ℕ) : Type 0 where
  pub some : 0 < length ws
  pub are : AreParts ws
  pub again : block_of [] ws ≡ Ok bytes

as_bytes : (bytes : List ℕ) → IsBytes bytes → IsBlockWords (bytes_text bytes ∷ []) bytes
as_bytes bytes fits = record { some = omega arith; are = (text_part bytes fits, tt); again = block_again (bytes_text bytes) bytes (bytes_text_is bytes fits) }

block_told : (bytes : List ℕ) (r : Result (List ℕ) Halt) → is_block bytes r ≡ true → r ≡ Ok bytes
block_told bytes (Ok found) h = ap Ok (told_same found bytes h)
block_told bytes (Err halt) h = absurd cc

words_if_are : (t : Bool) (ws : List Word) (bytes : List ℕ) → 0 < length ws → AreParts ws → IsBytes bytes → (t ≡ true → block_of [] ws ≡ Ok bytes) → IsBlockWords (words_if t ws bytes) bytes
words_if_are true ws bytes some are fits h = record { some = some; are = are; again = h refl }
words_if_are false ws bytes some are fits h = as_bytes bytes fits

-- the words of a block are read as its bytes
pub block_are : (f : BlockForm) (bytes : List ℕ) → IsBytes bytes → IsBlockWords (block_words f bytes) bytes
block_are form.Bytes bytes fits = as_bytes bytes fits
block_are form.Plain bytes fits =
    let ws = words_in form.Plain bytes in
    words_if_are (is_block bytes (block_of [] ws)) ws bytes (omega arith) (chain_parts form.Plain bytes fits) fits (block_told bytes (block_of [] ws))
block_are form.Tally bytes fits =
    let ws = words_in form.Tally bytes in
    words_if_are (is_block bytes (block_of [] ws)) ws bytes (omega arith) (chain_parts form.Tally bytes fits) fits (block_told bytes (block_of [] ws))
block_are form.Ledger bytes fits =
    let ws = words_in form.Ledger bytes in
    words_if_are (is_block bytes (block_of [] ws)) ws bytes (omega arith) (chain_parts form.Ledger bytes fits) fits (block_told bytes (block_of [] ws))

-- a block at the end of a line
pub block_worded : (f : BlockForm) (bytes : List ℕ) → IsBytes bytes → Worded (all (sized_block [])) (block_words f bytes) (sized bytes)
block_worded f bytes fits =
    let are = block_are f bytes fits in
    record { fills = all_fills (sized_block []) (block_words f bytes) (sized bytes) (rw are.again refl); clean = parts_clean (block_words f bytes) are.are }

-- ---- texts of words with one space between two of them

-- a text that is cut into clean words
pub record IsTidy (text : List ℕ) : Type 0 where
  pub first : Word
  pub more : List Word
  pub cut : parts 32 text ≡ first ∷ more
  pub clean : AreClean (first ∷ more)

tidy_line : (w : Word) (ws : List Word) → AreParts (w ∷ ws) → IsTidy (line (w ∷ ws))
tidy_line w ws are = let clean = parts_clean (w ∷ ws) are in record { first = w; more = ws; cut = parts_joined 32 w ws (gaps_from (w ∷ ws) clean); clean = clean }

onto_word : (w x p : List ℕ) (ps : List (List ℕ)) → Lacks 32 w → parts 32 x ≡ p ∷ ps → parts 32 (w ++ x) ≡ (w ++ p) ∷ ps
onto_word [] x p ps lacks e = e
onto_word (c ∷ w) x p ps lacks e =
    slice_split-cons_no (λ b. b == 32) c (w ++ x) (All-head (λ b. b == 32 ≡ false) c w lacks)
    ∙ rw (onto_word w x p ps (All-tail (λ b. b == 32 ≡ false) c w lacks) e) refl

tidy_both : (w : Word) (ws : List Word) (x : List ℕ) → AreParts (w ∷ ws) → IsTidy x → IsTidy (line (w ∷ ws) ++ 44 ∷ x)
tidy_both w [] x are tidy =
    let clean = are.0.clean in
    let lacks = lacks_both 32 w (44 ∷ []) clean.gap (lacks_cons 32 44 [] refl (lacks_nil 32)) in
    record {
      first = w ++ 44 ∷ tidy.first;
      more = tidy.more;
      cut = ap (parts 32) (sym (append_assoc w (44 ∷ []) x)) ∙ onto_word (w ++ 44 ∷ []) x tidy.first tidy.more lacks tidy.cut ∙ ap (λ (l : List ℕ). l ∷ tidy.more) (append_assoc w (44 ∷ []) tidy.first);
      clean = (clean_at 44 w tidy.first refl refl refl clean tidy.clean.0, tidy.clean.1);
    }
tidy_both w (u ∷ ws) x are tidy =
    let rest = tidy_both u ws x are.1 tidy in
    record {
      first = w;
      more = rest.first ∷ rest.more;
      cut = ap (parts 32) (append_assoc w (32 ∷ line (u ∷ ws)) (44 ∷ x)) ∙ parts_more 32 w (line (u ∷ ws) ++ 44 ∷ x) are.0.clean.gap ∙ ap (λ (l : List Word). w ∷ l) rest.cut;
      clean = (are.0.clean, rest.clean);
    }

tidy_one : (ws : List Word) → 0 < length ws → AreParts ws → IsTidy (line ws)
tidy_one [] some are = absurd (omega (arith, some))
tidy_one (w ∷ ws) some are = tidy_line w ws are

tidy_with : (ws : List Word) (x : List ℕ) → 0 < length ws → AreParts ws → IsTidy x → IsTidy (line ws ++ 44 ∷ x)
tidy_with [] x some are tidy = absurd (omega (arith, some))
tidy_with (w ∷ ws) x some are tidy = tidy_both w ws x are tidy

spaced_again : (ws : List Word) → 0 < length ws → AreParts ws → spaced (line ws) ≡ ws
unfolding spaced
spaced_again [] some are = absurd (omega (arith, some))
spaced_again (w ∷ ws) some are =
    let clean = parts_clean (w ∷ ws) are in
    rw (parts_joined 32 w ws (gaps_from (w ∷ ws) clean)) (filter_all (w ∷ ws) (words_from (w ∷ ws) clean))

-- ---- lists of blocks

abbrev GoodBlock : List ℕ → Type 0
GoodBlock bytes = IsBytes (sized bytes)

good_are : (f : BlockForm) (bytes : List ℕ) → GoodBlock bytes → IsBlockWords (block_words f bytes) bytes
good_are f bytes good = block_are f bytes (IsBytes-behind (number 4 (length bytes)) bytes good)

one_again : (f : BlockForm) (bytes : List ℕ) → GoodBlock bytes → listed_block [] (block_line f bytes) ≡ Ok (sized bytes ∷ [])
one_again f bytes good = let are = good_are f bytes good in rw (spaced_again (block_words f bytes) are.some are.are, are.again) refl

lines_apart : (f : BlockForm) (blocks : List (List ℕ)) → AllByRecursion GoodBlock blocks → AllLack 44 (map (block_line f) blocks)
lines_apart f [] good = tt
lines_apart f (b ∷ bs) good = (lacks_joined 44 32 refl (block_words f b) (parts_apart (block_words f b) (good_are f b good.0).are), lines_apart f bs good.1)

blocks_tidy : (f : BlockForm) (b : List ℕ) (bs : List (List ℕ)) → AllByRecursion GoodBlock (b ∷ bs) → IsTidy (listed_text (map (block_line f) (b ∷ bs)))
blocks_tidy f b [] good = let are = good_are f b good.0 in tidy_one (block_words f b) are.some are.are
blocks_tidy f b (c ∷ bs) good =
    let are = good_are f b good.0 in
    tidy_with (block_words f b) (listed_text (map (block_line f) (c ∷ bs))) are.some are.are (blocks_tidy f c bs good.1)

-- the words of blocks as a line keeps them
tidy_worded : (f : BlockForm) (blocks : List (List ℕ)) (b : List ℕ) (bs : List (List ℕ)) → blocks ≡ b ∷ bs → length blocks ≤ 2048 → AllByRecursion GoodBlock (b ∷ bs) → (tidy : IsTidy (listed_text (map (block_line f) (b ∷ bs))))
    → Worded (all (blocks_of [])) (tidy.first ∷ tidy.more) (counted sized (b ∷ bs))
unfolding blocks_of
tidy_worded f blocks b bs e few good tidy =
    let text = listed_text (map (block_line f) (b ∷ bs)) in
    let whole : join_with_byte 32 (tidy.first ∷ tidy.more) ≡ text = ap (join_with_byte 32) (sym tidy.cut) ∙ join_with_byte-slice_split 32 text in
    let long : length (b ∷ bs) ≤ 2048 = subst (λ (l : List (List ℕ)). length l ≤ 2048) e few in
    let first = block_line f b in
    let others = map (block_line f) bs in
    let cut : parts 44 text ≡ first ∷ others = parts_joined 44 first others (lines_apart f (b ∷ bs) good) in
    let read : all_of (listed_block []) (first ∷ others) ≡ Ok (map sized (b ∷ bs)) =
    all_each (listed_block []) (first ∷ others) (map sized (b ∷ bs)) (each_again {Good = GoodBlock} (listed_block []) (block_line f) sized (one_again f) (b ∷ bs) good) in
    record {
      fills = all_fills (blocks_of []) (tidy.first ∷ tidy.more) (counted sized (b ∷ bs)) (rw (whole, cut, read, listed_again sized (b ∷ bs) (omega (arith, long))) refl);
      clean = tidy.clean;
    }

-- the test reads the line of words alone
same_line : (ws vs : List Word) (payload : List ℕ) → line ws ≡ line vs → say vs payload ≡ true → say ws payload ≡ true
unfolding say
same_line ws vs payload e h = rw e h

none_worded : Worded (all (blocks_of [])) [] (counted sized [])
unfolding blocks_of
none_worded = record { fills = all_fills (blocks_of []) [] (counted sized []) (ap Ok (no_items sized [] refl)); clean = tt }

-- a list of blocks behind a node and a request
pub ancestors_say : (f : BlockForm) (node : List ℕ) (request : ℕ) (blocks : List (List ℕ)) → length blocks ≤ 2048 → IsSender node request → IsBytes (9 ∷ (sender node request ++ counted sized blocks)) → IsPayload (9 ∷ (sender node request ++ counted sized blocks))
    → IsBytes (counted sized blocks) → say (sent_words (codes "ancestors") node request (some_word (map (block_line f) blocks))) (9 ∷ (sender node request ++ counted sized blocks)) ≡ true
unfolding payload_of
ancestors_say f node request [] few is fits small own =
    sent_says (codes "ancestors") 9 (all (blocks_of [])) node request [] (counted sized []) (refl, refl) (known (codes "ancestors") (omega arith) refl refl refl) is fits small (λ more. refl) none_worded
ancestors_say f node request (b ∷ bs) few is fits small own =
    let good : AllByRecursion GoodBlock (b ∷ bs) = items_bytes sized (b ∷ bs) own in
    let text = listed_text (map (block_line f) (b ∷ bs)) in
    let tidy = blocks_tidy f b bs good in
    let whole : text ≡ line (tidy.first ∷ tidy.more) = sym (join_with_byte-slice_split 32 text) ∙ ap (join_with_byte 32) tidy.cut in
    let payload = 9 ∷ (sender node request ++ counted sized (b ∷ bs)) in
    let said = sent_says (codes "ancestors") 9 (all (blocks_of [])) node request (tidy.first ∷ tidy.more) (counted sized (b ∷ bs)) (refl, refl) (known (codes "ancestors") (omega arith) refl refl refl) is fits small (λ more. refl) (tidy_worded f (b ∷ bs) b bs refl few good tidy) in
    same_line (sent_words (codes "ancestors") node request (text ∷ [])) (sent_words (codes "ancestors") node request (tidy.first ∷ tidy.more)) payload
    (ap (λ (l : List ℕ). codes "ancestors" ++ 32 ∷ (fixed_text node ++ 32 ∷ (decimal request ++ 32 ∷ l))) whole) said
