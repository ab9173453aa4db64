-- Which ledger blocks are shown in words: those that have just the transfers that they count.
use Rattle.std.proofs.Common.{◌≡◌, ℕ, zero, suc, ◌+◌, ◌-◌, ◌*◌, ◌/◌, ◌<◌, ◌≤◌, ◌^◌, ◌==◌, nat_le, nat_lt, if◌then◌else◌, true, false, List, [], ◌∷◌, ◌++◌, length, take, drop, decimal, Result, Ok, Err, refl, sym, ap, ◌∙◌, append_assoc, subst, inr, arith}
use Rattle.std.specs.List.{flat_map}
use Rattle.std.proofs.lemmas.Bool.{and_from, and_parts, eq-eqb, eqb-true, false_from_ne_true, le-leb, leb-true, lt-ltb, ltb-true, both_ways}
use Rattle.std.proofs.lemmas.List.{length-append, length-drop, length-take, take-append-drop, take_all}
use Rattle.std.proofs.lemmas.List.Concat.{flat_map-append}
use Rattle.std.proofs.Math.Seq.{drop-append_seam}
use Rattle.byteorder.specs.Endian.{big_number}
use Rattle.byteorder.specs.Numbers.{big_from-lt, big_number-reads_back, length-bytes_high_first}
use Rattle.snow_wire.specs.Model.Reading.{IsBytes}
use Rattle.snow_wire.specs.Model.Spelling.{counted, number}
use Rattle.snow_wire.proofs.Numbers.{IsBytes-take, front_spells, width2}
use Rattle.snow_text_model.specs.declared.refusal.Reason.{Reason}
use Rattle.snow_text_model.specs.declared.refusal.Reason.TheVariants as reason
use Rattle.snow_text_model.specs.declared.block_form.BlockForm.TheVariants as form
use Rattle.snow_text_model.specs.Model.Words.{Word, Field, ◌>>=◌, ◌&◌, all, all_of, at, ended, one, parts}
use Rattle.snow_text_model.specs.Model.Bytes.{bytes_text, fixed_text, item_word, number_word}
use Rattle.snow_text_model.specs.Model.Events.{block_of, listed, list_field, pair, ledger, transfer_word}
use Rattle.snow_text_model.specs.Model.Blocks.{block_words, is_block, transfer_text, transfer_texts, words_in}
use Rattle.snow_show.specs.Kept.Listing.{is_ledger}
use Rattle.snow_text_model.proofs.Marks.{IsMark, colon, decimal_lacks, lacks_both, lacks_cons, parts_more, parts_one}
use Rattle.snow_text_model.proofs.Fields.{all_fills}
use Rattle.snow_show.proofs.Blocked.{at_ok, bytes_drop, dropped, end_if, ended_fills, found_again, front_fills, id_read, item_long, long_drop, long_read, number_long, told_found, two_read, was_read, where_ok, words_else, words_then}

greater : IsMark 62
greater = record { table = refl; zero_too = refl; outside = inr (omega arith) }

at_sign : IsMark 64
at_sign = record { table = refl; zero_too = refl; outside = inr (omega arith) }

-- ---- a transfer is read again

pieces_whole : (t : List ℕ) → length t ≡ 20 → ((take 2 t ++ take 2 (drop 2 t)) ++ take 8 (drop 4 t)) ++ take 8 (drop 12 t) ≡ t
pieces_whole t long =
    let last : take 8 (drop 12 t) ≡ drop 8 (drop 4 t) = take_all 8 (drop 12 t) (omega (arith, long, length-drop 12 t)) ∙ sym (dropped 4 8 12 t refl) in
    let third : take 8 (drop 4 t) ++ take 8 (drop 12 t) ≡ drop 2 (drop 2 t) = ap (λ (l : List ℕ). take 8 (drop 4 t) ++ l) last ∙ take-append-drop 8 (drop 4 t) ∙ sym (dropped 2 2 4 t refl) in
    append_assoc (take 2 t ++ take 2 (drop 2 t)) (take 8 (drop 4 t)) (take 8 (drop 12 t)) ∙ append_assoc (take 2 t) (take 2 (drop 2 t)) (take 8 (drop 4 t) ++ take 8 (drop 12 t))
    ∙ ap (λ (l : List ℕ). take 2 t ++ (take 2 (drop 2 t) ++ l)) third ∙ ap (λ (l : List ℕ). take 2 t ++ l) (take-append-drop 2 (drop 2 t)) ∙ take-append-drop 2 t

two_fits : (bytes : List ℕ) → IsBytes bytes → big_number 2 bytes < 2 ^ 64
two_fits bytes fits = let small = big_from-lt 0 2 bytes fits in omega (arith, small)

eight_fits : (bytes : List ℕ) → IsBytes bytes → big_number 8 bytes < 2 ^ 64
eight_fits bytes fits = let small = big_from-lt 0 8 bytes fits in omega (arith, small)

transfer_read : (t : List ℕ) → length t ≡ 20 → IsBytes t → transfer_word (transfer_text t) ≡ Ok (t ∷ [])
unfolding transfer_word
transfer_read t long fits =
    let a = decimal (big_number 2 t) in
    let b = decimal (big_number 2 (drop 2 t)) in
    let c = decimal (big_number 8 (drop 4 t)) in
    let d = decimal (big_number 8 (drop 12 t)) in
    let fa = two_fits t fits in
    let fb = two_fits (drop 2 t) (bytes_drop 2 t fits) in
    let fc = eight_fits (drop 4 t) (bytes_drop 4 t fits) in
    let fd = eight_fits (drop 12 t) (bytes_drop 12 t fits) in
    let behind_b = lacks_cons 62 58 (c ++ 64 ∷ d) refl (lacks_both 62 c (64 ∷ d) (decimal_lacks 62 greater (big_number 8 (drop 4 t)) fc) (lacks_cons 62 64 d refl (decimal_lacks 62 greater (big_number 8 (drop 12 t)) fd))) in
    let first : parts 62 (a ++ 62 ∷ (b ++ 58 ∷ (c ++ 64 ∷ d))) ≡ a ∷ (b ++ 58 ∷ (c ++ 64 ∷ d)) ∷ [] =
    parts_more 62 a (b ++ 58 ∷ (c ++ 64 ∷ d)) (decimal_lacks 62 greater (big_number 2 t) fa)
    ∙ ap (λ (l : List Word). a ∷ l) (parts_one 62 (b ++ 58 ∷ (c ++ 64 ∷ d)) (lacks_both 62 b (58 ∷ (c ++ 64 ∷ d)) (decimal_lacks 62 greater (big_number 2 (drop 2 t)) fb) behind_b)) in
    let second : parts 58 (b ++ 58 ∷ (c ++ 64 ∷ d)) ≡ b ∷ (c ++ 64 ∷ d) ∷ [] =
    parts_more 58 b (c ++ 64 ∷ d) (decimal_lacks 58 colon (big_number 2 (drop 2 t)) fb)
    ∙ ap (λ (l : List Word). b ∷ l) (parts_one 58 (c ++ 64 ∷ d) (lacks_both 58 c (64 ∷ d) (decimal_lacks 58 colon (big_number 8 (drop 4 t)) fc) (lacks_cons 58 64 d refl (decimal_lacks 58 colon (big_number 8 (drop 12 t)) fd)))) in
    let third : parts 64 (c ++ 64 ∷ d) ≡ c ∷ d ∷ [] =
    parts_more 64 c d (decimal_lacks 64 at_sign (big_number 8 (drop 4 t)) fc) ∙ ap (λ (l : List Word). c ∷ l) (parts_one 64 d (decimal_lacks 64 at_sign (big_number 8 (drop 12 t)) fd)) in
    let na = two_read t (omega (arith, long)) fits in
    let nb = two_read (drop 2 t) (long_drop 2 2 t (omega (arith, long))) (bytes_drop 2 t fits) in
    let nc = long_read (drop 4 t) (long_drop 4 8 t (omega (arith, long))) (bytes_drop 4 t fits) in
    let nd = long_read (drop 12 t) (long_drop 12 8 t (omega (arith, long))) (bytes_drop 12 t fits) in
    rw (first, second, third, na, nb, nc, nd) (ap (λ (l : List ℕ). Ok (l ∷ [])) (pieces_whole t long))

-- ---- transfers are read again

chunks : ℕ → List ℕ → List (List ℕ)
chunks zero bytes = []
chunks (suc n) bytes = take 20 bytes ∷ chunks n (drop 20 bytes)

length_chunks : (n : ℕ) (bytes : List ℕ) → length (chunks n bytes) ≡ n
unfolding chunks
length_chunks zero bytes = refl
length_chunks (suc n) bytes = ap suc (length_chunks n (drop 20 bytes))

flat_chunks : (n : ℕ) (bytes : List ℕ) → length bytes ≡ 20 * n → flat_map (λ (x : List ℕ). x) (chunks n bytes) ≡ bytes
unfolding chunks
flat_chunks zero [] h = refl
flat_chunks zero (b ∷ bytes) h = absurd (omega (arith, h))
flat_chunks (suc n) bytes h =
    ap (λ (l : List ℕ). take 20 bytes ++ l) (flat_chunks n (drop 20 bytes) (omega (arith, h, length-drop 20 bytes))) ∙ take-append-drop 20 bytes

transfers_read : (n : ℕ) (bytes : List ℕ) → length bytes ≡ 20 * n → IsBytes bytes → all_of transfer_word (transfer_texts n bytes) ≡ Ok (chunks n bytes)
unfolding all_of chunks
transfers_read zero bytes h fits = refl
transfers_read (suc n) bytes h fits =
    rw (transfer_read (take 20 bytes) (omega (arith, h, length-take 20 bytes)) (IsBytes-take 20 bytes fits), transfers_read n (drop 20 bytes) (omega (arith, h, length-drop 20 bytes)) (bytes_drop 20 bytes fits)) refl

listed_chunks : (n : ℕ) (bytes : List ℕ) → length bytes ≡ 20 * n → n < 65536 → listed (chunks n bytes) ≡ Ok (number 2 n ++ bytes)
unfolding listed
listed_chunks n bytes h few =
    rw (length_chunks n bytes, lt-ltb n 65536 few) (ap (λ (l : List ℕ). Ok (number 2 n ++ l)) (flat_chunks n bytes h))

list_read : (n : ℕ) (bytes : List ℕ) → length bytes ≡ 20 * n → n < 65536 → IsBytes bytes → (all_of transfer_word (transfer_texts n bytes) >>= λ items. at [] (listed items)) ≡ Ok (number 2 n ++ bytes)
list_read n bytes h few fits = rw (transfers_read n bytes h fits, listed_chunks n bytes h few) refl

count_front : (bytes : List ℕ) → 2 ≤ length bytes → IsBytes bytes → number 2 (big_number 2 bytes) ++ drop 2 bytes ≡ bytes
unfolding number
count_front bytes h fits = ap (λ (l : List ℕ). l ++ drop 2 bytes) (front_spells 2 width2 bytes h fits) ∙ take-append-drop 2 bytes

ledger_again : (bytes : List ℕ) → IsBytes bytes → 42 ≤ length bytes → length bytes ≡ 42 + 20 * big_number 2 (drop 40 bytes) → block_of [] (words_in form.Ledger bytes) ≡ Ok bytes
unfolding block_of
ledger_again bytes fits h e =
    let n = big_number 2 (drop 40 bytes) in
    let small = big_from-lt 0 2 (drop 40 bytes) (bytes_drop 40 bytes fits) in
    let count : (length bytes - 42) / 20 ≡ n = omega (arith, e) in
    let own : number 2 n ++ drop 42 bytes ≡ drop 40 bytes = ap (λ (l : List ℕ). number 2 n ++ l) (sym (dropped 40 2 42 bytes refl)) ∙ count_front (drop 40 bytes) (long_drop 40 2 bytes (omega (arith, h))) (bytes_drop 40 bytes fits) in
    let list : (all_of transfer_word (transfer_texts ((length bytes - 42) / 20) (drop 42 bytes)) >>= λ items. at [] (listed items)) ≡ Ok (drop 40 bytes) =
    ap (λ (k : ℕ). all_of transfer_word (transfer_texts k (drop 42 bytes)) >>= λ items. at [] (listed items)) count ∙ list_read n (drop 42 bytes) (omega (arith, e, length-drop 42 bytes)) (omega (arith, small)) (bytes_drop 42 bytes fits) ∙ ap Ok own in
    ended_fills ((ledger []).fields) (fixed_text (take 32 bytes) ∷ decimal (big_number 8 (drop 32 bytes)) ∷ transfer_texts ((length bytes - 42) / 20) (drop 42 bytes)) bytes
    (front_fills 32 (item_word [] 32) _ _ _ bytes (id_read bytes (omega (arith, h)) fits)
    (front_fills 8 (number_word 8) _ _ _ (drop 32 bytes) (long_read (drop 32 bytes) (long_drop 32 8 bytes (omega (arith, h))) (bytes_drop 32 bytes fits))
    (rw (dropped 32 8 40 bytes refl) (all_fills (λ words. all_of transfer_word words >>= λ items. at [] (listed items)) (transfer_texts ((length bytes - 42) / 20) (drop 42 bytes)) (drop 40 bytes) list))))

-- ---- what is read has just the transfers that it counts

-- the first of two fields, and the second
pub record Both (a b : Field) (ws : List Word) (x : List ℕ) : Type 0 where
  pub first : List ℕ × List Word
  pub second : List ℕ × List Word
  pub first_read : a ws ≡ Ok first
  pub second_read : b first.1 ≡ Ok second
  pub whole : first.0 ++ second.0 ≡ x

both_read : (a b : Field) (ws : List Word) (x : List ℕ × List Word) → (a & b) ws ≡ Ok x → Both a b ws x.0
unfolding ◌&◌
both_read a b ws x e =
    let first = was_read (a ws) (λ y. b y.1 >>= λ z. Ok (y.0 ++ z.0, z.1)) x e in
    let second = was_read (b first.value.1) (λ z. Ok (first.value.0 ++ z.0, z.1)) x first.gives in
    let same : (first.value.0 ++ second.value.0, second.value.1) ≡ x = cc second.gives in
    record { first = first.value; second = second.value; first_read = first.read; second_read = second.read; whole = ap (λ (p : List ℕ × List Word). p.0) same }

one_sized : (size : ℕ) (of : Word → Result (List ℕ) Reason) → ((w : Word) (found : List ℕ) → of w ≡ Ok found → length found ≡ size) → (ws : List Word) (x : List ℕ × List Word) → one of ws ≡ Ok x → length x.0 ≡ size
unfolding one
one_sized size of h [] x e = absurd cc
one_sized size of h (w ∷ ws) x e =
    let b = was_read (at (w ∷ ws) (of w)) (λ y. Ok (y, ws)) x e in
    let same : (b.value, ws) ≡ x = cc b.gives in
    ap (λ (p : List ℕ × List Word). length p.0) (sym same) ∙ h w b.value (at_ok (w ∷ ws) (of w) b.value b.read)

-- each item has 20 bytes
abbrev Twenty : List (List ℕ) → Type 0
Twenty items = length (flat_map (λ (x : List ℕ). x) items) ≡ 20 * length items

twenty_both : (a b : List (List ℕ)) → Twenty a → Twenty b → Twenty (a ++ b)
twenty_both a b ha hb =
    let flat = ap length (flat_map-append (λ (x : List ℕ). x) a b) ∙ length-append (flat_map (λ (x : List ℕ). x) a) (flat_map (λ (x : List ℕ). x) b) in
    omega (arith, ha, hb, flat, length-append a b)

transfer_twenty : (w : Word) (items : List (List ℕ)) → transfer_word w ≡ Ok items → Twenty items
unfolding transfer_word
transfer_twenty w items e =
    let from = was_read (pair reason.Transfer (parts 62 w)) _ items e in
    let to = was_read (pair reason.Transfer (parts 58 from.value.1)) _ items from.gives in
    let last = was_read (pair reason.Transfer (parts 64 to.value.1)) _ items to.gives in
    let a = was_read (number_word 2 from.value.0) _ items last.gives in
    let b = was_read (number_word 2 to.value.0) _ items a.gives in
    let c = was_read (number_word 8 last.value.0) _ items b.gives in
    let d = was_read (number_word 8 last.value.1) _ items c.gives in
    let same : (((a.value ++ b.value) ++ c.value) ++ d.value) ∷ [] ≡ items = cc d.gives in
    let la = number_long 2 from.value.0 a.value a.read in
    let lb = number_long 2 to.value.0 b.value b.read in
    let lc = number_long 8 last.value.0 c.value c.read in
    let ld = number_long 8 last.value.1 d.value d.read in
    let long : length ((((a.value ++ b.value) ++ c.value) ++ d.value) ++ []) ≡ 20 * 1 =
    omega (arith, la, lb, lc, ld, length-append (((a.value ++ b.value) ++ c.value) ++ d.value) [], length-append ((a.value ++ b.value) ++ c.value) d.value, length-append (a.value ++ b.value) c.value, length-append a.value b.value) in
    subst Twenty same long

all_twenty : (ws : List Word) (items : List (List ℕ)) → all_of transfer_word ws ≡ Ok items → Twenty items
unfolding all_of
all_twenty [] items e = let none : [] ≡ items = cc e in subst Twenty none refl
all_twenty (w ∷ ws) items e =
    let x = was_read (at (w ∷ ws) (transfer_word w)) (λ y. all_of transfer_word ws >>= λ ys. Ok (y ++ ys)) items e in
    let xs = was_read (all_of transfer_word ws) (λ ys. Ok (x.value ++ ys)) items x.gives in
    let same : x.value ++ xs.value ≡ items = cc xs.gives in
    subst Twenty same (twenty_both x.value xs.value (transfer_twenty w x.value (at_ok (w ∷ ws) (transfer_word w) x.value x.read)) (all_twenty ws xs.value xs.read))

-- a count, and so many transfers
pub record Counts (bytes : List ℕ) : Type 0 where
  pub items : List (List ℕ)
  pub few : length items < 65536
  pub twenty : Twenty items
  pub whole : number 2 (length items) ++ flat_map (λ (x : List ℕ). x) items ≡ bytes

list_counts : (ws : List Word) (x : List ℕ × List Word) → list_field transfer_word ws ≡ Ok x → Counts x.0
unfolding all listed
list_counts ws x e =
    let read = was_read (all_of transfer_word ws >>= λ items. at [] (listed items)) (λ y. Ok (y, [])) x e in
    let same : (read.value, []) ≡ x = cc read.gives in
    let items = was_read (all_of transfer_word ws) (λ items. at [] (listed items)) read.value read.read in
    let list = where_ok (nat_lt (length items.value) 65536) (counted (λ y. y) items.value) read.value _ (at_ok [] (listed items.value) read.value items.gives) in
    record {
      items = items.value;
      few = ltb-true (length items.value) 65536 list.0;
      twenty = all_twenty ws items.value items.read;
      whole = list.1 ∙ ap (λ (p : List ℕ × List Word). p.0) same;
    }

ledger_counts : (a b c : List ℕ) → length a ≡ 32 → length b ≡ 8 → Counts c → is_ledger (a ++ (b ++ c)) ≡ true
unfolding number
ledger_counts a b c la lb counts =
    let k = length counts.items in
    let flat = flat_map (λ (x : List ℕ). x) counts.items in
    let twenty = counts.twenty in
    let few = counts.few in
    let front : length (a ++ b) ≡ 40 = omega (arith, la, lb, length-append a b) in
    let behind : drop 40 (a ++ (b ++ c)) ≡ c = ap (drop 40) (sym (append_assoc a b c)) ∙ ap (λ (n : ℕ). drop n ((a ++ b) ++ c)) (sym front) ∙ drop-append_seam (a ++ b) c in
    let told : big_number 2 (drop 40 (a ++ (b ++ c))) ≡ k = ap (big_number 2) (behind ∙ sym counts.whole) ∙ big_number-reads_back 2 k flat (omega (arith, few)) in
    let two = length-bytes_high_first 2 k in
    let own : length c ≡ 2 + 20 * k = ap length (sym counts.whole) ∙ length-append (number 2 k) flat ∙ omega (arith, two, twenty) in
    let long : length (a ++ (b ++ c)) ≡ 42 + 20 * k = omega (arith, la, lb, own, length-append a (b ++ c), length-append b c) in
    and_from (nat_le 42 (length (a ++ (b ++ c)))) (length (a ++ (b ++ c)) == 42 + 20 * big_number 2 (drop 40 (a ++ (b ++ c))))
    (le-leb 42 (length (a ++ (b ++ c))) (omega (arith, long)))
    (eq-eqb (length (a ++ (b ++ c))) (42 + 20 * big_number 2 (drop 40 (a ++ (b ++ c)))) (long ∙ ap (λ (n : ℕ). 42 + 20 * n) (sym told)))

ledger_told : (bytes found : List ℕ) → block_of [] (words_in form.Ledger bytes) ≡ Ok found → is_ledger found ≡ true
unfolding block_of ended
ledger_told bytes found e =
    let ws = fixed_text (take 32 bytes) ∷ decimal (big_number 8 (drop 32 bytes)) ∷ transfer_texts ((length bytes - 42) / 20) (drop 42 bytes) in
    let read = was_read ((ledger []).fields ws) (λ x. if length x.1 == 0 then Ok x.0 else at x.1 (Err reason.Extra)) found e in
    let same = end_if (length read.value.1 == 0) read.value.0 found (at read.value.1 (Err reason.Extra)) (λ y q. cc q) read.gives in
    let outer = both_read (one (item_word [] 32)) _ ws read.value read.read in
    let inner = both_read (one (number_word 8)) (list_field transfer_word) outer.first.1 outer.second outer.second_read in
    let whole : outer.first.0 ++ (inner.first.0 ++ inner.second.0) ≡ found = ap (λ (l : List ℕ). outer.first.0 ++ l) inner.whole ∙ outer.whole ∙ same in
    subst (λ (l : List ℕ). is_ledger l ≡ true) whole
    (ledger_counts outer.first.0 inner.first.0 inner.second.0 (one_sized 32 (item_word [] 32) (item_long 32) ws outer.first outer.first_read)
    (one_sized 8 (number_word 8) (number_long 8) outer.first.1 inner.first inner.first_read) (list_counts inner.first.1 inner.second inner.second_read))

-- ---- the test

pub ledger_words : (bytes : List ℕ) → IsBytes bytes → is_ledger bytes ≡ true → block_words form.Ledger bytes ≡ words_in form.Ledger bytes
ledger_words bytes fits h =
    let r = block_of [] (words_in form.Ledger bytes) in
    let both = and_parts (nat_le 42 (length bytes)) (length bytes == 42 + 20 * big_number 2 (drop 40 bytes)) h in
    words_then (is_block bytes r) (words_in form.Ledger bytes) bytes
    (found_again bytes r (ledger_again bytes fits (leb-true 42 (length bytes) both.0) (eqb-true (length bytes) (42 + 20 * big_number 2 (drop 40 bytes)) both.1)))

pub ledger_bytes : (bytes : List ℕ) → is_ledger bytes ≡ false → block_words form.Ledger bytes ≡ bytes_text bytes ∷ []
ledger_bytes bytes h =
    let r = block_of [] (words_in form.Ledger bytes) in
    words_else (is_block bytes r) (words_in form.Ledger bytes) bytes
    (false_from_ne_true (is_block bytes r) (λ e. both_ways (is_ledger bytes) h (ledger_told bytes bytes (told_found bytes r e))))
