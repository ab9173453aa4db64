-- Words of lines, put one behind another.
use Rattle.std.proofs.Common.{◌≡◌, ℕ, suc, ◌+◌, ◌-◌, ◌/◌, ◌<◌, ◌≤◌, List, [], ◌∷◌, ◌++◌, length, map, take, drop, get_or, slice_index, decimal, codes, refl, sym, ap, ◌∙◌, append_assoc, append-nil, arith}
use Rattle.std.specs.List.{join_with_byte}
use Rattle.std.proofs.lemmas.List.{drop_more, drop_all, drop-map, get_or-drop, length-drop}
use Rattle.byteorder.specs.Endian.{big_number}
use Rattle.snow_text_model.specs.declared.block_form.BlockForm.TheVariants as form
use Rattle.snow_text_model.specs.Model.Words.{Word}
use Rattle.snow_text_model.specs.Model.Bytes.{bytes_text, fixed_text, runs_of}
use Rattle.snow_text_model.specs.Model.Blocks.{behind_words, transfer_text, transfer_texts, words_in}
use Rattle.snow_text_model.specs.Model.Shown.{line, listed_text, some_field, some_word, times_text, times_texts}
use Rattle.snow_show.specs.Kept.Listing.{led, plain_fields, tally_fields}
use Rattle.snow_show.proofs.Shortened.{mapped_first}
use Rattle.snow_show.proofs.Blocked.{dropped}

-- words that were joined
pub joined_led : (gap : ℕ) (word : Word) (more : List Word) → join_with_byte gap (word ∷ more) ≡ word ++ led (gap ∷ []) (gap ∷ []) more
unfolding led
joined_led gap word [] = sym (append-nil word)
joined_led gap word (next ∷ more) = ap (λ (l : List ℕ). word ++ gap ∷ l) (joined_led gap next more)

-- any words behind a space
pub line_led : (word : Word) (more : List Word) → line (word ∷ more) ≡ word ++ led (32 ∷ []) (32 ∷ []) more
line_led word more = joined_led 32 word more

-- a list in one word
pub listed_led : (mark : List ℕ) (ws : List Word) → led mark (32 ∷ []) (some_word ws) ≡ led mark (44 ∷ []) ws
unfolding led
listed_led mark [] = refl
listed_led mark (w ∷ ws) = ap (λ (l : List ℕ). mark ++ l) (append-nil (listed_text (w ∷ ws)) ∙ joined_led 44 w ws)

-- a list in a field, with other words behind
pub field_led : (name : Word) (ws more : List Word) → led (32 ∷ []) (32 ∷ []) (some_field name ws ++ more) ≡ led (32 ∷ (name ++ 61 ∷ [])) (44 ∷ []) ws ++ led (32 ∷ []) (32 ∷ []) more
unfolding led
field_led name [] more = refl
field_led name (w ∷ ws) more =
    ap (λ (l : List ℕ). 32 ∷ l)
    (append_assoc name (61 ∷ listed_text (w ∷ ws)) (led (32 ∷ []) (32 ∷ []) more)
    ∙ ap (λ (l : List ℕ). name ++ 61 ∷ (l ++ led (32 ∷ []) (32 ∷ []) more)) (joined_led 44 w ws)
    ∙ sym (append_assoc name (61 ∷ []) ((w ++ led (44 ∷ []) (44 ∷ []) ws) ++ led (32 ∷ []) (32 ∷ []) more))
    ∙ sym (append_assoc (name ++ 61 ∷ []) (w ++ led (44 ∷ []) (44 ∷ []) ws) (led (32 ∷ []) (32 ∷ []) more)))

-- words of a list, and words behind
pub led_none : (mark gap : List ℕ) → led mark gap [] ≡ []
unfolding led
led_none mark gap = refl

-- the next item
pub led_next : {A : Type 0} (mark gap : List ℕ) (text : A → Word) (xs : List A) (i : ℕ) (d : A) → i < length xs → led mark gap (map text (drop i xs)) ≡ (mark ++ text (get_or xs i d)) ++ led gap gap (map text (drop (i + 1) xs))
unfolding led
led_next {A = A} mark gap text xs i d h =
    ap (λ (l : List A). led mark gap (map text l)) (drop_more xs i d h) ∙ sym (append_assoc mark (text (get_or xs i d)) (led gap gap (map text (drop (i + 1) xs))))

pub led_end : {A : Type 0} (mark gap : List ℕ) (text : A → Word) (xs : List A) (i : ℕ) → length xs ≤ i → led mark gap (map text (drop i xs)) ≡ []
unfolding led
led_end {A = A} mark gap text xs i h = ap (λ (l : List A). led mark gap (map text l)) (drop_all i xs h)

-- numbers in a row
pub times_next : (mark gap : List ℕ) (xs more : List ℕ) (run : ℕ × ℕ) → runs_of xs ≡ run ∷ runs_of more → led mark gap (times_texts xs) ≡ (mark ++ times_text run) ++ led gap gap (times_texts more)
unfolding led
times_next mark gap xs more run e =
    ap (λ (l : List (ℕ × ℕ)). led mark gap (map times_text l)) e ∙ sym (append_assoc mark (times_text run) (led gap gap (times_texts more)))

pub times_end : (mark gap xs : List ℕ) → length xs ≤ 0 → led mark gap (times_texts xs) ≡ []
unfolding led runs_of
times_end mark gap [] h = refl
times_end mark gap (x ∷ xs) h = absurd (omega (arith, h))

-- bytes behind the fields of a block
pub behind_none : (bytes : List ℕ) → length bytes ≤ 0 → led (32 ∷ []) (32 ∷ []) (behind_words bytes) ≡ []
unfolding led
behind_none [] h = refl
behind_none (b ∷ bytes) h = absurd (omega (arith, h))

pub behind_led : (bytes : List ℕ) → 0 < length bytes → led (32 ∷ []) (32 ∷ []) (behind_words bytes) ≡ 32 ∷ bytes_text bytes
unfolding led
behind_led [] h = absurd (omega (arith, h))
behind_led (b ∷ bytes) h = ap (λ (l : List ℕ). 32 ∷ l) (append-nil (bytes_text (b ∷ bytes)))

-- a run of numbers
pub numbers_next : (mark gap : List ℕ) (xs more : List (List ℕ)) (number times : ℕ) → runs_of (map (big_number 8) xs) ≡ (slice_index (map (big_number 8) xs) 0, times) ∷ runs_of (drop times (map (big_number 8) xs))
    → number ≡ big_number 8 (get_or xs 0 []) → 0 < length xs → more ≡ drop times xs
    → led mark gap (times_texts (map (big_number 8) xs)) ≡ (mark ++ times_text (number, times)) ++ led gap gap (times_texts (map (big_number 8) more))
numbers_next mark gap xs more number times runs k some e =
    times_next mark gap (map (big_number 8) xs) (map (big_number 8) more) (number, times)
    (runs
    ∙ ap (λ (n : ℕ). (n, times) ∷ runs_of (drop times (map (big_number 8) xs))) (mapped_first (big_number 8) xs [] some ∙ sym k)
    ∙ ap (λ (l : List ℕ). (number, times) ∷ runs_of l) (drop-map (big_number 8) times xs ∙ ap (map (big_number 8)) (sym e)))

-- ---- blocks

pub plain_line : (bytes : List ℕ)
    → codes "plain" ++ ((32 ∷ fixed_text (take 32 bytes)) ++ ((32 ∷ fixed_text (take 32 (drop 32 bytes))) ++ plain_fields (drop 64 bytes))) ≡ line (words_in form.Plain bytes)
unfolding led
plain_line bytes = rw (dropped 64 8 72 bytes refl, dropped 64 9 73 bytes refl) (sym (line_led (codes "plain") (fixed_text (take 32 bytes) ∷ fixed_text (take 32 (drop 32 bytes)) ∷ decimal (big_number 8 (drop 64 bytes)) ∷ decimal (big_number 1 (drop 72 bytes)) ∷ behind_words (drop 73 bytes))))

pub tally_line : (bytes : List ℕ) → codes "tally" ++ ((32 ∷ fixed_text (take 32 bytes)) ++ tally_fields (drop 32 bytes)) ≡ line (words_in form.Tally bytes)
unfolding led
tally_line bytes = rw (dropped 32 8 40 bytes refl, dropped 32 16 48 bytes refl) (sym (line_led (codes "tally") (fixed_text (take 32 bytes) ∷ decimal (big_number 8 (drop 32 bytes)) ∷ decimal (big_number 8 (drop 40 bytes)) ∷ behind_words (drop 48 bytes))))

pub ledger_line : (bytes : List ℕ)
    → codes "ledger" ++ ((32 ∷ fixed_text (take 32 bytes)) ++ ((32 ∷ decimal (big_number 8 (drop 32 bytes))) ++ led (32 ∷ []) (32 ∷ []) (transfer_texts ((length bytes - 42) / 20) (drop 42 bytes)))) ≡ line (words_in form.Ledger bytes)
unfolding led
ledger_line bytes = sym (line_led (codes "ledger") (fixed_text (take 32 bytes) ∷ decimal (big_number 8 (drop 32 bytes)) ∷ transfer_texts ((length bytes - 42) / 20) (drop 42 bytes)))

-- a byte behind others
pub one_number : (n : ℕ) (bytes : List ℕ) → big_number 1 (drop n bytes) ≡ slice_index bytes n
one_number n bytes =
    let here : slice_index (drop n bytes) 0 ≡ slice_index bytes n = get_or-drop n bytes 0 0 ∙ ap (slice_index bytes) (zero_behind n) in
    omega (arith, here)
  where
    zero_behind : (n : ℕ) → n + 0 ≡ n
    zero_behind n = omega arith

-- transfers
pub transfers_next : (n : ℕ) (bytes : List ℕ) → led (32 ∷ []) (32 ∷ []) (transfer_texts (suc n) bytes) ≡ (32 ∷ transfer_text (take 20 bytes)) ++ led (32 ∷ []) (32 ∷ []) (transfer_texts n (drop 20 bytes))
unfolding led
transfers_next n bytes = refl

pub transfers_end : (bytes : List ℕ) → length bytes < 20 → led (32 ∷ []) (32 ∷ []) (transfer_texts (length bytes / 20) bytes) ≡ []
unfolding led
transfers_end bytes h = let none : length bytes / 20 ≡ 0 = omega (arith, h) in rw none refl

pub transfers_step : (bytes transfer more : List ℕ) → 20 ≤ length bytes → transfer ≡ take 20 bytes → more ≡ drop 20 bytes
    → led (32 ∷ []) (32 ∷ []) (transfer_texts (length bytes / 20) bytes) ≡ (32 ∷ transfer_text transfer) ++ led (32 ∷ []) (32 ∷ []) (transfer_texts (length more / 20) more)
transfers_step bytes transfer more h a b =
    let long : length more ≡ length bytes - 20 = ap length b ∙ length-drop 20 bytes in
    let count : length bytes / 20 ≡ suc (length more / 20) = omega (arith, h, long) in
    ap (λ (n : ℕ). led (32 ∷ []) (32 ∷ []) (transfer_texts n bytes)) count ∙ rw a (transfers_next (length more / 20) bytes ∙ ap (λ (l : List ℕ). (32 ∷ transfer_text (take 20 bytes)) ++ led (32 ∷ []) (32 ∷ []) (transfer_texts (length more / 20) l)) (sym b))
