-- Blocks behind their lengths, and lists of them.
use Rattle.std.proofs.Common.{◌≡◌, ℕ, ◌+◌, ◌-◌, ◌<◌, ◌≤◌, List, [], ◌∷◌, ◌++◌, length, take, drop, flat_map, Some, None, Result, Ok, Err, refl, sym, ap, ◌∙◌, append_assoc, append-nil, add-one, drop-drop, arith}
use Rattle.std.specs.List.{join_with_byte}
use Rattle.std.proofs.lemmas.List.{length-append}
use Rattle.snow_wire.specs.Model.Spelling.{number, sized}
use Rattle.std.proofs.lemmas.List.Splits.{join_with_byte-slice_split}
use Rattle.snow_text_model.specs.declared.refusal.Reason.{Reason}
use Rattle.snow_text_model.specs.Model.Words.{Word, Halt, ◌>>=◌, all_of, at, parts, spaced}
use Rattle.snow_text_model.specs.Model.Names.{Names}
use Rattle.snow_text_model.specs.Model.Events.{blocks_in, blocks_of, in_words, item, listed_block, only_why, sized_block}
use Rattle.snow_words.specs.Clauses.Cutting.{first}
use Rattle.snow_words.specs.Clauses.Making.{Reads, onto, tallied}
use Rattle.snow_words.specs.declared.stop.Stop.{Stop}
use Rattle.snow_words.specs.declared.stop.Stop.TheVariants as stop
use Rattle.snow_say.specs.Clauses.Payload.{IsBehind, at_text, trailed, walked}
use Rattle.snow_words.proofs.Cutting.{taken_shorter}
use Rattle.snow_words.proofs.Appended.{drop_front, no_items, none_left, ok_both, tallied_both, unerr}
use Rattle.snow_words.proofs.Saying.{onto_longer, take_front}

-- ---- a block behind its length

pub sized_longer : (old mid : List ℕ) (told : Result (List ℕ) Halt) → onto (old ++ 0 ∷ 0 ∷ 0 ∷ 0 ∷ []) told ≡ Ok mid → length old + 4 ≤ length mid
sized_longer old mid told h =
    let more = onto_longer (old ++ 0 ∷ 0 ∷ 0 ∷ 0 ∷ []) mid told h in
    omega (arith, more, length-append old (0 ∷ 0 ∷ 0 ∷ 0 ∷ []))

shut_four : (old bytes word : List ℕ) → take (length old) ((old ++ 0 ∷ 0 ∷ 0 ∷ 0 ∷ []) ++ bytes) ++ word ++ drop (length old + 4) ((old ++ 0 ∷ 0 ∷ 0 ∷ 0 ∷ []) ++ bytes) ≡ old ++ word ++ bytes
shut_four old bytes word =
    let hole : List ℕ = 0 ∷ 0 ∷ 0 ∷ 0 ∷ [] in
    let front : take (length old) ((old ++ hole) ++ bytes) ≡ old = ap (take (length old)) (append_assoc old hole bytes) ∙ take_front old (hole ++ bytes) in
    let back : drop (length old + 4) ((old ++ hole) ++ bytes) ≡ bytes = ap (λ k. drop k ((old ++ hole) ++ bytes)) (sym (length-append old hole)) ∙ drop_front (old ++ hole) bytes in
    rw (front, back) refl

pub sized_told : (old mid : List ℕ) (told : Result (List ℕ) Halt) → onto (old ++ 0 ∷ 0 ∷ 0 ∷ 0 ∷ []) told ≡ Ok mid
    → onto old (told >>= (λ bytes. Ok (sized bytes))) ≡ Ok (take (length old) mid ++ number 4 (length mid - length old - 4) ++ drop (length old + 4) mid)
sized_told old mid (Ok bytes) h =
    let same : (old ++ 0 ∷ 0 ∷ 0 ∷ 0 ∷ []) ++ bytes ≡ mid = cc in
    let long : length mid - length old - 4 ≡ length bytes = omega (arith, length-append (old ++ 0 ∷ 0 ∷ 0 ∷ 0 ∷ []) bytes, length-append old (0 ∷ 0 ∷ 0 ∷ 0 ∷ []), ap length same) in
    ap Ok (sym (append_assoc old (number 4 (length bytes)) bytes) ∙ sym (shut_four old bytes (number 4 (length bytes)))
    ∙ ap (λ m. take (length old) m ++ number 4 (length bytes) ++ drop (length old + 4) m) same
    ∙ ap (λ k. take (length old) mid ++ number 4 k ++ drop (length old + 4) mid) (sym long))
sized_told old mid (Err e) h = cc h

pub sized_not : (old front : List ℕ) (told : Result (List ℕ) Halt) (halt : Halt) → onto front told ≡ Err halt → onto old (told >>= (λ bytes. Ok (sized bytes))) ≡ Err halt
sized_not old front (Ok bytes) halt h = cc h
sized_not old front (Err e) halt h = ap Err (unerr e halt h)

-- what a block behind its length wants
pub ruleset sizing = (sized_longer, sized_told, sized_not)

-- ---- words with spaces between them

pub joined_trail : (word : Word) (ws : List Word) → join_with_byte 32 (word ∷ ws) ≡ word ++ trailed ws
joined_trail word [] = sym (append-nil word)
joined_trail word (w ∷ ws) = ap (λ l. word ++ (32 ∷ l)) (joined_trail w ws)

pub trail_join : (old : List ℕ) (ws : List Word) (word : Word) → Some word ≡ first ws → (old ++ word) ++ trailed (drop 1 ws) ≡ old ++ join_with_byte 32 ws
trail_join old [] word f = cc f
trail_join old (w ∷ ws) word f =
    let same : w ≡ word = cc in
    append_assoc old word (trailed ws) ∙ ap (λ l. old ++ l) (ap (λ v. v ++ trailed ws) (sym same) ∙ sym (joined_trail w ws))

pub trail_none : (old : List ℕ) (ws : List Word) → None ≡ first ws → old ++ trailed ws ≡ old ++ join_with_byte 32 ws
trail_none old [] f = refl
trail_none old (w ∷ ws) f = cc f

pub trail_next : (old : List ℕ) (ws : List Word) (word : Word) → Some word ≡ first ws → ((old ++ 32 ∷ []) ++ word) ++ trailed (drop 1 ws) ≡ old ++ trailed ws
trail_next old [] word f = cc f
trail_next old (w ∷ ws) word f =
    let same : w ≡ word = cc in
    append_assoc (old ++ 32 ∷ []) word (trailed ws) ∙ append_assoc old (32 ∷ []) (word ++ trailed ws) ∙ ap (λ v. old ++ (32 ∷ (v ++ trailed ws))) (sym same)

pub trail_end : (old : List ℕ) (ws : List Word) → None ≡ first ws → old ++ trailed ws ≡ old
trail_end old [] f = append-nil old
trail_end old (w ∷ ws) f = cc f

-- what words with spaces between them want
pub ruleset trailing = (trail_join, trail_none, trail_next, trail_end, none_left, taken_shorter)

-- ---- blocks with commas between them

pub behind_self : (text : List ℕ) → IsBehind text text
behind_self text = record { few = omega arith; is = let none : length (parts 44 text) - length (parts 44 text) ≡ 0 = omega arith in ap (λ k. drop k (parts 44 text)) none }

pub behind_next : (text rest front more : List ℕ) → IsBehind text rest → parts 44 rest ≡ front ∷ parts 44 more → IsBehind text more
behind_next text rest front more b e =
    let n = length (parts 44 text) in
    let long : length (parts 44 rest) ≡ length (parts 44 more) + 1 = ap length e ∙ sym (add-one (length (parts 44 more))) in
    let few = b.few in
    let place : n - length (parts 44 more) ≡ (n - length (parts 44 rest)) + 1 = omega (arith, long, few) in
    record {
      few = omega (arith, long, few);
      is = ap (λ k. drop k (parts 44 text)) place ∙ sym (drop-drop 1 (n - length (parts 44 rest)) (parts 44 text)) ∙ ap (drop 1) (b.is ∙ e);
    }

in_both : (blocks : List (List ℕ)) (x : List (List ℕ)) (r : Result (List (List ℕ)) Halt) → in_words blocks (r >>= (λ xs. Ok (x ++ xs))) ≡ (in_words blocks r >>= (λ xs. Ok (x ++ xs)))
in_both blocks x (Ok xs) = refl
in_both blocks x (Err e) = refl

first_told : (blocks : List (List ℕ)) (rest front : List ℕ) (ps : List (List ℕ)) (old new : List ℕ) (n m : ℕ) (told : Result (List (List ℕ)) Reason) (others : Result (List (List ℕ)) Halt)
    → tallied old n (at_text rest told) ≡ Ok (new, m)
    → tallied old n (in_words blocks (at (front ∷ ps) told >>= (λ x. others >>= (λ xs. Ok (x ++ xs))))) ≡ tallied new m (in_words blocks others)
first_told blocks rest front ps old new n m (Ok x) others h =
    let e = ok_both (old ++ flat_map (λ y. y) x, n + length x) (new, m) h in
    ap (tallied old n) (in_both blocks x others) ∙ tallied_both old n x (in_words blocks others)
    ∙ ap (λ l. tallied l (n + length x) (in_words blocks others)) e.0 ∙ ap (λ k. tallied new k (in_words blocks others)) e.1
first_told blocks rest front ps old new n m (Err e) others h = cc h

first_not : (text rest front : List ℕ) (ps : List (List ℕ)) (old : List ℕ) (n : ℕ) (told : Result (List (List ℕ)) Reason) (others : Result (List (List ℕ)) Halt) (halt : Halt)
    → IsBehind text rest → parts 44 rest ≡ front ∷ ps → tallied old n (at_text rest told) ≡ Err halt
    → tallied old n (in_words (parts 44 text) (at (front ∷ ps) told >>= (λ x. others >>= (λ xs. Ok (x ++ xs))))) ≡ Err halt
first_not text rest front ps old n (Ok x) others halt b e h = cc h
first_not text rest front ps old n (Err why) others halt b e h =
    let blocks = parts 44 text in
    let here : drop (length blocks - length (front ∷ ps)) blocks ≡ parts 44 rest = ap (λ ws. drop (length blocks - length ws) blocks) (sym e) ∙ b.is in
    let words : spaced (join_with_byte 44 (drop (length blocks - length (front ∷ ps)) blocks)) ≡ spaced rest = ap (λ ws. spaced (join_with_byte 44 ws)) here ∙ ap spaced (join_with_byte-slice_split 44 rest) in
    ap (λ ws. Err (record { why = why; left = length ws })) words ∙ h

-- the first part was told
pub walk_next : (names : Names) (text rest front more old new : List ℕ) (n m : ℕ) → parts 44 rest ≡ front ∷ parts 44 more → tallied old n (at_text rest (listed_block names front)) ≡ Ok (new, m)
    → tallied old n (walked names text rest) ≡ tallied new m (walked names text more)
unfolding all_of
walk_next names text rest front more old new n m e h =
    ap (λ ps. tallied old n (in_words (parts 44 text) (all_of (listed_block names) ps))) e
    ∙ first_told (parts 44 text) rest front (parts 44 more) old new n m (listed_block names front) (all_of (listed_block names) (parts 44 more)) h

-- it tells nothing
pub walk_stop : (names : Names) (text rest front more old : List ℕ) (n : ℕ) (halt : Halt) → IsBehind text rest → parts 44 rest ≡ front ∷ parts 44 more
    → tallied old n (at_text rest (listed_block names front)) ≡ Err halt → tallied old n (walked names text rest) ≡ Err halt
unfolding all_of
walk_stop names text rest front more old n halt b e h =
    ap (λ ps. tallied old n (in_words (parts 44 text) (all_of (listed_block names) ps))) e
    ∙ first_not text rest front (parts 44 more) old n (listed_block names front) (all_of (listed_block names) (parts 44 more)) halt b e h

-- the last part
pub walk_last : (names : Names) (text rest old new : List ℕ) (n m : ℕ) → parts 44 rest ≡ rest ∷ [] → tallied old n (at_text rest (listed_block names rest)) ≡ Ok (new, m)
    → tallied old n (walked names text rest) ≡ Ok (new, m)
unfolding all_of
walk_last names text rest old new n m e h =
    ap (λ ps. tallied old n (in_words (parts 44 text) (all_of (listed_block names) ps))) e
    ∙ first_told (parts 44 text) rest rest [] old new n m (listed_block names rest) (Ok []) h
    ∙ no_items new m

pub walk_end : (names : Names) (text rest old : List ℕ) (n : ℕ) (halt : Halt) → IsBehind text rest → parts 44 rest ≡ rest ∷ []
    → tallied old n (at_text rest (listed_block names rest)) ≡ Err halt → tallied old n (walked names text rest) ≡ Err halt
unfolding all_of
walk_end names text rest old n halt b e h =
    ap (λ ps. tallied old n (in_words (parts 44 text) (all_of (listed_block names) ps))) e
    ∙ first_not text rest rest [] old n (listed_block names rest) (Ok []) halt b e h

-- a part stopped, and so do all
pub walk_failed : (names : Names) (text rest front more old : List ℕ) (n : ℕ) (now later : List ℕ × ℕ) (all : Result (List ℕ × ℕ) Halt) (told : Result (Unit {0}) Stop) (e : Stop)
    → IsBehind text rest → parts 44 rest ≡ front ∷ parts 44 more → Reads told now (tallied old n (at_text rest (listed_block names front))) → told ≡ Err e
    → tallied old n (walked names text rest) ≡ all → Reads (Err e) later all
walk_failed names text rest front more old n now later all (Ok u) e b p h k g = cc k
walk_failed names text rest front more old n now later all (Err stop.Memory) stop.Memory b p h k g = tt
walk_failed names text rest front more old n now later all (Err stop.Memory) (stop.At r m) b p h k g = cc k
walk_failed names text rest front more old n now later all (Err (stop.At why left)) stop.Memory b p h k g = cc k
walk_failed names text rest front more old n now later all (Err (stop.At why left)) (stop.At r m) b p h k g =
    let one : why ≡ r = cc k in
    let two : left ≡ m = cc k in
    sym g ∙ walk_stop names text rest front more old n (record { why = why; left = left }) b p h
    ∙ ap (λ w. Err (record { why = w; left = left })) one ∙ ap (λ l. Err (record { why = r; left = l })) two

-- what the blocks of a text want
pub ruleset walking = (behind_self, behind_next, walk_next, walk_failed, walk_last, walk_end)

part_told : (rest old new : List ℕ) (n : ℕ) (told : Result (List ℕ) Halt) → onto old told ≡ Ok new → tallied old n (at_text rest (item (only_why told))) ≡ Ok (new, n + 1)
part_told rest old new n (Ok x) h = let same : old ++ x ≡ new = cc in ap (λ l. Ok (l, n + 1)) (ap (λ l. old ++ l) (append-nil x) ∙ same)
part_told rest old new n (Err e) h = cc h

-- the block of a part was told
pub block_told : (names : Names) (part rest old new : List ℕ) (n : ℕ) → onto old (sized_block names (spaced part)) ≡ Ok new → tallied old n (at_text rest (listed_block names part)) ≡ Ok (new, n + 1)
block_told names part rest old new n h = part_told rest old new n (sized_block names (spaced part)) h

part_not : (rest old : List ℕ) (n : ℕ) (told : Result (List ℕ) Halt) (halt : Halt) → onto old told ≡ Err halt
    → tallied old n (at_text rest (item (only_why told))) ≡ Err (record { why = halt.why; left = length (spaced rest) })
part_not rest old n (Ok x) halt h = cc h
part_not rest old n (Err e) halt h = let same : e ≡ halt = cc in ap (λ f. Err (record { why = f.why; left = length (spaced rest) })) same

-- it tells nothing
pub block_not : (names : Names) (part rest old : List ℕ) (n : ℕ) (halt : Halt) → onto old (sized_block names (spaced part)) ≡ Err halt
    → tallied old n (at_text rest (listed_block names part)) ≡ Err (record { why = halt.why; left = length (spaced rest) })
block_not names part rest old n halt h = part_not rest old n (sized_block names (spaced part)) halt h

-- what a block in a list wants
pub ruleset counting = (block_told, block_not)

-- a list without blocks, and with some
pub no_blocks : (names : Names) (ws : List Word) → ws ≡ [] → blocks_of names ws ≡ Ok (number 2 0)
unfolding blocks_of
no_blocks names ws e = rw e refl

pub some_blocks : (names : Names) (ws : List Word) → 0 < length ws → blocks_of names ws ≡ blocks_in names (parts 44 (join_with_byte 32 ws))
unfolding blocks_of
some_blocks names [] h = absurd (omega (arith, h))
some_blocks names (w ∷ more) h = refl

pub no_count : number 2 0 ≡ 0 ∷ 0 ∷ []
unfolding number
no_count = refl
