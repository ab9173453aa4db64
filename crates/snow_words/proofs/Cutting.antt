-- Texts cut at their first mark, and words taken one by one.
use Rattle.std.proofs.Common.{◌≡◌, ℕ, ◌+◌, ◌<◌, ◌≤◌, ◌^◌, ◌==◌, Bool, true, false, List, [], ◌∷◌, ◌++◌, All, cond, if◌then◌else◌, eq-eqb, length, take, drop, get_or, Some, None, subst, refl, sym, ap, ◌∙◌, add-one, drop-cons, take-append-drop, arith}
use Rattle.std.specs.List.{filter, onto_first}
use Rattle.std.proofs.lemmas.List.{take_more, take_all}
use Rattle.std.proofs.lemmas.List.Elements.{All-nil, All-cons, All-append}
use Rattle.std.proofs.lemmas.List.Splits.{slice_split_none, slice_split_at, length-slice_split}
use Rattle.std.proofs.lemmas.List.Sums.{length-filter, count_by-le-length}
use Rattle.snow_text_model.specs.Model.Words.{Word, is_word, parts, said}
use Rattle.snow_text_model.proofs.Pieces.{word_if}
use Rattle.snow_words.specs.Clauses.Cutting.{first}

-- a text without a mark is one part
pub cut_end : (c : ℕ) (text : List ℕ) (i : ℕ) → length text ≤ i → All (λ b. b == c ≡ false) (take i text) → parts c text ≡ text ∷ []
cut_end c text i h none = slice_split_none (λ b. b == c) text (subst (All (λ b. b == c ≡ false)) (take_all i text h) none)

-- a text with a mark at i, and none before it
pub cut_at : (c : ℕ) (text : List ℕ) (i : ℕ) → i < length text → get_or text i 0 ≡ c → All (λ b. b == c ≡ false) (take i text)
    → parts c text ≡ take i text ∷ parts c (drop (i + 1) text)
cut_at c text i h e none =
    let here : drop i text ≡ get_or text i 0 ∷ drop (i + 1) text = rw add-one (drop-cons text i 0 h) in
    ap (parts c) (sym (take-append-drop i text) ∙ ap (λ l. take i text ++ l) (here ∙ ap (λ b. b ∷ drop (i + 1) text) e))
    ∙ slice_split_at (λ b. b == c) (take i text) c (drop (i + 1) text) none (eq-eqb c c refl)

-- a byte more that is no mark
pub no_mark_next : (c : ℕ) (text : List ℕ) (i : ℕ) → i < length text → get_or text i 0 == c ≡ false → All (λ b. b == c ≡ false) (take i text) → All (λ b. b == c ≡ false) (take (i + 1) text)
no_mark_next c text i h e none =
    subst (All (λ b. b == c ≡ false)) (sym (take_more text i 0 h))
    (All-append (λ b. b == c ≡ false) (take i text) (get_or text i 0 ∷ []) none (All-cons (λ b. b == c ≡ false) (get_or text i 0) [] e (All-nil (λ b. b == c ≡ false))))

-- a part that is taken leaves fewer
pub taken_shorter : (ws : List Word) (word : Word) → Some word ≡ first ws → length (drop 1 ws) < length ws
taken_shorter [] word f = cc f
taken_shorter (w ∷ ws) word f = omega arith

is_some : (c : ℕ) (cs : List ℕ) → is_word (c ∷ cs) ≡ true
is_some c cs = word_if (c ∷ cs) (omega arith)

-- a part that is empty is no word
pub empty_passed : (ps : List Word) (part : Word) → Some part ≡ first ps → length part ≡ 0 → filter is_word (drop 1 ps) ≡ filter is_word ps
empty_passed [] part f e = cc f
empty_passed ([] ∷ ps) part f e = refl
empty_passed ((c ∷ cs) ∷ ps) part f e = let same : c ∷ cs ≡ part = cc in absurd (omega (arith, ap length same))

-- a part that isn't empty is a word
pub word_first : (ps : List Word) (part : Word) → Some part ≡ first ps → 0 < length part → Some part ≡ first (filter is_word ps)
word_first [] part f e = cc f
word_first ([] ∷ ps) part f e = let same : [] ≡ part = cc in absurd (omega (arith, ap length same))
word_first ((c ∷ cs) ∷ ps) part f e = subst (λ b. Some part ≡ first (cond b ((c ∷ cs) ∷ filter is_word ps) (filter is_word ps))) (sym (is_some c cs)) f

pub words_behind : (ps : List Word) (part : Word) → Some part ≡ first ps → 0 < length part → filter is_word (drop 1 ps) ≡ drop 1 (filter is_word ps)
words_behind [] part f e = cc f
words_behind ([] ∷ ps) part f e = let same : [] ≡ part = cc in absurd (omega (arith, ap length same))
words_behind ((c ∷ cs) ∷ ps) part f e = subst (λ b. filter is_word ps ≡ drop 1 (cond b ((c ∷ cs) ∷ filter is_word ps) (filter is_word ps))) (sym (is_some c cs)) refl

-- no part is left
pub no_parts : (ps : List Word) → None ≡ first ps → ps ≡ []
no_parts [] f = refl
no_parts (p ∷ ps) f = cc f

-- what taking a word wants
pub ruleset wording = (taken_shorter, empty_passed, word_first, words_behind, no_parts)

-- no text has more parts than bytes and one
pub few_parts : (c : ℕ) (text : List ℕ) → length text < 2 ^ 63 → length (parts c text) ≤ 2 ^ 63
few_parts c text h = omega (arith, h, length-slice_split (λ b. b == c) text, count_by-le-length (λ b. b == c) text)

pub few_words : (ps : List Word) → length ps ≤ 2 ^ 63 → length (filter is_word ps) ≤ 2 ^ 63
few_words ps h = omega (arith, h, length-filter is_word ps, count_by-le-length is_word ps)

said_next : (b : Bool) (c : ℕ) (ps : List Word) (s : List ℕ) → first ps ≡ Some s → first (cond b ([] ∷ ps) (onto_first c ps)) ≡ Some (if b then [] else c ∷ s)
said_next true c ps s h = refl
said_next false c [] s h = cc h
said_next false c (p ∷ ps) s h = let same : p ≡ s = cc in ap (λ l. Some (c ∷ l)) same

pub said_first : (text : List ℕ) → first (parts 35 text) ≡ Some (said text)
unfolding said
said_first [] = refl
said_first (c ∷ cs) = said_next (c == 35) c (parts 35 cs) (said cs) (said_first cs)

pub said_whole : (text : List ℕ) → parts 35 text ≡ text ∷ [] → text ≡ said text
said_whole text h = let e = said_first text in cc

pub said_cut : (text front : List ℕ) (more : List Word) → parts 35 text ≡ front ∷ more → front ≡ said text
said_cut text front more h = let e = said_first text in cc

-- the words behind the next
pub fewer_behind : (n m k : ℕ) → n ≤ m → m ≤ k → n ≤ k
fewer_behind n m k h g = omega arith

-- whether words are left
pub none_of : (ws : List Word) → None ≡ first ws → ws ≡ []
none_of [] f = refl
none_of (w ∷ ws) f = cc f

pub some_of : (ws : List Word) (word : Word) → Some word ≡ first ws → 0 < length ws
some_of [] word f = cc f
some_of (w ∷ ws) word f = omega arith
