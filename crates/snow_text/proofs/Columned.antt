-- The columns of words.
use Rattle.std.proofs.Common.{◌≡◌, ℕ, ◌+◌, ◌-◌, ◌<◌, ◌==◌, ◌&&◌, Bool, true, false, List, [], ◌∷◌, length, drop, Some, None, if◌then◌else◌, refl, sym, ap, ◌∙◌, arith}
use Rattle.std.specs.List.{onto_first}
use Rattle.std.proofs.lemmas.Bool.{false≢true}
use Rattle.std.proofs.lemmas.List.Splits.{slice_split-cons_yes, slice_split-cons_no}
use Rattle.snow_text_model.specs.Model.Words.{Word, column_of, is_word, parts}
use Rattle.snow_text.specs.Clauses.Columns.{span}
use Rattle.snow_words.specs.Clauses.Cutting.{first}
use Rattle.snow_words.proofs.Cutting.{taken_shorter}
use Rattle.snow_text_model.proofs.Pieces.{word_if}
use Rattle.snow_words.proofs.Saying.{some_parts}

span_first : (x : ℕ) (ps : List Word) → 0 < length ps → span (onto_first x ps) ≡ span ps + 1
span_first x [] h = absurd (omega (arith, h))
span_first x (p ∷ ps) h = omega arith

span_test : (c x : ℕ) (text : List ℕ) (test : Bool) → x == c ≡ test → span (parts c text) ≡ length text + 1 → span (parts c (x ∷ text)) ≡ length (x ∷ text) + 1
span_test c x text true e h = ap span (slice_split-cons_yes (λ b. b == c) x text e) ∙ omega (arith, h)
span_test c x text false e h = ap span (slice_split-cons_no (λ b. b == c) x text e) ∙ span_first x (parts c text) (some_parts c text) ∙ omega (arith, h)

-- how far the parts of a text reach
pub span_is : (c : ℕ) (text : List ℕ) → span (parts c text) ≡ length text + 1
span_is c [] = refl
span_is c (x ∷ text) = span_test c x text (x == c) refl (span_is c text)

pub span_next : (ps : List Word) (p : Word) → Some p ≡ first ps → span ps ≡ length p + 1 + span (drop 1 ps)
span_next [] p f = cc f
span_next (q ∷ ps) p f = let same : q ≡ p = cc in ap (λ w. length w + 1 + span ps) same

no_word : (p : Word) → is_word p ≡ false → length p ≡ 0
no_word [] e = refl
no_word (c ∷ cs) e = absurd (false≢true (sym e ∙ word_if (c ∷ cs) (omega arith)))

column_at : (test : Bool) (k column n : ℕ) (more : List Word) → (test && k == 0) ≡ true → (if test then (if k == 0 then column else column_of (k - 1) (column + n + 1) more) else column_of k (column + 1) more) ≡ column
column_at true k column n more h = rw h refl
column_at false k column n more h = cc h

-- the word stands here
pub column_here : (k column : ℕ) (ps : List Word) (p : Word) → Some p ≡ first ps → (is_word p && k == 0) ≡ true → column_of k column ps ≡ column
unfolding column_of
column_here k column [] p f h = cc f
column_here k column (q ∷ ps) p f h = let same : q ≡ p = cc in rw same (column_at (is_word p) k column (length p) ps h)

column_past : (p : Word) (test : Bool) (k column : ℕ) (more : List Word) → is_word p ≡ test → (test && k == 0) ≡ false
    → (if test then (if k == 0 then column else column_of (k - 1) (column + length p + 1) more) else column_of k (column + 1) more)
    ≡ column_of (if test then k - 1 else k) (column + (length p + 1)) more
column_past p true k column more e h = rw h (ap (λ n. column_of (k - 1) n more) (omega arith))
column_past p false k column more e h =
    let none : length p ≡ 0 = no_word p e in ap (λ n. column_of k (column + (n + 1)) more) (sym none)

-- it stands behind
pub column_next : (k column : ℕ) (ps : List Word) (p : Word) → Some p ≡ first ps → (is_word p && k == 0) ≡ false
    → column_of k column ps ≡ column_of (if is_word p then k - 1 else k) (column + (length p + 1)) (drop 1 ps)
unfolding column_of
column_next k column [] p f h = cc f
column_next k column (q ∷ ps) p f h = let same : q ≡ p = cc in rw same (column_past p (is_word p) k column ps refl h)

pub column_end : (k column : ℕ) (ps : List Word) → None ≡ first ps → column_of k column ps ≡ column
unfolding column_of
column_end k column [] f = refl
column_end k column (q ∷ ps) f = cc f

-- what columns want
pub ruleset columns = (span_is, span_next, column_here, column_next, column_end, taken_shorter)
