-- Spans that are apart: parts of them, and heights that are in none.
use Rattle.std.proofs.Common.{◌≡◌, ℕ, zero, suc, ◌+◌, ◌-◌, ◌<◌, ◌≤◌, true, false, inl, inr, List, [], ◌∷◌, ◌++◌, length, take, drop, get_or, nat_le, refl, sym, ap, subst, ◌∙◌, arith}
use Rattle.std.specs.Prelude.{⊤}
use Rattle.std.specs.List.{AllWithin}
use Rattle.std.specs.List.Sorted.{IsPartitionPoint, IsNonDecreasingBy}
use Rattle.std.proofs.lemmas.Bool.{leb-true, le-leb}
use Rattle.std.proofs.lemmas.Bool.Decides.{nat_tests, leb_tells}
use Rattle.std.proofs.lemmas.List.Folds.{list_any-append}
use Rattle.snow_interval.specs.declared.intervals.Span.{Span}
use Rattle.snow_interval.specs.Kept.Spans.{is_in, spanned, AreApart, behind}
use Rattle.snow_interval.proofs.Parting.{parted}

-- spans that begin from a height on begin from any lower height on
pub weaker : (from lower : ℕ) (spans : List Span) → lower ≤ from → AreApart from spans → AreApart lower spans
weaker from lower [] h a = tt
weaker from lower (s ∷ spans) h a = (omega (arith, a.0), a.1, a.2)

-- the two parts of spans that are apart
pub parts : (from : ℕ) (a b : List Span) → AreApart from (a ++ b) → AreApart from a × AreApart (behind from a) b
parts from [] b p = (tt, p)
parts from (s ∷ a) b p = let q = parts (s.high + 2) a b p.2 in ((p.0, p.1, q.0), q.1)

-- two parts that are apart
pub together : (from : ℕ) (a b : List Span) → AreApart from a → AreApart (behind from a) b → AreApart from (a ++ b)
together from [] b p q = q
together from (s ∷ a) b p q = (p.0, p.1, together (s.high + 2) a b p.2 q)

-- where a further span may begin is behind the last
pub behind_more : (from : ℕ) (a : List Span) (s : Span) → behind from (a ++ s ∷ []) ≡ s.high + 2
behind_more from [] s = refl
behind_more from (t ∷ a) s = behind_more (t.high + 2) a s

-- a further span begins no lower than the spans do
pub least : (from : ℕ) (a : List Span) → AreApart from a → from ≤ behind from a
least from [] p = omega arith
least from (s ∷ a) p = omega (arith, p.0, p.1, least (s.high + 2) a p.2)

-- no height behind the spans is in them
pub none_behind : (from : ℕ) (a : List Span) (h : ℕ) → AreApart from a → behind from a ≤ h + 1 → spanned a h ≡ false
none_behind from [] h p q = refl
none_behind from (s ∷ a) h p q =
    let none : spanned a h ≡ false = none_behind (s.high + 2) a h p.2 q in
    let low : s.high < h = omega (arith, least (s.high + 2) a p.2, q) in
    rw none (grind (arith, nat_tests))

-- no height before the spans is in them
pub none_before : (from : ℕ) (b : List Span) (h : ℕ) → AreApart from b → h < from → spanned b h ≡ false
none_before from [] h p q = refl
none_before from (s ∷ b) h p q =
    let none : spanned b h ≡ false = none_before (s.high + 2) b h p.2 (omega (arith, p.0, p.1)) in
    let high : h < s.low = omega (arith, p.0) in
    rw none (grind (arith, nat_tests))

-- the first of the spans, if there is one, begins above a height
abbrev pub BeginsAbove : List Span → ℕ → Type 0
BeginsAbove [] h = ⊤
BeginsAbove (s ∷ spans) h = h < s.low

-- no height below the first span is in the spans
pub none_above : (from : ℕ) (b : List Span) (h : ℕ) → AreApart from b → BeginsAbove b h → spanned b h ≡ false
none_above from [] h p q = refl
none_above from (s ∷ b) h p q = none_before s.low (s ∷ b) h (omega arith, p.1, p.2) q

-- behind a place no span begins at a height or below it
pub first_above : (spans : List Span) (i h : ℕ) → AllWithin (λ s. nat_le s.low h ≡ false) spans i (length spans) → BeginsAbove (drop i spans) h
first_above [] zero h q = tt
first_above [] (suc i) h q = tt
first_above (s ∷ spans) zero h q = let at : nat_le s.low h ≡ false = q 0 s (omega arith) (omega arith) in grind (arith, nat_tests)
first_above (s ∷ spans) (suc i) h q = first_above spans i h (λ k d l m. q (suc k) d (omega arith) (omega arith))

-- whether a height is in a span, where those before begin no higher and those behind begin above the height
found_in : (a b : List Span) (s : Span) (h : ℕ) → AreApart 1 (a ++ s ∷ b) → s.low ≤ h → BeginsAbove b h → spanned (a ++ s ∷ b) h ≡ nat_le h s.high
found_in a b s h p low above =
    let q = parts 1 a (s ∷ b) p in
    let before : spanned a h ≡ false = none_behind 1 a h q.0 (omega (arith, q.1.0)) in
    let after : spanned b h ≡ false = none_above (s.high + 2) b h q.1.2 above in
    list_any-append (is_in h) a (s ∷ b) ∙ rw (before, after, le-leb s.low h low) (grind (arith, nat_tests))

-- a height is in the spans where it is in the last that begins at it or below it
pub found : (spans : List Span) (i h : ℕ) (d : Span) → i < length spans → AreApart 1 spans → (get_or spans i d).low ≤ h → BeginsAbove (drop (suc i) spans) h
    → spanned spans h ≡ nat_le h (get_or spans i d).high
found spans i h d within p low above =
    let e = parted spans i d within in
    let q = subst (λ l. AreApart 1 l) e p in
    ap (λ l. spanned l h) e ∙ found_in (take i spans) (drop (suc i) spans) (get_or spans i d) h q low above

-- no span begins lower than the first may
pub begins_from : (from : ℕ) (spans : List Span) (i : ℕ) (d : Span) → i < length spans → AreApart from spans → from ≤ (get_or spans i d).low
begins_from from spans i d within p =
    let e = parted spans i d within in
    let q = parts from (take i spans) (get_or spans i d ∷ drop (suc i) spans) (subst (λ l. AreApart from l) e p) in
    omega (arith, least from (take i spans) q.0, q.1.0)

-- ---- by place

-- the spans up to a place begin at a height or below it, and those from it on above it
abbrev pub IsPlace : List Span → ℕ → ℕ → Type 0
IsPlace spans h place = IsPartitionPoint (λ s. nat_le s.low h ≡ true) (λ s. nat_le s.low h ≡ false) spans place

-- the place before a place
pub before : (place : ℕ) → 0 < place → place ≡ suc (place - 1)
before place h = omega arith

-- whether a height is in the span before its place
pub held_before : (spans : List Span) (place h : ℕ) (d : Span) → AreApart 1 spans → place ≤ length spans → IsPlace spans h place → 0 < place
    → nat_le h (get_or spans (place - 1) d).high ≡ spanned spans h
held_before spans place h d p within at some =
    let low : (get_or spans (place - 1) d).low ≤ h = leb-true _ _ (at.0 (place - 1) d (omega arith) (omega arith)) in
    let above : BeginsAbove (drop (suc (place - 1)) spans) h = subst (λ n. BeginsAbove (drop n spans) h) (before place some) (first_above spans place h at.1) in
    sym (found spans (place - 1) h d (omega arith) p low above)

-- where no span begins at a height or below it, it is in none
pub held_nowhere : (spans : List Span) (place h : ℕ) → AreApart 1 spans → IsPlace spans h place → place ≤ 0 → spanned spans h ≡ false
held_nowhere spans place h p at none =
    let zeroth : place ≡ 0 = omega arith in
    let above : BeginsAbove (drop 0 spans) h = subst (λ n. BeginsAbove (drop n spans) h) zeroth (first_above spans place h at.1) in
    none_above 1 spans h p above

-- a height that is held has a span before its place
pub held_behind : (spans : List Span) (place h : ℕ) → AreApart 1 spans → IsPlace spans h place → spanned spans h ≡ true → 0 < place
held_behind spans place h p at held =
    elim (leb_tells 1 place) [
      | inl some ↦ some.1
      | inr none ↦ let not : spanned spans h ≡ false = held_nowhere spans place h p at (omega (arith, none.1)) in absurd (true_false (sym held ∙ not))
    ]
  where
    true_false : true ≡ false → ⊥
    true_false e = cc

-- a height in the span before its place is at least where the spans may begin
pub reached : (from : ℕ) (spans : List Span) (place h : ℕ) → place ≤ length spans → IsPlace spans h place → 0 < place → AreApart from spans → from ≤ h
reached from spans place h within at some p =
    let d : Span = record { low = 0; high = 0 } in
    let low : (get_or spans (place - 1) d).low ≤ h = leb-true _ _ (at.0 (place - 1) d (omega arith) (omega arith)) in
    omega (arith, low, begins_from from spans (place - 1) d (omega arith) p)

-- the spans begin at rising heights
pub rising : (from : ℕ) (spans : List Span) → AreApart from spans → IsNonDecreasingBy (λ s. s.low) spans
rising from [] p i j d le within = absurd (omega arith)
rising from (s ∷ spans) p zero zero d le within = omega arith
rising from (s ∷ spans) p zero (suc j) d le within = omega (arith, p.1, begins_from (s.high + 2) spans j d (omega arith) p.2)
rising from (s ∷ spans) p (suc i) zero d le within = absurd (omega arith)
rising from (s ∷ spans) p (suc i) (suc j) d le within = rising (s.high + 2) spans p.2 i j d (omega arith) (omega arith)
