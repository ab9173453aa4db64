-- The lowest height of a run.
use Rattle.std.proofs.Common.{◌≡◌, ℕ, zero, suc, ◌-◌, ◌<◌, ◌≤◌, Bool, true, false, ◌||◌, inl, inr, List, ◌∷◌, ◌++◌, length, take, drop, get_or, refl, sym, ap, subst, ◌∙◌, arith}
use Rattle.std.proofs.lemmas.Bool.{leb-true, le-leb}
use Rattle.std.proofs.lemmas.List.Folds.{list_any-append}
use Rattle.std.proofs.lemmas.Bool.Decides.{leb_tells}
use Rattle.snow_interval.specs.declared.intervals.Span.{Span}
use Rattle.snow_interval.specs.Model.Heights.{Heights, lowest}
use Rattle.snow_interval.specs.Kept.Spans.{is_in, spanned, AreApart, behind}
use Rattle.snow_interval.proofs.Apart.{IsPlace, parts, least, none_behind, none_above, begins_from, held_before, held_behind}
use Rattle.snow_interval.proofs.Parting.{parted}

-- the lowest height from which all up to a height are held, where the one below it isn't
pub lowest_is : (held : Heights) (low h : ℕ) → 1 ≤ low → low ≤ h → ((k : ℕ) → low ≤ k → k ≤ h → held k ≡ true) → held (low - 1) ≡ false → lowest held h ≡ low
unfolding lowest
lowest_is held low zero some le run below = absurd (omega arith)
lowest_is held low (suc h) some le run below =
    elim (leb_tells low h) [
      | inl at ↦ rw (run h at.1 (omega arith)) (lowest_is held low h some at.1 (λ k l m. run k l (omega arith)) below)
      | inr at ↦
          let e : low - 1 ≡ h = omega arith in
          let not : held h ≡ false = subst (λ n. held n ≡ false) e below in
          rw not (omega arith)
    ]

-- the heights of a span among others are held, and the height below it isn't
run_in : (a b : List Span) (s : Span) (k : ℕ) → s.low ≤ k → k ≤ s.high → spanned (a ++ s ∷ b) k ≡ true
run_in a b s k low high = list_any-append (is_in k) a (s ∷ b) ∙ rw (le-leb s.low k low, le-leb k s.high high) (or_true (spanned a k))
  where
    or_true : (x : Bool) → (x || true) ≡ true
    or_true true = refl
    or_true false = refl

below_in : (a b : List Span) (s : Span) → AreApart 1 (a ++ s ∷ b) → spanned (a ++ s ∷ b) (s.low - 1) ≡ false
below_in a b s p =
    let q = parts 1 a (s ∷ b) p in
    let some : 1 ≤ s.low = omega (arith, least 1 a q.0, q.1.0) in
    let before : spanned a (s.low - 1) ≡ false = none_behind 1 a (s.low - 1) q.0 (omega (arith, q.1.0)) in
    let after : spanned (s ∷ b) (s.low - 1) ≡ false = none_above (behind 1 a) (s ∷ b) (s.low - 1) q.1 (omega arith) in
    list_any-append (is_in (s.low - 1)) a (s ∷ b) ∙ rw before after

-- the lowest height of a run is that of the span that it is
pub low_before : (spans : List Span) (place h : ℕ) (d : Span) → AreApart 1 spans → place ≤ length spans → IsPlace spans h place → spanned spans h ≡ true
    → (get_or spans (place - 1) d).low ≡ lowest (spanned spans) h
low_before spans place h d p within at held =
    let some : 0 < place = held_behind spans place h p at held in
    let i : ℕ = place - 1 in
    let s : Span = get_or spans i d in
    let inside : i < length spans = omega arith in
    let whole : spans ≡ take i spans ++ s ∷ drop (suc i) spans = parted spans i d inside in
    let low : s.low ≤ h = leb-true _ _ (at.0 i d (omega arith) (omega arith)) in
    let high : h ≤ s.high = leb-true _ _ (held_before spans place h d p within at some ∙ held) in
    let first : 1 ≤ s.low = begins_from 1 spans i d inside p in
    let run : (k : ℕ) → s.low ≤ k → k ≤ h → spanned spans k ≡ true =
    λ k l m. ap (λ l. spanned l k) whole ∙ run_in (take i spans) (drop (suc i) spans) s k l (omega arith) in
    let below : spanned spans (s.low - 1) ≡ false =
    ap (λ l. spanned l (s.low - 1)) whole ∙ below_in (take i spans) (drop (suc i) spans) s (subst (λ l. AreApart 1 l) whole p) in
    sym (lowest_is (spanned spans) s.low h first low run below)

-- a height goes on the run of the height below it
pub run_on : (held : Heights) (low : ℕ) → 0 < low → held (low - 1) ≡ true → lowest held (low - 1) ≡ lowest held low
unfolding lowest
run_on held zero some at = absurd (omega arith)
run_on held (suc below) some at =
    let e : suc below - 1 ≡ below = omega arith in
    let here : held below ≡ true = subst (λ n. held n ≡ true) e at in
    rw (e, here) refl

-- a run begins where the height below isn't held
pub run_begins : (held : Heights) (low : ℕ) → 0 < low → held (low - 1) ≡ false → low ≡ lowest held low
unfolding lowest
run_begins held zero some at = absurd (omega arith)
run_begins held (suc below) some at =
    let e : suc below - 1 ≡ below = omega arith in
    let here : held below ≡ false = subst (λ n. held n ≡ false) e at in
    rw here refl

-- no run goes below 0
pub run_ends : (held : Heights) (low : ℕ) → low ≤ 0 → low ≡ lowest held low
unfolding lowest
run_ends held zero none = refl
run_ends held (suc below) none = absurd (omega arith)
