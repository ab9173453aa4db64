-- One height more in spans that are apart.
use Rattle.std.proofs.Common.{◌≡◌, ℕ, zero, suc, ◌+◌, ◌-◌, ◌<◌, ◌≤◌, Bool, true, false, ◌||◌, ◌&&◌, ◌==◌, inl, inr, List, [], ◌∷◌, ◌++◌, length, take, drop, get_or, drop-cons, nat_le, refl, sym, ap, subst, ◌∙◌, arith}
use Rattle.std.proofs.Math.ListN.{set}
use Rattle.std.specs.List.{remove, insert}
use Rattle.std.proofs.lemmas.List.{take-append-drop}
use Rattle.std.proofs.lemmas.Bool.Decides.{nat_tests, leb_tells}
use Rattle.std.proofs.lemmas.List.Folds.{list_any-append}
use Rattle.snow_interval.specs.declared.intervals.Span.{Span}
use Rattle.snow_interval.specs.Kept.Spans.{is_in, spanned, AreApart, behind, front, IsFree, HasGrown}
use Rattle.snow_interval.proofs.Apart.{parts, together, behind_more, BeginsAbove, IsPlace, before, held_before}
use Rattle.snow_interval.proofs.Parting.{parted, set_parted, removed_set, removed_before, before_next}

-- a height comes between two parts
between : (x e y : Bool) → (x || (e || y)) ≡ (e || (x || y))
between true true y = refl
between true false y = refl
between false true y = refl
between false false y = refl

-- a height comes into the first of what stands behind a part
into : (x e y z : Bool) → (x || ((e || y) || z)) ≡ (e || (x || (y || z)))
into true true y z = refl
into true false y z = refl
into false true y z = refl
into false false y z = refl

-- a height comes between the first two of what stands behind a part
into_both : (x e y z w : Bool) → (x || ((e || (y || z)) || w)) ≡ (e || (x || (y || (z || w))))
into_both true true y z w = refl
into_both true false y z w = refl
into_both false true y z w = refl
into_both false false true z w = refl
into_both false false false z w = refl

-- the height of a span of one
one_in : (h k : ℕ) → (nat_le h k && nat_le k h) ≡ (k == h)
one_in h k = grind (arith, nat_tests)

-- one height more at the end of a span
high_in : (low high k : ℕ) → low ≤ high → (nat_le low k && nat_le k (high + 1)) ≡ ((k == high + 1) || (nat_le low k && nat_le k high))
high_in low high k le = grind (arith, nat_tests)

-- one height more where a span begins
low_in : (h high k : ℕ) → h + 1 ≤ high → (nat_le h k && nat_le k high) ≡ ((k == h) || (nat_le (h + 1) k && nat_le k high))
low_in h high k le = grind (arith, nat_tests)

-- spans behind a height may begin further behind it, where they leave one free
raised : (from h : ℕ) (b : List Span) → AreApart from b → IsFree b h → AreApart (h + 2) b
raised from h [] p free = tt
raised from h (s ∷ b) p free = (free, p.1, p.2)

-- a span of one height between two parts
alone_in : (a b : List Span) (h : ℕ) → behind 0 a ≤ h → IsFree b h → HasGrown (a ++ b) (a ++ record { low = h; high = h } ∷ b) h
alone_in a b h low free = record {
  held = λ k. list_any-append (is_in k) a (record { low = h; high = h } ∷ b)
      ∙ ap (λ e. spanned a k || (e || spanned b k)) (one_in h k)
      ∙ between (spanned a k) (k == h) (spanned b k)
      ∙ ap (λ x. (k == h) || x) (sym (list_any-append (is_in k) a b));
  apart = λ from le p.
      let q = parts from a b p in
      together from a (record { low = h; high = h } ∷ b) q.0 (behind_low from a h le low, omega arith, raised (behind from a) h b q.1 free);
}
  where
    behind_low : (from : ℕ) (a : List Span) (h : ℕ) → from ≤ h → behind 0 a ≤ h → behind from a ≤ h
    behind_low from [] h le low = le
    behind_low from (s ∷ a) h le low = low

-- one height more at the end of a span
end_in : (a b : List Span) (s : Span) (h : ℕ) → AreApart 1 (a ++ s ∷ b) → s.high + 1 ≡ h → IsFree b h → HasGrown (a ++ s ∷ b) (a ++ record { low = s.low; high = h } ∷ b) h
end_in a b s h p at free =
    let le : s.low ≤ s.high = (parts 1 a (s ∷ b) p).1.1 in
    let P : ℕ → Type 0 = λ n. HasGrown (a ++ s ∷ b) (a ++ record { low = s.low; high = n } ∷ b) n in
    let free_at : IsFree b (s.high + 1) = subst (λ n. IsFree b n) (sym at) free in
    subst P at (record {
      held = λ k. list_any-append (is_in k) a (record { low = s.low; high = s.high + 1 } ∷ b)
          ∙ ap (λ e. spanned a k || (e || spanned b k)) (high_in s.low s.high k le)
          ∙ into (spanned a k) (k == s.high + 1) (is_in k s) (spanned b k)
          ∙ ap (λ x. (k == s.high + 1) || x) (sym (list_any-append (is_in k) a (s ∷ b)));
      apart = λ from le p.
          let q = parts from a (s ∷ b) p in
          together from a (record { low = s.low; high = s.high + 1 } ∷ b) q.0 (q.1.0, omega (arith, q.1.1), raised (s.high + 2) (s.high + 1) b q.1.2 free_at);
    })

-- one height more where a span begins
begin_in : (a b : List Span) (s : Span) (h : ℕ) → AreApart 1 (a ++ s ∷ b) → behind 0 a ≤ h → s.low ≡ h + 1 → HasGrown (a ++ s ∷ b) (a ++ record { low = h; high = s.high } ∷ b) h
begin_in a b s h p low at =
    let le : h + 1 ≤ s.high = omega (arith, (parts 1 a (s ∷ b) p).1.1) in record {
      held = λ k. list_any-append (is_in k) a (record { low = h; high = s.high } ∷ b)
          ∙ ap (λ e. spanned a k || (e || spanned b k)) (low_in h s.high k le ∙ ap (λ n. (k == h) || (nat_le n k && nat_le k s.high)) (sym at))
          ∙ into (spanned a k) (k == h) (is_in k s) (spanned b k)
          ∙ ap (λ x. (k == h) || x) (sym (list_any-append (is_in k) a (s ∷ b)));
      apart = λ from le p.
          let q = parts from a (s ∷ b) p in
          together from a (record { low = h; high = s.high } ∷ b) q.0 (behind_low from a h le low, omega (arith, q.1.1), q.1.2);
    }
  where
    behind_low : (from : ℕ) (a : List Span) (h : ℕ) → from ≤ h → behind 0 a ≤ h → behind from a ≤ h
    behind_low from [] h le low = le
    behind_low from (s ∷ a) h le low = low

-- one height between two spans, which become one
join_in : (a b : List Span) (s t : Span) (h : ℕ) → AreApart 1 (a ++ s ∷ t ∷ b) → s.high + 1 ≡ h → t.low ≡ h + 1
    → HasGrown (a ++ s ∷ t ∷ b) (a ++ record { low = s.low; high = t.high } ∷ b) h
join_in a b s t h p end at =
    let q = (parts 1 a (s ∷ t ∷ b) p).1 in
    let low : s.low < h = omega (arith, q.1) in
    let high : h < t.high = omega (arith, q.2.1) in record {
      held = λ k.
          let split : (nat_le s.low k && nat_le k t.high) ≡ ((k == h) || (is_in k s || is_in k t)) = grind (arith, nat_tests, end, at, q.1, q.2.1) in
          list_any-append (is_in k) a (record { low = s.low; high = t.high } ∷ b)
          ∙ ap (λ e. spanned a k || (e || spanned b k)) split
          ∙ into_both (spanned a k) (k == h) (is_in k s) (is_in k t) (spanned b k)
          ∙ ap (λ x. (k == h) || x) (sym (list_any-append (is_in k) a (s ∷ t ∷ b)));
      apart = λ from le p.
          let r = parts from a (s ∷ t ∷ b) p in
          together from a (record { low = s.low; high = t.high } ∷ b) r.0 (r.1.0, omega (arith, r.1.1, r.1.2.1), r.1.2.2);
    }

-- ---- by place

-- a span stands at a place
pub has_next : (spans : List Span) (i h : ℕ) → front (drop i spans) ≡ h + 1 → i < length spans
has_next [] zero h at = absurd (omega arith)
has_next [] (suc i) h at = absurd (omega arith)
has_next (s ∷ spans) zero h at = omega arith
has_next (s ∷ spans) (suc i) h at = omega (arith, has_next spans i h at)

-- a span stands before a place
pub has_last : (spans : List Span) (i h : ℕ) → behind 0 (take i spans) ≡ h + 1 → 0 < i
has_last spans zero h at = absurd (omega arith)
has_last spans (suc i) h at = omega arith

-- the span before a place ends right below a height
ends : (spans : List Span) (j h : ℕ) (d : Span) → j < length spans → behind 0 (take (suc j) spans) ≡ h + 1 → (get_or spans j d).high + 1 ≡ h
ends spans j h d within at =
    let e : behind 0 (take (suc j) spans) ≡ (get_or spans j d).high + 2 = ap (behind 0) (before_next spans j d within) ∙ behind_more 0 (take j spans) (get_or spans j d) in
    omega (arith, e, at)

-- a span comes to a place
pub put_at : (spans : List Span) (i h : ℕ) → behind 0 (take i spans) ≤ h → IsFree (drop i spans) h → HasGrown spans (insert spans i record { low = h; high = h }) h
put_at spans i h low free =
    let P : List Span → Type 0 = λ l. HasGrown l (insert spans i record { low = h; high = h }) h in
    subst P (take-append-drop i spans) (alone_in (take i spans) (drop i spans) h low free)

-- the span before a place ends one higher
pub ended_at : (spans : List Span) (i j h : ℕ) (s : Span) → i ≡ suc j → i ≤ length spans → s ≡ get_or spans j s → AreApart 1 spans → behind 0 (take i spans) ≡ h + 1
    → IsFree (drop i spans) h → HasGrown spans (set spans j record { low = s.low; high = h }) h
ended_at spans i j h s next within is p at free =
    let inside : j < length spans = omega (arith, next) in
    let at_next : behind 0 (take (suc j) spans) ≡ h + 1 = subst (λ n. behind 0 (take n spans) ≡ h + 1) next at in
    let free_next : IsFree (drop (suc j) spans) h = subst (λ n. IsFree (drop n spans) h) next free in
    let whole : spans ≡ take j spans ++ s ∷ drop (suc j) spans = parted spans j s inside ∙ ap (λ x. take j spans ++ x ∷ drop (suc j) spans) (sym is) in
    let end : s.high + 1 ≡ h = ap (λ (x : Span). x.high + 1) is ∙ ends spans j h s inside at_next in
    let P : List Span → Type 0 = λ l. HasGrown l (take j spans ++ record { low = s.low; high = h } ∷ drop (suc j) spans) h in
    let grown : HasGrown spans (take j spans ++ record { low = s.low; high = h } ∷ drop (suc j) spans) h =
    subst P (sym whole) (end_in (take j spans) (drop (suc j) spans) s h (subst (λ l. AreApart 1 l) whole p) end free_next) in
    subst (λ l. HasGrown spans l h) (sym (set_parted spans j record { low = s.low; high = h } inside)) grown

-- the span at a place begins one lower
pub begun_at : (spans : List Span) (i h : ℕ) (s : Span) → s ≡ get_or spans i s → AreApart 1 spans → behind 0 (take i spans) ≤ h → front (drop i spans) ≡ h + 1
    → HasGrown spans (set spans i record { low = h; high = s.high }) h
begun_at spans i h s is p low at =
    let inside : i < length spans = has_next spans i h at in
    let next : drop i spans ≡ s ∷ drop (suc i) spans = drop-cons spans i s inside ∙ ap (λ x. x ∷ drop (suc i) spans) (sym is) in
    let begin : s.low ≡ h + 1 = sym (ap front next) ∙ at in
    let whole : spans ≡ take i spans ++ s ∷ drop (suc i) spans = parted spans i s inside ∙ ap (λ x. take i spans ++ x ∷ drop (suc i) spans) (sym is) in
    let P : List Span → Type 0 = λ l. HasGrown l (take i spans ++ record { low = h; high = s.high } ∷ drop (suc i) spans) h in
    let grown : HasGrown spans (take i spans ++ record { low = h; high = s.high } ∷ drop (suc i) spans) h =
    subst P (sym whole) (begin_in (take i spans) (drop (suc i) spans) s h (subst (λ l. AreApart 1 l) whole p) low begin) in
    subst (λ l. HasGrown spans l h) (sym (set_parted spans i record { low = h; high = s.high } inside)) grown

-- the spans before and at a place become one
pub joined_at : (spans : List Span) (i j h : ℕ) (s t : Span) → i ≡ suc j → s ≡ get_or (remove spans i) j s → t ≡ get_or spans i t → AreApart 1 spans
    → behind 0 (take i spans) ≡ h + 1 → front (drop i spans) ≡ h + 1 → HasGrown spans (set (remove spans i) j record { low = s.low; high = t.high }) h
joined_at spans i j h s t next is_s is_t p end begin =
    let inside : suc j < length spans = omega (arith, has_next spans i h begin, next) in
    let end_next : behind 0 (take (suc j) spans) ≡ h + 1 = subst (λ n. behind 0 (take n spans) ≡ h + 1) next end in
    let at_s : s ≡ get_or spans j s = subst (λ n. s ≡ get_or (remove spans n) j s) next is_s ∙ removed_before spans j s inside in
    let at_t : t ≡ get_or spans (suc j) t = subst (λ n. t ≡ get_or spans n t) next is_t in
    let two : drop (suc j) spans ≡ t ∷ drop (suc (suc j)) spans = drop-cons spans (suc j) t inside ∙ ap (λ x. x ∷ drop (suc (suc j)) spans) (sym at_t) in
    let begin_next : front (drop (suc j) spans) ≡ h + 1 = subst (λ n. front (drop n spans) ≡ h + 1) next begin in
    let low : t.low ≡ h + 1 = sym (ap front two) ∙ begin_next in
    let high : s.high + 1 ≡ h = ap (λ (x : Span). x.high + 1) at_s ∙ ends spans j h s (omega arith) end_next in
    let whole : spans ≡ take j spans ++ s ∷ t ∷ drop (suc (suc j)) spans = parted spans j s (omega arith) ∙ ap (λ x. take j spans ++ x ∷ drop (suc j) spans) (sym at_s) ∙ ap (λ l. take j spans ++ s ∷ l) two in
    let P : List Span → Type 0 = λ l. HasGrown l (take j spans ++ record { low = s.low; high = t.high } ∷ drop (suc (suc j)) spans) h in
    let grown : HasGrown spans (take j spans ++ record { low = s.low; high = t.high } ∷ drop (suc (suc j)) spans) h =
    subst P (sym whole) (join_in (take j spans) (drop (suc (suc j)) spans) s t h (subst (λ l. AreApart 1 l) whole p) high low) in
    let made : set (remove spans i) j record { low = s.low; high = t.high } ≡ take j spans ++ record { low = s.low; high = t.high } ∷ drop (suc (suc j)) spans =
    ap (λ n. set (remove spans n) j record { low = s.low; high = t.high }) next ∙ removed_set spans j record { low = s.low; high = t.high } inside in
    subst (λ l. HasGrown spans l h) (sym made) grown

-- whether the span before a place ends right below a height
pub ends_at : (spans : List Span) (place h : ℕ) (d : Span) → 0 < h → place ≤ length spans → 0 < place
    → ((get_or spans (place - 1) d).high == (h - 1)) ≡ (behind 0 (take place spans) == h + 1)
ends_at spans place h d above within some =
    let i : ℕ = place - 1 in
    let e : behind 0 (take (suc i) spans) ≡ (get_or spans i d).high + 2 = ap (behind 0) (before_next spans i d (omega arith)) ∙ behind_more 0 (take i spans) (get_or spans i d) in
    let at : behind 0 (take place spans) ≡ (get_or spans i d).high + 2 = ap (λ n. behind 0 (take n spans)) (before place some) ∙ e in
    rw at (one_below (get_or spans i d).high h above)
  where
    one_below : (high h : ℕ) → 0 < h → (high == (h - 1)) ≡ (high + 2 == h + 1)
    one_below high h above = grind (arith, nat_tests)

-- spans that begin above a height, and not right above it, leave one free
pub frees : (spans : List Span) (i h : ℕ) → BeginsAbove (drop i spans) h → (front (drop i spans) == h + 1) ≡ false → IsFree (drop i spans) h
frees spans i h = free_of (drop i spans)
  where
    free_of : (b : List Span) → BeginsAbove b h → (front b == h + 1) ≡ false → IsFree b h
    free_of [] above not = tt
    free_of (s ∷ b) above not = grind (arith, nat_tests)

-- the span before the place of a height that isn't held ends below it
pub ends_before : (spans : List Span) (place h : ℕ) → AreApart 1 spans → place ≤ length spans → IsPlace spans h place → spanned spans h ≡ false
    → (behind 0 (take place spans) == h + 1) ≡ false → behind 0 (take place spans) ≤ h
ends_before spans place h p within at new not =
    elim (leb_tells 1 place) [
      | inr none ↦
          let zeroth : place ≡ 0 = omega (arith, none.1) in
          let empty : behind 0 (take place spans) ≡ 0 = ap (λ n. behind 0 (take n spans)) zeroth in
          omega (arith, empty)
      | inl some ↦
          let d : Span = record { low = 0; high = 0 } in
          let i : ℕ = place - 1 in
          let e : behind 0 (take (suc i) spans) ≡ (get_or spans i d).high + 2 = ap (behind 0) (before_next spans i d (omega arith)) ∙ behind_more 0 (take i spans) (get_or spans i d) in
          let ends : behind 0 (take place spans) ≡ (get_or spans i d).high + 2 = ap (λ n. behind 0 (take n spans)) (before place some.1) ∙ e in
          let past : nat_le h (get_or spans i d).high ≡ false = held_before spans place h d p within at some.1 ∙ new in
          not_next (behind 0 (take place spans)) (get_or spans i d).high h ends past not
    ]
  where
    not_next : (end high h : ℕ) → end ≡ high + 2 → nat_le h high ≡ false → (end == h + 1) ≡ false → end ≤ h
    not_next end high h e past not = grind (arith, nat_tests)
