-- A set of heights as spans that rise and never touch.
use Rattle.std.specs.Prelude.{◌≡◌, ℕ, ◌+◌, ◌≤◌, Bool, ◌&&◌, List, [], ◌∷◌, nat_le, ⊤}
use Rattle.std.specs.List.{list_any}
use Rattle.snow_interval.specs.declared.intervals.Span.{Span}
use Rattle.snow_interval.specs.Model.Heights.{Heights, with_height}

-- the height above which heights are held, and the spans of those that are
pub record Spans : Type 0 where
  pub floor : ℕ
  pub spans : List Span

-- whether a height is in a span, both ends included
abbrev pub is_in : ℕ → Span → Bool
is_in h s = nat_le s.low h && nat_le h s.high

-- the heights that are in any of the spans
abbrev pub spanned : List Span → Heights
spanned spans h = list_any (is_in h) spans

-- the spans begin at a height or above it, each ends where it begins or above, and at least one height lies between two of them
abbrev pub AreApart : ℕ → List Span → Type 0
AreApart from [] = ⊤
AreApart from (s ∷ spans) = (from ≤ s.low) × (s.low ≤ s.high) × AreApart (s.high + 2) spans

-- the height from which a further span may begin behind these
abbrev pub behind : ℕ → List Span → ℕ
behind from [] = from
behind from (s ∷ spans) = behind (s.high + 2) spans

-- where the first of the spans begins, or 0
abbrev pub front : List Span → ℕ
front [] = 0
front (s ∷ spans) = s.low

-- the first of the spans, if there is one, leaves a height free above this one
abbrev pub IsFree : List Span → ℕ → Type 0
IsFree [] height = ⊤
IsFree (s ∷ spans) height = height + 2 ≤ s.low

-- the spans hold one height more, and are as far apart as they were
pub record HasGrown (old new : List Span) (height : ℕ) : Type 0 where
  pub held : (h : ℕ) → spanned new h ≡ with_height (spanned old) height h
  pub apart : (from : ℕ) → from ≤ height → AreApart from old → AreApart from new
