-- What is remembered of items.
use Rattle.std.specs.Prelude.{◌≡◌, ℕ, ◌<◌, Bool, true, false, List, length, get_or}
use Rattle.snow_lineup.specs.declared.marks.Mark.{Mark}
use Rattle.snow_lineup.specs.declared.marks.Mark.TheVariants.{New, Quiet, Ripe}

-- whether the second mark is the first one
abbrev pub is_mark : Mark → Mark → Bool
is_mark New New = true
is_mark New Quiet = false
is_mark New Ripe = false
is_mark Quiet New = false
is_mark Quiet Quiet = true
is_mark Quiet Ripe = false
is_mark Ripe New = false
is_mark Ripe Quiet = false
is_mark Ripe Ripe = true

-- whether this is what is remembered
abbrev pub has : {T : Type 0} → Mark → T × Mark → Bool
has mark seat = is_mark mark seat.1

-- a mark stands at this place and at no other
abbrev pub IsOnlyAt : {T : Type 0} → Mark → List (T × Mark) → ℕ → Type 0
IsOnlyAt {T} mark seats at = (k : ℕ) (d : T × Mark) → k < length seats → has mark (get_or seats k d) ≡ true → k ≡ at
