-- Between which places a mark may stand, so that no one looks for it elsewhere.
use Rattle.std.specs.Prelude.{◌≡◌, ℕ, ◌+◌, ◌-◌, ◌<◌, ◌≤◌, true, List, length, min, max, nat_lt, get_or, if◌then◌else◌}
use Rattle.snow_lineup.specs.declared.marks.Mark.{Mark}
use Rattle.snow_lineup.specs.declared.marks.Mark.TheVariants.{New, Quiet, Ripe}
use Rattle.snow_lineup.specs.declared.window.Window.{Window}
use Rattle.snow_lineup.specs.declared.window.Windows.{Windows}
use Rattle.snow_lineup.specs.Kept.Marks.{has}

-- a mark stands nowhere but in the window
abbrev pub IsWithin : {T : Type 0} → Mark → List (T × Mark) → Window → Type 0
IsWithin {T} mark seats window =
    (k : ℕ) (d : T × Mark) → k < length seats → has mark (get_or seats k d) ≡ true → (window.low ≤ k) × (k < window.high)

-- so do the marks of what is new and of what is ripe
pub record AreWithin {T : Type 0} (seats : List (T × Mark)) (windows : Windows) : Type 0 where
  pub fresh : IsWithin New seats windows.fresh
  pub ripe : IsWithin Ripe seats windows.ripe

abbrev pub no_place : Window
no_place = record { low = 0; high = 0 }

-- the places of so many items
abbrev pub all_places : ℕ → Window
all_places len = record { low = 0; high = len }

abbrev pub no_windows : Windows
no_windows = record { fresh = no_place; ripe = no_place }

-- so many items, of which nothing is remembered
abbrev pub all_fresh : ℕ → Windows
all_fresh len = record { fresh = all_places len; ripe = no_place }

-- one place more
abbrev pub with_place : Window → ℕ → Window
with_place window at =
    if nat_lt window.low window.high then record { low = min window.low at; high = max window.high (at + 1) }
    else record { low = at; high = at + 1 }

-- after something is remembered of the item at a place
abbrev pub marked : Windows → ℕ → Mark → Windows
marked windows at New = record { fresh = with_place windows.fresh at; ripe = windows.ripe }
marked windows at Quiet = windows
marked windows at Ripe = record { fresh = windows.fresh; ripe = with_place windows.ripe at }

-- one less for what stood behind a place
abbrev pub moved : ℕ → ℕ → ℕ
moved at bound = if nat_lt at bound then bound - 1 else bound

-- after the item at a place went
abbrev pub closed_up : Window → ℕ → Window
closed_up window at = record { low = moved at window.low; high = moved at window.high }

abbrev pub all_closed_up : Windows → ℕ → Windows
all_closed_up windows at = record { fresh = closed_up windows.fresh at; ripe = closed_up windows.ripe at }

-- where a mark may stand among so many items
abbrev pub window_of : Windows → Mark → ℕ → Window
window_of windows New len = windows.fresh
window_of windows Quiet len = all_places len
window_of windows Ripe len = windows.ripe

-- after the first item with a mark was found at a place, or none among so many
abbrev pub from_first : Window → ℕ → ℕ → Window
from_first window at len = if nat_lt at len then record { low = at; high = window.high } else no_place

abbrev pub narrowed : Windows → Mark → ℕ → ℕ → Windows
narrowed windows New at len = record { fresh = from_first windows.fresh at len; ripe = windows.ripe }
narrowed windows Quiet at len = windows
narrowed windows Ripe at len = record { fresh = windows.fresh; ripe = from_first windows.ripe at len }
