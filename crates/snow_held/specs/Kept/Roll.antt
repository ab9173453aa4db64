-- A list of places in which the numbers of replies rise: those that didn't leave are the replies that are kept.
use Rattle.std.specs.Prelude.{◌≡◌, ℕ, ◌<◌, Bool, not, List, map, filter, length}
use Rattle.std.specs.List.{AllPairs}
use Rattle.snow_held.specs.declared.backlog.Kept.{Kept}
use Rattle.snow_held.specs.declared.roll.Place.{Place}
use Rattle.snow_held.specs.Kept.Arrivals.{Entries}

-- a reply with its number
abbrev pub entry_of : Place → ℕ × Kept
entry_of p = (p.arrival, p.kept)

-- whether it didn't leave
abbrev pub is_here : Place → Bool
is_here p = not p.left

-- the replies that didn't leave, with their numbers
abbrev pub entries_of : List Place → Entries
entries_of places = map entry_of (filter is_here places)

-- each number is below those behind it
abbrev pub Rises : List Place → Type 0
Rises places = AllPairs (λ p q. p.arrival < q.arrival) places

pub record IsRoll (places : List Place) (len : ℕ) : Type 0 where
  pub rises : Rises places
  pub count : len ≡ length (entries_of places)
