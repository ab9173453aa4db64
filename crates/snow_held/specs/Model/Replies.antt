-- Held replies in order of arrival, each with what is remembered of it: whose are held, and which is the first that is to be looked at.
use Rattle.std.specs.Prelude.{ℕ, Bool, ◌&&◌, ◌==◌, List, [], ◌∷◌, map, find, bytes_eq, Option, if◌then◌else◌}
use Rattle.std.specs.List.{list_any}
use Rattle.std.specs.Option.{option_map}
use Rattle.snow_held.specs.declared.held.Held.{Held}
use Rattle.snow_lineup.specs.declared.marks.Mark.{Mark}
use Rattle.snow_lineup.specs.declared.marks.Mark.TheVariants.{New, Quiet}
use Rattle.snow_lineup.specs.Kept.Marks.{has}

-- the replies, without what is remembered of them
abbrev pub replies_of : List (Held × Mark) → List Held
replies_of seats = map (λ s. s.0) seats

-- whether this is the reply of that node to that poll
abbrev pub is_reply : ℕ → List ℕ → Held → Bool
is_reply number node h = (h.number == number) && bytes_eq h.node node

-- whether a reply of a node to a poll is held
abbrev pub holds_in : List Held → ℕ → List ℕ → Bool
holds_in held number node = list_any (is_reply number node) held

-- what is remembered of a reply as it comes: that it is quiet, or nothing
abbrev pub mark_by : Bool → Mark
mark_by quiet = if quiet then Quiet else New

-- the earliest reply of which nothing is remembered
abbrev pub first_new : List (Held × Mark) → Option Held
first_new seats = option_map (λ s. s.0) (find (has New) seats)

-- the same replies, that one quiet
abbrev pub quieted : List (Held × Mark) → List (Held × Mark)
quieted [] = []
quieted (s ∷ seats) = if has New s then (s.0, Quiet) ∷ seats else s ∷ quieted seats

-- the replies without that one
abbrev pub without_new : List (Held × Mark) → List (Held × Mark)
without_new [] = []
without_new (s ∷ seats) = if has New s then seats else s ∷ without_new seats
