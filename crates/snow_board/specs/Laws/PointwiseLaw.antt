-- The counters of a conflict are a map from bit lists to counters: what a poll and an issue make of it at each list.
use Rattle.std.specs.Prelude.{◌≡◌, ℕ, Bool, true, false, ◌||◌, List, [], ◌∷◌, ◌++◌, length, Option, None, is_some, if◌then◌else◌}
use Rattle.std.specs.Option.{option_map}
use Rattle.std.specs.Bool.{beq, Decides}
use Rattle.std.specs.List.{starts_with, slice_get}
use Rattle.snow_flake.specs.Model.Parameters.{Parameters}
use Rattle.snow_flake.specs.Model.Counter.{Counter, fresh, stepped}
use Rattle.snow_board.specs.Model.Conflict.{Counters, counter_at, with_child, all_polled}
use Rattle.snow_board.specs.Laws.Excluded.{is_excluded, IsExcluded}

-- counters that are the same at each bit list are the same
abbrev pub MapLaw : Type 0
MapLaw = (counters other : Counters) → ((place : List Bool) → counter_at counters place ≡ counter_at other place) → counters ≡ other

-- a bit list is excluded exactly where the counter at a proper front is decided, and not with the bit that follows
abbrev pub ExcludedLaw : Type 0
ExcludedLaw = (counters : List Bool → Option Counter) (place : List Bool) → Decides (is_excluded counters place) (IsExcluded counters place)

-- the counter at a bit list after the bit step with its own two counts
abbrev pub stepped_at : Parameters → (List Bool → ℕ) → Counters → List Bool → Option Counter
stepped_at p votes counters place =
    option_map (λ c. stepped p c (votes (place ++ false ∷ [])) (votes (place ++ true ∷ []))) (counter_at counters place)

-- at each bit list a poll makes the bit step of the counter there, and those that are then excluded go
abbrev pub PollLaw : Type 0
PollLaw = (p : Parameters) (votes : List Bool → ℕ) (counters : Counters) (place : List Bool)
    → counter_at (all_polled p votes counters) place
    ≡ (if is_excluded (stepped_at p votes counters) place then None else stepped_at p votes counters place)

-- a fresh counter with the next bit, where a child's bits begin so and go on
abbrev pub fresh_at : List Bool → List Bool → Option Counter
fresh_at child place = if starts_with beq child place then option_map fresh (slice_get child (length place)) else None

-- the counter at a bit list after the issue of a child with these bits: as before where one stands or none may, else fresh
abbrev pub grown_at : List Bool → Counters → List Bool → Option Counter
grown_at child counters place =
    let before : List Bool → Option Counter = counter_at counters in
    if is_some (before place) || is_excluded before place then before place else fresh_at child place

-- an issue leaves what stands, and makes fresh counters at just those proper fronts of the child's bits where none stands and none is excluded
abbrev pub IssueLaw : Type 0
IssueLaw = (child : List Bool) (counters : Counters) (place : List Bool) → counter_at (with_child child counters) place ≡ grown_at child counters place
