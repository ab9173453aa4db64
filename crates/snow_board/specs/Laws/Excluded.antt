-- Which bit lists are excluded: a counter at a proper front of them is decided with another bit than the one that follows.
use Rattle.std.specs.Prelude.{◌≡◌, Bool, true, false, not, ◌||◌, List, [], ◌∷◌, ◌++◌, Option, Some, None}
use Rattle.std.specs.Bool.{beq}
use Rattle.snow_flake.specs.Model.Counter.{Counter, Decided, admits}

-- whether identifiers with this bit are possible, where there is this counter or none
abbrev pub lets : Option Counter → Bool → Bool
lets None bit = true
lets (Some counter) bit = admits counter bit

-- whether the counters in front of a bit list exclude it
abbrev pub is_excluded : (List Bool → Option Counter) → List Bool → Bool
is_excluded counters [] = false
is_excluded counters (bit ∷ rest) = not (lets (counters []) bit) || is_excluded (λ place. counters (bit ∷ place)) rest

-- the counter at a proper front is decided, and not with the bit that follows
pub record IsExcluded (counters : List Bool → Option Counter) (place : List Bool) : Type 0 where
  pub front : List Bool
  pub next : Bool
  pub rest : List Bool
  pub decided : Bool
  pub splits : place ≡ front ++ next ∷ rest
  pub stands : counters front ≡ Some (Decided decided)
  pub against : beq decided next ≡ false
