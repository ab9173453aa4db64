-- The counters of a block with one child: all of them take the same steps, so that one instance stands for them.
use Rattle.std.specs.Prelude.{◌≡◌, ℕ, ◌≤◌, Bool, true, false, List, [], ◌∷◌, Option, Some, None, if◌then◌else◌}
use Rattle.std.specs.Bool.{beq}
use Rattle.std.specs.List.{starts_with}
use Rattle.snow_base.specs.declared.block.Vote.{Vote}
use Rattle.snow_base.specs.Model.Identifier.{bits}
use Rattle.snow_flake.specs.Model.Counter.{Counter}
use Rattle.snow_flake.specs.Kept.Instance.{Single, at_bit, counter_of}
use Rattle.snow_flake.specs.Model.Rule.{answer_of, by_flake}
use Rattle.snow_plain.specs.declared.only_child.OnlyChild.{OnlyChild}
use Rattle.snow_board.specs.Model.Conflict.{Counters, Blank, At, with_child, votes_on}
use Rattle.snow_board.specs.Kept.Walk.{depth}

-- a counter with all that is below it on the side of a bit
abbrev pub linked : Bool → Counter → Counters → Counters
linked true c below = At c Blank below
linked false c below = At c below Blank

-- a counter for each of these bits, one below the other: the instance at that bit
unfoldable pub lined : Single → List Bool → Counters
lined s [] = Blank
lined s (b ∷ rest) = linked b (counter_of (at_bit s b)) (lined s rest)

-- the instance at the bit of each counter
unfoldable pub filled : Single → Counters → Counters
filled s Blank = Blank
filled s (At c z o) = At (counter_of (at_bit s (answer_of by_flake c))) (filled s z) (filled s o)

-- the counters of a conflict: those of its only child, or else those of the tree
abbrev pub counters_seen : Option OnlyChild → Counters → Counters
counters_seen None counters = counters
counters_seen (Some only_child) counters = lined only_child.counter (bits only_child.child)

-- beside an only child the tree is as its issue left it
abbrev pub IsReserve : Option OnlyChild → Counters → Type 0
IsReserve None counters = Unit {0}
IsReserve (Some only_child) counters = counters ≡ with_child (bits only_child.child) Blank

-- whether no counter stands
abbrev pub is_blank : Counters → Bool
is_blank Blank = true
is_blank (At c z o) = false

-- what is known of a conflict's tree
pub record IsKept (only_child : Option OnlyChild) (counters : Counters) : Type 0 where
  pub shallow : depth counters ≤ 256
  pub reserve : IsReserve only_child counters

-- so many votes for one child are for each front of its bits
abbrev pub along : List Bool → ℕ → List Bool → ℕ
along path n front = if starts_with beq path front then n else 0

-- the votes are for this child alone, and so many
abbrev pub AreFor : List Vote → List ℕ → ℕ → Type 0
AreFor votes child n = (front : List Bool) → votes_on votes front ≡ along (bits child) n front
