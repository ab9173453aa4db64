-- How a rule reads a counter.
use Rattle.std.specs.Prelude.{Bool}
use Rattle.snow_flake.specs.Model.Counter.{Counter, Decided, Undecided}

-- the answer of a preference and a flake
abbrev pub Answer : Type 0
Answer = Bool → Bool → Bool

-- Snowball answers the preference
abbrev pub by_preference : Answer
by_preference preference flake = preference

-- Snowflake answers the flake
abbrev pub by_flake : Answer
by_flake preference flake = flake

-- the answer of a counter: its bit once it is decided
abbrev pub answer_of : Answer → Counter → Bool
answer_of answer (Decided bit) = bit
answer_of answer (Undecided s) = answer s.preference s.flake
