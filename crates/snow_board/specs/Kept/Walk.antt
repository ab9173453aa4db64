-- What a walk down the counters of a conflict looks at, bit by bit.
use Rattle.std.specs.Prelude.{ℕ, ◌+◌, max, Bool, false, List, drop, sum_by, if◌then◌else◌}
use Rattle.std.specs.Bool.{beq}
use Rattle.std.specs.List.{starts_with}
use Rattle.snow_base.specs.declared.block.Vote.{Vote}
use Rattle.snow_base.specs.Model.Identifier.{bits}
use Rattle.snow_flake.specs.Model.Counter.{Counter, Decided, Undecided}
use Rattle.snow_board.specs.Model.Conflict.{Counters, Blank, At}

-- the length of the longest bit list at which a counter stands, plus one; 0 where there is none
abbrev pub depth : Counters → ℕ
depth Blank = 0
depth (At c z o) = max (depth z) (depth o) + 1

-- how many of these votes are for identifiers whose bits from bit n on begin so
abbrev pub votes_from : ℕ → List Vote → List Bool → ℕ
votes_from n votes front = sum_by (λ v. if starts_with beq (drop n (bits v.id)) front then v.count else 0) votes

-- whether a counter is decided with this bit
abbrev pub is_decided_as : Counter → Bool → Bool
is_decided_as (Decided bit) other = beq bit other
is_decided_as (Undecided s) other = false
