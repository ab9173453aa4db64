-- Numbers drawn one after the other.
use Rattle.std.specs.Prelude.{ℕ, ◌+◌, ◌-◌, ◌^◌, min, Option, Some, None, nat_lt, if◌then◌else◌}

-- the number that comes after the last one: none after 2^32 - 1
abbrev pub next_number : ℕ → Option ℕ
next_number last = if nat_lt last (2 ^ 32 - 1) then Some (last + 1) else None

-- the last number once it has been asked for
abbrev pub last_after : ℕ → ℕ
last_after last = min (last + 1) (2 ^ 32 - 1)
