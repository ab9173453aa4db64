-- The values that a drill picks by: a linear congruential generator of 64 bits, which begins as the seed.
use Rattle.std.specs.Prelude.{ℕ, zero, suc, ◌+◌, ◌*◌, ◌/◌, ◌%◌, ◌^◌, List, [], ◌∷◌, ◌++◌}

-- the value behind one
abbrev pub following : ℕ → ℕ
following x = (6364136223846793005 * x + 1442695040888963407) % 2 ^ 64

-- the last of so many values behind one
unfoldable pub last_of : ℕ → ℕ → ℕ
last_of zero x = x
last_of (suc n) x = following (last_of n x)

-- so many values behind one, in order
unfoldable pub values : ℕ → ℕ → List ℕ
values zero x = []
values (suc n) x = values n x ++ last_of (suc n) x ∷ []

-- one of the numbers below `m`, by a value
abbrev pub picked : ℕ → ℕ → ℕ
picked m x = (x / 2 ^ 33) % m
