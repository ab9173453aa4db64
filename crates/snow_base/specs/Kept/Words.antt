-- Bytes that are read eight at a time, as one number.
use Rattle.std.specs.Prelude.{◌≡◌, ℕ, zero, suc, ◌+◌, ◌*◌, ◌<◌, List, ◌==◌}
use Rattle.std.specs.Int.{bit_at}
use Rattle.snow_base.specs.Model.Identifier.{bit}

-- the number whose n digits in base 256 are f 0, f 1 and so on, the first the highest
unfoldable pub high_first : (ℕ → ℕ) → ℕ → ℕ
high_first f zero = 0
high_first f (suc n) = high_first f n * 256 + f n

-- the bits of x are 64 bits of an identifier, from bit 64 * at on
abbrev pub IsWord : List ℕ → ℕ → ℕ → Type 0
IsWord id at x = (k : ℕ) → k < 64 → (bit_at x k == 1) ≡ bit id (64 * at + k)
