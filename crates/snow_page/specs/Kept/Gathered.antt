-- Bytes that wait to be written, and those that come behind them.
use Rattle.std.specs.Prelude.{◌≡◌, ℕ, List, ◌++◌, Option, Some, None, ⊤}

-- a piece came behind the bytes that were held: a front of both was written, and the rest of both is kept.
-- Nothing is said of a sink that doesn't tell its bytes
abbrev pub Gathers : Option (List ℕ) → List ℕ → Option (List ℕ) → List ℕ → List ℕ → Type 0
Gathers None held new kept piece = ⊤
Gathers (Some xs) held None kept piece = ⊥
Gathers (Some xs) held (Some ys) kept piece = (front : List ℕ) × (ys ≡ xs ++ front) × (front ++ kept ≡ held ++ piece)
