-- Bytes that are read behind others, in place.
use Rattle.std.specs.Prelude.{◌≡◌, ℕ, List, ◌++◌, length, Option}
use Rattle.std.specs.Io.KnownBytes.{Consumes}

-- the bytes that are held, and how many more find room behind them
pub record Filled : Type 0 where
  pub bytes : List ℕ
  pub room : ℕ

-- so many bytes were taken from a source, and came behind those that were held
pub record TakesIn (left_before left_now : Option (List ℕ)) (before now : List ℕ) (n : ℕ) : Type 0 where
  pub piece : List ℕ
  pub consumed : Consumes left_before left_now piece
  pub behind : now ≡ before ++ piece
  pub long : length piece ≡ n
