-- The text of a line, written in memory.
use Rattle.std.specs.Prelude.{ℕ, List}

-- the bytes that were written, and how often there was no memory for more
pub record Sheet : Type 0 where
  pub bytes : List ℕ
  pub faults : ℕ
