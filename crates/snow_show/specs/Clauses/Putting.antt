-- What a function owes that puts a piece behind a text.
use Rattle.std.specs.Prelude.{◌≡◌, ℕ, List, ◌++◌, Result, Ok, Err}

-- a text begins with what it was
pub record Begins (before after : List ℕ) : Type 0 where
  pub more : List ℕ
  pub whole : after ≡ before ++ more

-- the piece stands behind what the text was; or memory ran out, and the text begins with what it was
abbrev pub Puts : {T E : Type 0} → Result T E → List ℕ → List ℕ → List ℕ → Type 0
Puts (Ok x) before after piece = after ≡ before ++ piece
Puts (Err e) before after piece = Begins before after
