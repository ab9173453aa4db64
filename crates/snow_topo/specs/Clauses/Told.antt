-- The decisions that an acceptance makes.
use Rattle.std.specs.Prelude.{ℕ, true, false, List, ◌∷◌, map}
use Rattle.snow_board.specs.declared.board.Decision.{Decision}

abbrev pub rejection : List ℕ → Decision
rejection id = record { accepted = false; id = id }

-- a block is accepted, and then others are rejected
abbrev pub told : List ℕ → List (List ℕ) → List Decision
told child rejected = record { accepted = true; id = child } ∷ map rejection rejected
