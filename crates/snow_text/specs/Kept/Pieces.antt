-- Pieces of a text that is read: what is still to come means what was to come.
use Rattle.std.specs.Prelude.{◌≡◌, ℕ, ◌+◌, ◌^◌, ◌<◌, ◌≤◌, List, ◌++◌, length, Option, Some, None, ⊤}
use Rattle.snow_text_model.specs.Model.Made.{made}
use Rattle.snow_text.specs.Clauses.Texts.{Standing, means}

-- the lines of a piece were taken, but for what is left of it
pub record Taking (before now : Standing) (piece rest : List ℕ) : Type 0 where
  pub steps : (more : List ℕ) → means before (piece ++ more) ≡ means now (rest ++ more)
  pub number : now.lines.number + length rest ≤ before.lines.number + length piece

-- the text that a source told means what was made of it and what is left; so many bytes may still come
abbrev pub IsOn : Option (List ℕ) → Option (List ℕ) → Standing → ℕ → Type 0
IsOn None now s room = ⊤
IsOn (Some text) None s room = ⊥
IsOn (Some text) (Some left) s room = (made text ≡ means s left) × (length text + room ≡ length left + 2 ^ 40)

-- the pieces so far were taken
pub record Taken (before now : Option (List ℕ)) (s : Standing) (room faults_before faults_now : ℕ) (buffer : List ℕ) : Type 0 where
  pub on : IsOn before now s room
  pub number : s.lines.number + room ≤ 2 ^ 40 + 1
  pub later : faults_before ≤ faults_now
  pub some : 0 < length buffer
