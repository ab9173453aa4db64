-- Where a line isn't taken.
use Rattle.std.specs.Prelude.{ℕ, ◌+◌, List, [], ◌∷◌, length}
use Rattle.snow_text_model.specs.declared.refusal.Reason.{Reason}
use Rattle.snow_text_model.specs.Model.Words.{Word, Halt}

-- how far parts reach, with a mark behind each
abbrev pub span : List Word → ℕ
span [] = 0
span (part ∷ more) = length part + 1 + span more

-- a halt
abbrev pub halt_at : Reason → ℕ → Halt
halt_at why left = record { why = why; left = left }
