-- A stream that comes in pieces: its frames are given one at a time.
use Rattle.std.specs.Prelude.{◌≡◌, ℕ, ◌+◌, false, true, List, [], ◌++◌, Option, Some, None, Result, Ok, Err}
use Rattle.snow_wire.specs.declared.frame.Frame.{Frame}
use Rattle.snow_wire.specs.declared.frame.TooLong.{TooLong}
use Rattle.snow_wire.specs.Model.Frame.{length_word, is_too_long, first_of}

-- how many frames were given, and the bytes behind them
pub record Intake : Type 0 where
  pub given : ℕ
  pub rest : List ℕ

-- nothing came yet
abbrev pub fresh : Intake
fresh = record { given = 0; rest = [] }

-- a piece came
abbrev pub fed : Intake → List ℕ → Intake
fed intake piece = record { given = intake.given; rest = intake.rest ++ piece }

-- without a frame that was found in front; where none was found all stays
abbrev pub without : Intake → Option (List ℕ × List ℕ) → Intake
without intake None = intake
without intake (Some first) = record { given = intake.given + 1; rest = first.1 }

-- the first frame, if there is one, is taken off the front
abbrev pub taken : Intake → Intake
taken intake = without intake (first_of intake.rest)

-- the answer to a call for the next frame: the first one; a length that no frame has; or none, where
-- neither stands in front
abbrev pub IsNext : Intake → Result (Option Frame) TooLong → Type 0
IsNext intake (Ok (Some frame)) =
    (first_of intake.rest ≡ Some (frame.payload.now, (taken intake).rest)) × (frame.number ≡ intake.given + 1)
IsNext intake (Ok None) = (first_of intake.rest ≡ None) × (is_too_long intake.rest ≡ false)
IsNext intake (Err long) =
    (is_too_long intake.rest ≡ true) × (long ≡ record { number = intake.given + 1; length = length_word intake.rest })
