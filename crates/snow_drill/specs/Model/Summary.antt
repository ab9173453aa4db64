-- The six lines that a drill writes.
use Rattle.std.specs.Prelude.{ℕ, List, [], ◌∷◌, ◌++◌, codes, decimal, Ok, Err}
use Rattle.hex.specs.Hex.{encode_lower}
use Rattle.sha2.specs.Sha256.{sha256}
use Rattle.snow_lines.specs.Model.Text.{texts}
use Rattle.snow_engine.specs.Kept.Staging.{Comes}
use Rattle.snow_drill.specs.Kept.Told.{Told}
use Rattle.snow_drill.specs.Model.Drill.{Step, Drill, played, opened}

-- a word and a number
abbrev pub number_line : List ℕ → ℕ → List ℕ
number_line name n = name ++ 32 ∷ decimal n ++ 10 ∷ []

-- a word and the digits of bytes
abbrev pub digits_line : List ℕ → List ℕ → List ℕ
digits_line name bytes = name ++ 32 ∷ encode_lower bytes ++ 10 ∷ []

-- how many blocks were made, accepted and rejected, how many queries were answered, the block accepted last, and the digest of all lines
abbrev pub summary_of : ℕ → Told → List ℕ → List ℕ
summary_of blocks told digest =
    number_line (codes "blocks") blocks
    ++ number_line (codes "accepted") told.accepted
    ++ number_line (codes "rejected") told.rejected
    ++ number_line (codes "polls") told.answered
    ++ digits_line (codes "last") told.last
    ++ digits_line (codes "sha256") digest

module _ {N : Type 0} where
  abbrev pub summary : ℕ → Drill N → List ℕ
  summary blocks d = summary_of blocks d.told (sha256 (texts d.lines))

  -- the summary of a drill that begins with what came of its Start; where that was refused there is none
  unfoldable pub drilled : Step N → ℕ → ℕ → Comes N → List ℕ
  drilled step seed blocks (lines, Ok node) = summary blocks (played step blocks (opened seed lines node))
  drilled step seed blocks (lines, Err stop) = []
