-- What a drill keeps of its lines.
use Rattle.std.specs.Prelude.{ℕ, ◌+◌, List, [], ◌∷◌, ◌++◌, map, replicate}
use Rattle.snow_lines.specs.declared.line.Line.{Line}
use Rattle.snow_lines.specs.declared.line.Line.TheVariants as line
use Rattle.snow_drill.specs.declared.tally.Asked.{Asked}

-- the block of the last `prefer` line and that of the last `accept` line, how many blocks were accepted and rejected, the queries that
-- aren't answered, the oldest first, and how many were answered
pub record Told : Type 0 where
  pub tip : List ℕ
  pub last : List ℕ
  pub accepted : ℕ
  pub rejected : ℕ
  pub asked : List Asked
  pub answered : ℕ

-- the identifier of 32 zero bytes, with which a drill begins
abbrev pub nobody : List ℕ
nobody = replicate 32 0

-- before the first line
abbrev pub untold : Told
untold = record { tip = nobody; last = nobody; accepted = 0; rejected = 0; asked = []; answered = 0 }

-- once a line was written
abbrev pub noted : Told → Line → Told
noted told (line.Prefer id) = record told { tip = id }
noted told (line.Accept id) = record told { last = id; accepted = told.accepted + 1 }
noted told (line.Reject id) = record told { rejected = told.rejected + 1 }
noted told (line.Query number id draws) = record told { asked = told.asked ++ record { number = number; nodes = map (λ d. d.node) draws } ∷ [] }
noted told other = told

-- once the oldest query is answered, with these behind it
abbrev pub answering : Told → List Asked → Told
answering told later = record told { asked = later; answered = told.answered + 1 }
