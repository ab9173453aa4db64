-- What contracts see of sources and sinks, and how their counts rise.
use Rattle.std.specs.Prelude.{ℕ, ◌+◌, ◌-◌, ◌^◌, Bool, min, List, length, ◌==◌, Option, Result, is_err, if◌then◌else◌}
use Rattle.std.specs.List.{list_any}
use Rattle.snow_base.specs.declared.outside.Failed.{Failed}

-- a source: the bytes that are left, the most that a read gives, the numbers of the calls that fail, and how many calls and failures there were
pub record Reading : Type 0 where
  pub left : List ℕ
  pub piece : ℕ
  pub failing : List ℕ
  pub calls : ℕ
  pub faults : ℕ

-- a sink: the bytes that it took, how many more fit, the numbers of the calls that fail, and how many calls and failures there were
pub record Writing : Type 0 where
  pub written : List ℕ
  pub room : ℕ
  pub failing : List ℕ
  pub calls : ℕ
  pub faults : ℕ

-- a source that never fails: the bytes that are left, and the most that a read gives
pub record PureReading : Type 0 where
  pub left : List ℕ
  pub piece : ℕ

-- a source or a sink over one of std: the bytes that this tells, if it does, and the count of faults
pub record Passing : Type 0 where
  pub known : Option (List ℕ)
  pub faults : ℕ

-- a count that rises by n, and stands still at the end of 64 bits
abbrev pub raised : ℕ → ℕ → ℕ
raised count n = min (count + n) (2 ^ 64 - 1)

-- whether the call of this number is listed to fail
abbrev pub is_listed : List ℕ → ℕ → Bool
is_listed failing call = list_any (λ number. number == call) failing

-- the count of faults after a call: it rises where the call failed
abbrev pub faults_after : Result ℕ Failed → ℕ → ℕ
faults_after result faults = (if is_err result then raised faults 1 else faults)

-- how many bytes a read gives: no more than are left, than fit, or than a piece has
abbrev pub read_len : List ℕ → ℕ → List ℕ → ℕ
read_len left piece buffer = min (min (length left) (length buffer)) piece
