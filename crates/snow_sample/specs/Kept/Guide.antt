-- Where the search for a unit's node begins: for each run of units, how many nodes end at its first unit or before.
use Rattle.std.specs.Prelude.{ℕ, ◌-◌, ◌*◌, ◌^◌, ◌<◌, ◌≤◌, List, length, slice_index, slice_index_or}

-- each start is one at which no earlier node has a unit of its run, of so many units, or of a later one
pub record AreStarts (ends : List ℕ) (width : ℕ) (starts : List ℕ) : Type 0 where
  pub within : (run : ℕ) → slice_index starts run ≤ length ends
  pub passed : (run i d : ℕ) → run < length starts → i < slice_index starts run → slice_index_or ends i d ≤ run * width

-- the starts of runs that have so many units, and of one run more
pub record IsGuide (ends : List ℕ) (units : ℕ) (starts : List ℕ) (shift : ℕ) : Type 0 where
  pub small : shift < 64
  pub reaches : units ≤ (length starts - 1) * 2 ^ shift
  pub each : AreStarts ends (2 ^ shift) starts
