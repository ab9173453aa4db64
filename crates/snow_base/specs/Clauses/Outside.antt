-- What a source and a sink owe for a failure, and what a write that failed leaves.
use Rattle.std.specs.Prelude.{◌≡◌, ℕ, ◌-◌, ◌^◌, ◌<◌, ◌≤◌, ◌⊎◌, List, ◌++◌, Option, Some, None, ⊤, Result, IsErr}
use Rattle.snow_base.specs.declared.outside.Failed.{Failed}

-- a count rose, or stands at the last value of 64 bits
abbrev pub Rose : ℕ → ℕ → Type 0
Rose before now = (before < now) ⊎ (2 ^ 64 - 1 ≤ now)

-- the count of faults never falls, and a call that failed was counted
pub record HasCause {T : Type 0} (before now : ℕ) (result : Result T Failed) : Type 0 where
  pub later : before ≤ now
  pub failed : IsErr result → Rose before now

-- bytes that are known grew by a front of bs
abbrev pub AppendsFront : Option (List ℕ) → Option (List ℕ) → List ℕ → Type 0
AppendsFront None new bs = ⊤
AppendsFront (Some xs) None bs = ⊥
AppendsFront (Some xs) (Some ys) bs = (front rest : List ℕ) × (front ++ rest ≡ bs) × (ys ≡ xs ++ front)
