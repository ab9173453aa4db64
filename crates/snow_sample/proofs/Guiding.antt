-- Lemmas on the guide: where a search may begin, and what it then finds.
use Rattle.std.proofs.Common.{◌≡◌, ℕ, ◌+◌, ◌-◌, ◌*◌, ◌/◌, ◌^◌, ◌<◌, ◌≤◌, true, false, List, [], ◌∷◌, ◌++◌, length, get_or, nat_le, arith, inl, inr}
use Rattle.std.specs.List.Sorted.{IsPartitionedBy, IsPartitionPoint}
use Rattle.std.proofs.lemmas.Bool.{cases_lt, false_from_ne_true, le-leb, leb-true}
use Rattle.std.proofs.lemmas.Nat.{pow_pos, shr_split}
use Rattle.std.proofs.Math.Nat.{div-lt_iff_lt-mul}
use Rattle.snow_sample.specs.Kept.Guide.{IsGuide}

-- the ends before a place are at most a unit
abbrev pub AreBefore : List ℕ → ℕ → ℕ → Type 0
AreBefore ends unit place = (i d : ℕ) → i < place → get_or ends i d ≤ unit

-- a unit's run begins at it or before
pub run_begins : (unit shift : ℕ) → unit / 2 ^ shift * 2 ^ shift ≤ unit
run_begins unit shift = omega (arith, shr_split unit shift)

-- a guide that reaches past a unit has its run, and one more
pub run_within : (ends starts : List ℕ) (unit shift : ℕ) → IsGuide ends (unit + 1) starts shift → unit / 2 ^ shift + 1 < length starts
run_within ends starts unit shift guide =
    let below = (div-lt_iff_lt-mul {k = 2 ^ shift} {x = unit} {y = length starts - 1} (pow_pos shift)).1 (omega (arith, guide.reaches)) in
    omega (arith, below)

-- the ends before a run's start are at most each of its units
pub start_before : (ends starts : List ℕ) (unit shift : ℕ) → IsGuide ends (unit + 1) starts shift → AreBefore ends unit (get_or starts (unit / 2 ^ shift) 0)
start_before ends starts unit shift guide i d low =
    omega (arith, guide.each.passed (unit / 2 ^ shift) i d (omega (arith, run_within ends starts unit shift guide)) low, run_begins unit shift)

-- a walk from such a start ends at the unit's place
pub walk_ends : (ends : List ℕ) (unit start at : ℕ) → AreBefore ends unit start → at ≤ length ends
    → ((i d : ℕ) → start ≤ i → i < at → get_or ends i d ≤ unit) → ((d : ℕ) → at < length ends → unit < get_or ends at d)
    → IsPartitionedBy (λ end. nat_le end unit) ends
    → IsPartitionPoint (λ end. nat_le end unit ≡ true) (λ end. nat_le end unit ≡ false) ends at
walk_ends ends unit start at before within passed stops rising = (
  λ i d low high.
      elim (cases_lt i start) [
        | inl less ↦ le-leb _ _ (before i d less)
        | inr more ↦ le-leb _ _ (passed i d more high)
      ],
  λ i d low high.
      false_from_ne_true _ (λ is. let end = stops d (omega arith) in absurd (omega (arith, leb-true _ _ (rising at i d low high is)))),
)
