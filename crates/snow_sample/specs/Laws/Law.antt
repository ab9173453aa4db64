-- Laws of the units that are drawn: they are those of the whole list, and no two are the same.
use Rattle.std.specs.Prelude.{◌≡◌, ◌≢◌, ℕ, suc, zero, ◌+◌, ◌-◌, ◌<◌, ◌≤◌, List, [], length, All, Option, Some, swap, slice_index}
use Rattle.std.specs.List.{AllPairs, range_with_len}
use Rattle.std.specs.Option.{option_and_then}
use Rattle.snow_sample.specs.Model.Words.{choice}
use Rattle.snow_sample.specs.Model.Sampling.{with_unit, drawn}

-- k more units, from draw j on, of this list of all units; a list of 2^62 of them is too long to compute with
unfoldable pub listed_from : ℕ → ℕ → ℕ → List ℕ → List ℕ → Option (List ℕ × List ℕ)
listed_from zero total j units words = Some ([], words)
listed_from (suc k) total j units words =
    option_and_then (λ (r, left). let moved = swap units (j + r) j in with_unit (slice_index moved j) (listed_from k total (j + 1) moved left))
    (choice (total - 1 - j) words)

-- exchanging positions draws what exchanging the elements of the list 0, 1, .. draws
abbrev pub DrawsAsTheList : Type 0
DrawsAsTheList =
    (k total : ℕ) (words : List ℕ) → k ≤ total → drawn k total words ≡ listed_from k total 0 (range_with_len 0 total) words

-- no unit is drawn twice: the units that are drawn are k different ones
abbrev pub DrawsDistinctUnits : Type 0
DrawsDistinctUnits =
    (k total : ℕ) (words units left : List ℕ) → k ≤ total → drawn k total words ≡ Some (units, left)
    → (length units ≡ k) × All (λ unit. unit < total) units × AllPairs (λ u v. u ≢ v) units
