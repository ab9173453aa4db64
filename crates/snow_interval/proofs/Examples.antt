-- Spans with known heights, and the lowest height of a run.
use Rattle.std.proofs.Common.{◌≡◌, true, false, List, [], ◌∷◌, refl}
use Rattle.snow_interval.specs.declared.intervals.Span.{Span}
use Rattle.snow_interval.specs.Model.Heights.{lowest, begins_run}
use Rattle.snow_interval.specs.Clauses.Listed.{listed}
use Rattle.snow_interval.specs.Kept.Spans.{spanned}

-- heights 1, 4 and 5
abbrev pub spans : List Span
spans = record { low = 1; high = 1 } ∷ record { low = 4; high = 5 } ∷ []

pub lowest_of_five : lowest (spanned spans) 5 ≡ 4
unfolding lowest
lowest_of_five = refl

pub lowest_of_five_listed : lowest (listed (5 ∷ 4 ∷ 1 ∷ [])) 5 ≡ 4
unfolding lowest
lowest_of_five_listed = refl

-- 5 begins a run above floor 0 where 4 isn't held, and 1 begins none
pub five_begins : begins_run 0 (listed []) 5 ≡ true
five_begins = refl

pub one_begins_none : begins_run 0 (listed (5 ∷ 4 ∷ [])) 1 ≡ false
one_begins_none = refl
