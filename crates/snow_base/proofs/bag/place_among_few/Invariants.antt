use Rattle.std.proofs.Common.{◌≤◌, length}
use Rattle.snow_base.proofs.Adding.{AllBehind}
use Rattle.snow_base.proofs.bag.place_among_few.Given as goal

-- all that were looked at stand after the identifier
abbrev pub invariant-loop-at : goal.invariant-loop-at
invariant-loop-at l = record {
  within : l.at ≤ length l.votes;
  behind : AllBehind l.votes l.id l.at;
}

abbrev pub decreases-loop-at : goal.decreases-loop-at
decreases-loop-at l = l.at
