use Rattle.std.proofs.Common.{◌≡◌, take}
use Rattle.snow_base.specs.Model.Votes.{most_count}
use Rattle.snow_base.proofs.bag.Bag.most.Given as goal

-- the greatest count so far
abbrev pub invariant-loop-vote : goal.invariant-loop-vote
invariant-loop-vote l = l.most ≡ most_count (take l.vote-index l.vote-items)
