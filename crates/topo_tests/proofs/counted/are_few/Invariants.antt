use Rattle.std.proofs.Common.{◌≤◌, All, take}
use Rattle.snow_base.specs.Model.Votes.{total_count}
use Rattle.topo_tests.proofs.counted.are_few.Given as goal

abbrev pub invariant-loop-votes : goal.invariant-loop-votes
invariant-loop-votes l = All (λ votes. total_count votes.list ≤ l.most) (take l.votes-index l.polls)
