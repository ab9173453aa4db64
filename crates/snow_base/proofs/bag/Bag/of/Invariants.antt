use Rattle.std.proofs.Common.{◌≡◌, take, All}
use Rattle.snow_base.specs.Clauses.Gathered.{IsNamed, one_each}
use Rattle.snow_base.specs.Model.Votes.{total_count}
use Rattle.snow_base.proofs.bag.Bag.of.Given as goal

-- one vote for each identifier so far
abbrev pub invariant-loop-id : goal.invariant-loop-id
invariant-loop-id l = record {
  named : All IsNamed (take l.id-index l.id-items);
  votes : l.votes.list ≡ one_each (take l.id-index l.id-items);
  total : total_count l.votes.list ≡ l.id-index;
}
