-- The votes of a poll, as they are handed in.
use Rattle.std.specs.Prelude.{List}
use Rattle.snow_base.specs.Clauses.Gathered.{one_each}
use Rattle.snow_base.specs.declared.block.Vote.{Vote}
use Rattle.snow_topo.specs.declared.ballot.Ballot.{Ballot}
use Rattle.snow_topo.specs.declared.ballot.Ballot.TheVariants.{Counted, Each}

abbrev pub votes_of : Ballot → List Vote
votes_of (Counted votes) = votes.now.list
votes_of (Each ids) = one_each ids.now
