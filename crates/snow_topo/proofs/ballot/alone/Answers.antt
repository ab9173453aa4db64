use Rattle.std.proofs.Common.{ap, arith}
use Rattle.snow_base.specs.Model.Votes.{total_count}
use Rattle.snow_board.proofs.OneEach.{total_each}
use Rattle.snow_topo.specs.Clauses.Ballot.{votes_of}
use Rattle.snow_topo.proofs.ballot.alone.Goals as goal

pub main_vote-requires : goal.main_vote-requires
main_vote-requires c = omega (arith, total_each c.in-Each.ids.now, ap (λ b. total_count (votes_of b)) c.in-Each.is, c.requires)
