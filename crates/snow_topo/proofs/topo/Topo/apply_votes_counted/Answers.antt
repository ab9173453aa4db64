use Rattle.std.proofs.Common.{arith}
use Rattle.snow_board.proofs.OneEach.{total_each}
use Rattle.snow_topo.proofs.topo.Topo.apply_votes_counted.Goals as goal

pub record_ballot-requires : goal.record_ballot-requires
record_ballot-requires g c = omega (arith, total_each c.args.ids.now, c.requires)
