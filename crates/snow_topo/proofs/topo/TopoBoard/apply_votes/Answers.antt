use Rattle.std.proofs.Common.{arith}
use Rattle.snow_board.proofs.OneEach.{total_each}
use Rattle.snow_topo.proofs.topo.TopoBoard.apply_votes.Goals as goal

pub record_alone-requires-clause-most : goal.record_alone-requires-clause-most
record_alone-requires-clause-most g c = omega (arith, total_each c.args.ids.now, c.requires)
