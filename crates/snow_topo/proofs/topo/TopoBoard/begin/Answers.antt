use Rattle.std.proofs.Common.{arith}
use Rattle.std.proofs.lemmas.Grind.{common_steps}
use Rattle.snow_topo.proofs.Standings.{begun_standing}
use Rattle.snow_topo.proofs.topo.TopoBoard.begin.Goals as goal

pub invariant_of-result : goal.invariant_of-result
invariant_of-result g c =
    rw (c.new-2.ensures, c.new-3.ensures)
    (begun_standing g.R.Rule.answer c.args.params c.args.last c.in_ok-ladder.ladder c.args.height _ _ c.in_ok-ladder.ensures.ready (grind (arith, common_steps)) (grind (arith, common_steps)))
