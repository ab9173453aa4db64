use Rattle.std.proofs.Common.{◌≡◌}
use Rattle.snow_topo.proofs.Anew.{renewed_to}
use Rattle.snow_topo.proofs.renewing.renew_all.Given as goal

abbrev pub invariant-loop-at : goal.invariant-loop-at
invariant-loop-at g l = l.tree ≡ record l.initial.tree { pending = renewed_to l.polls l.at l.initial.tree.pending }
