use Rattle.std.proofs.Common.{None, sym, subst}
use Rattle.std.specs.Option.{option_map}
use Rattle.snow_topo.specs.Kept.Children.{Kept, conflict_of, counters_in}
use Rattle.snow_topo.specs.Kept.Leading.{HasDecided}
use Rattle.snow_topo.proofs.Won.{decided_blank}
use Rattle.snow_topo.proofs.load.Load.decided.Goals as goal

pub returns-in-None : goal.returns-in-None
returns-in-None g c =
    subst (λ (k : Kept). HasDecided (counters_in k.conflict) None) c.self.view_is
    (subst (λ o. HasDecided (counters_in (option_map conflict_of o)) None) (sym c.in-None.is) decided_blank)
