use Rattle.std.proofs.Common.{None, sym, subst, ◌∙◌}
use Rattle.std.specs.Option.{option_map}
use Rattle.snow_topo.specs.Kept.Children.{Kept, conflict_of, counters_in}
use Rattle.snow_topo.specs.Kept.Leading.{HasDecided}
use Rattle.snow_topo.proofs.Won.{decided_blank, decided_none}
use Rattle.snow_topo.proofs.load.Load.is_decided.Goals as goal

pub returns-in-Some : goal.returns-in-Some
returns-in-Some g c =
    λ e.
    subst (λ (k : Kept). HasDecided (counters_in k.conflict) None) c.self.view_is
    (subst (λ o. HasDecided (counters_in (option_map conflict_of o)) None) (sym c.in-Some.is) (decided_none c.in-Some.trie.counters (sym c.is_final.ensures ∙ e)))

pub returns-in-None : goal.returns-in-None
returns-in-None g c =
    λ e.
    subst (λ (k : Kept). HasDecided (counters_in k.conflict) None) c.self.view_is
    (subst (λ o. HasDecided (counters_in (option_map conflict_of o)) None) (sym c.in-None.is) decided_blank)
