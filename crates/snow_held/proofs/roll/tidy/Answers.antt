-- What is left is above no reply, or goes.
use Rattle.std.proofs.Common.{◌<◌, All, filter, refl, sym, ap, ◌∙◌, subst}
use Rattle.std.proofs.lemmas.List.Elements.{filter_passes}
use Rattle.std.proofs.lemmas.List.Kept.{AllPairs-filter}
use Rattle.snow_held.specs.declared.roll.Place.{Place}
use Rattle.snow_held.specs.Kept.Arrivals.{Entries, at_arrival}
use Rattle.snow_held.specs.Kept.Roll.{is_here, entries_of, Rises}
use Rattle.snow_held.proofs.Ranged.{cleared, all_below, here_below}
use Rattle.snow_held.proofs.roll.tidy.Goals as goal

pub returns-then-is_stale-clause-same : goal.returns-then-is_stale-clause-same
returns-then-is_stale-clause-same c = ap entries_of c.clear.ensures ∙ cleared c.args.places.now.items

pub returns-then-is_stale-clause-rises : goal.returns-then-is_stale-clause-rises
returns-then-is_stale-clause-rises c =
    subst Rises (sym c.clear.ensures) (AllPairs-filter (λ (p q : Place). p.arrival < q.arrival) is_here c.args.places.now.items c.requires.rises)

pub returns-then-is_stale-clause-below : goal.returns-then-is_stale-clause-below
returns-then-is_stale-clause-below c =
    let ps = c.args.places.now.items in
    subst (All (λ (p : Place). p.arrival < c.args.arrival)) (sym c.clear.ensures)
    (here_below (filter is_here ps) c.args.arrival (AllPairs-filter (λ (p q : Place). p.arrival < q.arrival) is_here ps c.requires.rises) (filter_passes is_here ps)
    (λ n k found. c.requires.below n k (ap (λ (l : Entries). at_arrival l n) (sym (cleared ps)) ∙ found)))

pub returns-else-is_stale-clause-below : goal.returns-else-is_stale-clause-below
returns-else-is_stale-clause-below c = all_below c.args.places.now.items c.args.arrival c.requires.rises (rw c.deref.ensures.value at (c.if-is_stale.ensures refl))
