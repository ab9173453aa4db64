-- The first place that isn't below the number has it, or none has.
use Rattle.std.proofs.Common.{ltb, rules, ap, ◌∙◌, arith}
use Rattle.std.proofs.lemmas.List.{get_or_default}
use Rattle.std.proofs.lemmas.List.Sorted.{IsPartitionPoint-from_clause}
use Rattle.snow_held.specs.declared.roll.Place.{Place}
use Rattle.snow_held.proofs.Ranged.{partitioned, missing_behind}
use Rattle.snow_held.proofs.roll.search.Goals as goal

pub returns-then-at-places-clause-none : goal.returns-then-at-places-clause-none
returns-then-at-places-clause-none c =
    let point = IsPartitionPoint-from_clause (λ p. ltb p.arrival c.args.arrival) c.args.places.now c.partition_point-at.result c.partition_point-at.ensures.partitioned
    (partitioned c.args.places.now c.args.arrival c.requires) (λ a r h called. search rules) in
    missing_behind c.args.places.now c.args.arrival c.partition_point-at.result c.requires point (λ d within. absurd (omega (arith, within, c.if-at-places.true)))

pub returns-clause-none : goal.returns-clause-none
returns-clause-none c =
    let s = c.index-places-at.result in
    let point = IsPartitionPoint-from_clause (λ p. ltb p.arrival c.args.arrival) c.args.places.now c.partition_point-at.result c.partition_point-at.ensures.partitioned
    (partitioned c.args.places.now c.args.arrival c.requires) (λ a r h called. search rules) in
    missing_behind c.args.places.now c.args.arrival c.partition_point-at.result c.requires point
    (λ d within same. c.if-places-at.false (ap (λ (x : Place). x.arrival) (get_or_default c.args.places.now c.partition_point-at.result s d within) ∙ same))
