-- The first slot that isn't below the place has it, or none has.
use Rattle.std.proofs.Common.{ltb, rules, ap, ◌∙◌, arith}
use Rattle.std.proofs.lemmas.List.{get_or_default}
use Rattle.std.proofs.lemmas.List.Sorted.{IsPartitionPoint-from_clause}
use Rattle.snow_lineup.specs.declared.lineup.Slot.{Slot}
use Rattle.snow_lineup.proofs.Placed.{partitioned, found_place, missing_behind}
use Rattle.snow_lineup.proofs.waking.search_place.Goals as goal

pub returns-then-at-slots : goal.returns-then-at-slots
returns-then-at-slots g c =
    let point = IsPartitionPoint-from_clause (λ s. ltb s.place c.args.place) c.args.slots.now c.partition_point-at.result c.partition_point-at.ensures.partitioned
    (partitioned c.args.slots.now c.args.place c.requires) (λ a r h called. search rules) in
    missing_behind c.args.slots.now c.args.place c.partition_point-at.result c.requires point (λ d within. absurd (omega (arith, within, c.if-at-slots.true)))

pub returns-then-slots-at : goal.returns-then-slots-at
returns-then-slots-at g c =
    let s = c.index-slots-at.result in
    found_place c.args.slots.now c.args.place c.partition_point-at.result s c.requires (omega (arith, c.if-at-slots.false))
    c.if-slots-at.true

pub returns : goal.returns
returns g c =
    let s = c.index-slots-at.result in
    let point = IsPartitionPoint-from_clause (λ s. ltb s.place c.args.place) c.args.slots.now c.partition_point-at.result c.partition_point-at.ensures.partitioned
    (partitioned c.args.slots.now c.args.place c.requires) (λ a r h called. search rules) in
    missing_behind c.args.slots.now c.args.place c.partition_point-at.result c.requires point
    (λ d within same. c.if-slots-at.false (ap (λ (x : Slot _). x.place) (get_or_default c.args.slots.now c.partition_point-at.result s d within) ∙ same))
