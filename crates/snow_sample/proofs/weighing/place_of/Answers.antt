-- The ends in front are those that are at most the unit.
use Rattle.std.proofs.Common.{nat_le, rules}
use Rattle.std.proofs.lemmas.List.Sorted.{IsPartitionPoint-from_clause}
use Rattle.snow_sample.proofs.weighing.place_of.Goals as goal

pub returns-clause-place : goal.returns-clause-place
returns-clause-place c =
    IsPartitionPoint-from_clause (λ end. nat_le end c.args.unit) c.args.ends.now c.partition_point.result c.partition_point.ensures.partitioned
    c.requires (λ a r g called. search rules)
