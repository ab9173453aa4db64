-- The spans in front are those that begin at the height or below it.
use Rattle.std.proofs.Common.{nat_le, rules}
use Rattle.std.proofs.lemmas.List.Sorted.{IsPartitionPoint-from_clause, IsPartitionedBy-leb}
use Rattle.snow_interval.proofs.Apart.{rising}
use Rattle.snow_interval.proofs.spanning.place_of.Goals as goal

pub returns-clause-place : goal.returns-clause-place
returns-clause-place c =
    IsPartitionPoint-from_clause (λ s. nat_le s.low c.args.height) c.args.spans.now c.partition_point.result c.partition_point.ensures.partitioned
    (IsPartitionedBy-leb (λ s. s.low) c.args.spans.now c.args.height (rising 1 c.args.spans.now c.requires)) (λ a r g called. search rules)
