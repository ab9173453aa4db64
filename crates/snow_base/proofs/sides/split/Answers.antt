use Rattle.std.proofs.Common.{true, false, not, rules}
use Rattle.std.proofs.lemmas.List.Sorted.{IsPartitionPoint-from_clause}
use Rattle.snow_base.specs.Model.Identifier.{bit}
use Rattle.snow_base.proofs.Splitting.{IsSplit, partitioned, zeros_in_front, ones_behind, agree_more, agree_take, agree_drop}
use Rattle.snow_base.proofs.sides.split.Goals as goal
use Rattle.snow_base.proofs.sides.split.Goals.{After-partition_point}

parts : (c : After-partition_point) → IsSplit c.args.bit c.args.votes.now c.partition_point.result
parts c =
    IsPartitionPoint-from_clause (λ v. not (bit v.id c.args.bit)) c.args.votes.now c.partition_point.result c.partition_point.ensures.partitioned
    (partitioned c.args.bit c.args.votes.now c.requires.bit c.requires.order c.requires.agree)
    (λ a r g called. search rules)

pub returns-clause-zeros : goal.returns-clause-zeros
returns-clause-zeros c = zeros_in_front c.args.bit c.args.votes.now c.partition_point.result (parts c)

pub returns-clause-ones : goal.returns-clause-ones
returns-clause-ones c = ones_behind c.args.bit c.args.votes.now c.partition_point.result (parts c)

pub returns-clause-zeros_agree : goal.returns-clause-zeros_agree
returns-clause-zeros_agree c =
    agree_more c.args.bit false _ (agree_take c.args.bit c.partition_point.result c.args.votes.now c.requires.agree) (returns-clause-zeros c)

pub returns-clause-ones_agree : goal.returns-clause-ones_agree
returns-clause-ones_agree c =
    agree_more c.args.bit true _ (agree_drop c.args.bit c.partition_point.result c.args.votes.now c.requires.agree) (returns-clause-ones c)
