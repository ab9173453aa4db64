-- The votes at the place that was found, or none.
use Rattle.std.proofs.Common.{sym, ap, ◌∙◌}
use Rattle.snow_base.specs.declared.block.Vote.{Vote}
use Rattle.snow_poll.proofs.Counting.{count_there, count_none}
use Rattle.snow_poll.proofs.tally.count_of.Goals as goal

pub returns-in-Ok : goal.returns-in-Ok
returns-in-Ok c =
    sym (ap (λ (v : Vote). v.count) c.index-votes-at.is)
    ∙ count_there c.args.votes.now c.args.id.now c.in-Ok.at c.index-votes-at.result c.requires c.in-Ok.ensures c.index-votes-at.is

pub returns-in-Err : goal.returns-in-Err
returns-in-Err c = count_none c.args.votes.now c.args.id.now c.in-Err.field-0 c.in-Err.ensures
