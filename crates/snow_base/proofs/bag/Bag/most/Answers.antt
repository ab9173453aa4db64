use Rattle.std.proofs.Common.{arith}
use Rattle.std.proofs.lemmas.Grind.{common_steps}
use Rattle.snow_base.proofs.Adding.{most_more}
use Rattle.snow_base.proofs.bag.Bag.most.Goals as goal

pub loop-vote-preserved : goal.loop-vote-preserved
loop-vote-preserved c =
    let more = most_more c.deref-vote-items.result.now c.loop-vote.vote-index c.vote-item.result (omega arith) c.vote-item.is in
    grind (arith, common_steps)
