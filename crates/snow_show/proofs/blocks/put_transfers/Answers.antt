use Rattle.snow_show.proofs.Putting.{going_ends, going_on}
use Rattle.snow_show.proofs.Itemed.{transfers_end, transfers_step}
use Rattle.snow_show.proofs.blocks.put_transfers.Goals as goal

pub loop-rest-preserved : goal.loop-rest-preserved
loop-rest-preserved c =
    going_on _ _ _ _ _ _ _ c.loop-rest.invariant c.in_ok-put_transfer.ensures
    (transfers_step c.loop-rest.rest.now c.split_at.result.0.now c.split_at.result.1.now c.loop-rest-test.true c.split_at.ensures.front c.split_at.ensures.back)

pub returns : goal.returns
returns c = going_ends _ _ _ _ c.loop-rest.invariant (transfers_end c.loop-rest.rest.now c.loop-rest-test.false)
