use Rattle.std.proofs.Common.{◌≡◌, ◌∷◌}
use Rattle.snow_show.proofs.Evented.{blocks_end, blocks_next}
use Rattle.snow_show.proofs.Putting.{going_ends, going_on}
use Rattle.snow_show.proofs.events.put_blocks.Goals as goal

pub loop-block-preserved : goal.loop-block-preserved
loop-block-preserved c =
    let split : c.loop-block.block-iterator ≡ c.in-Some.block.now ∷ c.next.new.self = c.in-Some.ensures.steps in
    going_on _ _ _ _ _ _ _ c.loop-block.invariant c.in_ok-put_marked_block.ensures (blocks_next c.loop-block.mark.now c.args.form c.loop-block.block-iterator c.in-Some.block.now c.next.new.self split)

pub returns : goal.returns
returns c = going_ends _ _ _ _ c.loop-block.invariant (blocks_end c.loop-block.mark.now c.args.form c.loop-block.block-iterator c.in-None.ensures.steps.0)
