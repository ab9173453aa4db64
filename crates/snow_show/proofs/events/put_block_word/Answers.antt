use Rattle.std.proofs.Common.{[], ◌∷◌}
use Rattle.snow_show.proofs.Evented.{block_led}
use Rattle.snow_show.proofs.Putting.{puts_behind}
use Rattle.snow_show.proofs.events.put_block_word.Goals as goal

pub returns : goal.returns
returns c = puts_behind c.put_block.result _ _ _ (32 ∷ []) _ _ c.in_ok-put.ensures c.put_block.ensures (block_led c.args.form c.args.bytes.now)
