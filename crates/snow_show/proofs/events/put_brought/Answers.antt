use Rattle.std.proofs.Common.{codes}
use Rattle.snow_text_model.specs.Model.Blocks.{block_words}
use Rattle.snow_show.proofs.Evented.{sent_line}
use Rattle.snow_show.proofs.Putting.{puts_behind}
use Rattle.snow_show.proofs.events.put_brought.Goals as goal

pub returns : goal.returns
returns c =
    puts_behind c.put_block_word.result _ _ _ _ _ _ c.in_ok-put_sender.ensures c.put_block_word.ensures
    (sent_line (codes "block") c.args.brought.now.node.now c.args.brought.now.request (block_words c.args.form c.args.brought.now.bytes.now))
