use Rattle.std.proofs.Common.{codes, sym}
use Rattle.snow_text_model.specs.Model.Blocks.{block_words}
use Rattle.snow_show.proofs.Itemed.{line_led}
use Rattle.snow_show.proofs.Putting.{puts_behind}
use Rattle.snow_show.proofs.events.put_stored.Goals as goal

pub returns : goal.returns
returns c = puts_behind c.put_block_word.result _ _ _ (codes "stored") _ _ c.in_ok-put.ensures c.put_block_word.ensures (sym (line_led (codes "stored") (block_words c.args.form c.args.bytes.now)))
