use Rattle.std.proofs.Common.{codes, map, sym}
use Rattle.byteorder.specs.Endian.{big_number}
use Rattle.snow_text_model.specs.Model.Shown.{times_texts}
use Rattle.snow_show.proofs.Itemed.{line_led}
use Rattle.snow_show.proofs.Putting.{puts_behind}
use Rattle.snow_show.proofs.events.put_words.Goals as goal

pub returns : goal.returns
returns c = puts_behind c.put_numbers.result _ _ _ (codes "words") _ _ c.in_ok-put.ensures c.put_numbers.ensures (sym (line_led (codes "words") (times_texts (map (big_number 8) c.args.words.now))))
