use Rattle.std.proofs.Common.{sym, ap, arith}
use Rattle.snow_text_model.specs.declared.block_form.BlockForm.TheVariants as form
use Rattle.snow_text_model.specs.Model.Bytes.{bytes_text}
use Rattle.snow_text_model.specs.Model.Blocks.{words_in}
use Rattle.snow_text_model.specs.Model.Shown.{line}
use Rattle.snow_show.proofs.Blocked.{tally_bytes, tally_words}
use Rattle.snow_show.proofs.Putting.{puts_as}
use Rattle.snow_show.proofs.blocks.put_if_tally.Goals as goal

pub returns-then-bytes-lt48 : goal.returns-then-bytes-lt48
returns-then-bytes-lt48 c =
    puts_as c.put_bytes.result _ _ (bytes_text c.args.bytes.now) _ (sym (ap line (tally_bytes c.args.bytes.now c.if-bytes-lt48.true))) c.put_bytes.ensures

pub returns : goal.returns
returns c =
    puts_as c.put_tally.result _ _ (line (words_in form.Tally c.args.bytes.now)) _
    (sym (ap line (tally_words c.args.bytes.now (λ i. omega (arith, c.type_inv.bytes i)) c.if-bytes-lt48.false))) c.put_tally.ensures
