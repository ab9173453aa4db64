use Rattle.std.proofs.Common.{sym, ap, arith}
use Rattle.snow_text_model.specs.declared.block_form.BlockForm.TheVariants as form
use Rattle.snow_text_model.specs.Model.Bytes.{bytes_text}
use Rattle.snow_text_model.specs.Model.Blocks.{words_in}
use Rattle.snow_text_model.specs.Model.Shown.{line}
use Rattle.snow_show.proofs.Blocked.{plain_bytes, plain_words}
use Rattle.snow_show.proofs.Putting.{puts_as}
use Rattle.snow_show.proofs.blocks.put_if_plain.Goals as goal

pub returns-then-bytes-lt73 : goal.returns-then-bytes-lt73
returns-then-bytes-lt73 c =
    puts_as c.put_bytes.result _ _ (bytes_text c.args.bytes.now) _ (sym (ap line (plain_bytes c.args.bytes.now c.if-bytes-lt73.true))) c.put_bytes.ensures

pub returns : goal.returns
returns c =
    puts_as c.put_plain.result _ _ (line (words_in form.Plain c.args.bytes.now)) _
    (sym (ap line (plain_words c.args.bytes.now (λ i. omega (arith, c.type_inv.bytes i)) c.if-bytes-lt73.false))) c.put_plain.ensures
