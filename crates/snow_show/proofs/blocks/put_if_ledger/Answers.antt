use Rattle.std.proofs.Common.{sym, ap, ◌∙◌, arith}
use Rattle.snow_text_model.specs.declared.block_form.BlockForm.TheVariants as form
use Rattle.snow_text_model.specs.Model.Bytes.{bytes_text}
use Rattle.snow_text_model.specs.Model.Blocks.{words_in}
use Rattle.snow_text_model.specs.Model.Shown.{line}
use Rattle.snow_show.proofs.Ledgered.{ledger_bytes, ledger_words}
use Rattle.snow_show.proofs.Putting.{puts_as}
use Rattle.snow_show.proofs.blocks.put_if_ledger.Goals as goal

pub returns-then-is_ledger : goal.returns-then-is_ledger
returns-then-is_ledger c =
    puts_as c.put_ledger.result _ _ (line (words_in form.Ledger c.args.bytes.now)) _
    (sym (ap line (ledger_words c.args.bytes.now (λ i. omega (arith, c.type_inv.bytes i)) (sym c.is_ledger.ensures ∙ c.if-is_ledger.true)))) c.put_ledger.ensures

pub returns : goal.returns
returns c =
    puts_as c.put_bytes.result _ _ (bytes_text c.args.bytes.now) _ (sym (ap line (ledger_bytes c.args.bytes.now (sym c.is_ledger.ensures ∙ c.if-is_ledger.false)))) c.put_bytes.ensures
