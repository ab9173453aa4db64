use Rattle.std.proofs.Common.{rules, ◌≡◌, Ok}
use Rattle.snow_text_model.specs.Model.Words.{Field, ◌&◌, one}
use Rattle.snow_text_model.specs.Model.Bytes.{item_word, number_word}
use Rattle.snow_say.specs.Clauses.Blocks.{fields_in}
use Rattle.snow_text_model.specs.Model.Events.{list_field}
use Rattle.snow_words.specs.declared.items.Item.TheVariants as item
use Rattle.snow_words.specs.Clauses.Listing.{items_of}
use Rattle.snow_words.specs.Clauses.Making.{ahead}
use Rattle.snow_say.proofs.Chained.{reads_then, reads_stop}
use Rattle.snow_say.proofs.chain.ledger.Goals as goal

pub returns-in_err-number : goal.returns-in_err-number
unfolding fields_in items_of
returns-in_err-number c =
    let f0 : Field = one (item_word c.args.names.now 32) in
    let f1 : Field = one (number_word 8) in
    let f2 : Field = list_field (items_of c.args.names.now item.Transfer) in
    let r0 : ahead c.args.out.now (f0 c.args.words.now) ≡ Ok (c.item.new.out, c.item.new.words) = search rules in
    let same : c.number.result ≡ c.from_residual-in_err-number.result = search rules in
    reads_then f0 (f1 & f2) c.args.out.now c.item.new.out c.args.words.now c.item.new.words c.from_residual-in_err-number.result (c.number.new.out, c.number.new.words) r0 (reads_stop f1 f2 c.item.new.out c.item.new.words c.number.result c.from_residual-in_err-number.result (c.number.new.out, c.number.new.words) (c.number.new.out, c.number.new.words) c.number.ensures same (search rules))

pub returns : goal.returns
unfolding fields_in items_of
returns c =
    let f0 : Field = one (item_word c.args.names.now 32) in
    let f1 : Field = one (number_word 8) in
    let f2 : Field = list_field (items_of c.args.names.now item.Transfer) in
    let r0 : ahead c.args.out.now (f0 c.args.words.now) ≡ Ok (c.item.new.out, c.item.new.words) = search rules in
    let r1 : ahead c.item.new.out (f1 c.item.new.words) ≡ Ok (c.number.new.out, c.number.new.words) = search rules in
    reads_then f0 (f1 & f2) c.args.out.now c.item.new.out c.args.words.now c.item.new.words c.list.result (c.list.new.out, c.list.new.words) r0 (reads_then f1 f2 c.item.new.out c.number.new.out c.item.new.words c.number.new.words c.list.result (c.list.new.out, c.list.new.words) r1 c.list.ensures)
