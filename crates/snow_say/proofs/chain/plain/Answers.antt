use Rattle.std.proofs.Common.{rules, ◌≡◌, Ok}
use Rattle.snow_text_model.specs.Model.Words.{Field, ◌&◌, all, one}
use Rattle.snow_text_model.specs.Model.Bytes.{item_word, number_word}
use Rattle.snow_say.specs.Clauses.Blocks.{fields_in}
use Rattle.snow_text_model.specs.Model.Events.{behind}
use Rattle.snow_words.specs.Clauses.Making.{ahead}
use Rattle.snow_say.proofs.Chained.{reads_then, reads_stop}
use Rattle.snow_say.proofs.chain.plain.Goals as goal

pub returns-in_err-item-2 : goal.returns-in_err-item-2
unfolding fields_in
returns-in_err-item-2 c =
    let f0 : Field = one (item_word c.args.names.now 32) in
    let f1 : Field = one (item_word c.args.names.now 32) in
    let f2 : Field = one (number_word 8) in
    let f3 : Field = one (number_word 1) in
    let f4 : Field = all (behind c.args.names.now) in
    let r0 : ahead c.args.out.now (f0 c.args.words.now) ≡ Ok (c.item.new.out, c.item.new.words) = search rules in
    let same : c.item-2.result ≡ c.from_residual-in_err-item-2.result = search rules in
    reads_then f0 (f1 & (f2 & (f3 & f4))) c.args.out.now c.item.new.out c.args.words.now c.item.new.words c.from_residual-in_err-item-2.result (c.item-2.new.out, c.item-2.new.words) r0 (reads_stop f1 (f2 & (f3 & f4)) c.item.new.out c.item.new.words c.item-2.result c.from_residual-in_err-item-2.result (c.item-2.new.out, c.item-2.new.words) (c.item-2.new.out, c.item-2.new.words) c.item-2.ensures same (search rules))

pub returns-in_err-number : goal.returns-in_err-number
unfolding fields_in
returns-in_err-number c =
    let f0 : Field = one (item_word c.args.names.now 32) in
    let f1 : Field = one (item_word c.args.names.now 32) in
    let f2 : Field = one (number_word 8) in
    let f3 : Field = one (number_word 1) in
    let f4 : Field = all (behind c.args.names.now) in
    let r0 : ahead c.args.out.now (f0 c.args.words.now) ≡ Ok (c.item.new.out, c.item.new.words) = search rules in
    let r1 : ahead c.item.new.out (f1 c.item.new.words) ≡ Ok (c.item-2.new.out, c.item-2.new.words) = search rules in
    let same : c.number.result ≡ c.from_residual-in_err-number.result = search rules in
    reads_then f0 (f1 & (f2 & (f3 & f4))) c.args.out.now c.item.new.out c.args.words.now c.item.new.words c.from_residual-in_err-number.result (c.number.new.out, c.number.new.words) r0 (reads_then f1 (f2 & (f3 & f4)) c.item.new.out c.item-2.new.out c.item.new.words c.item-2.new.words c.from_residual-in_err-number.result (c.number.new.out, c.number.new.words) r1 (reads_stop f2 (f3 & f4) c.item-2.new.out c.item-2.new.words c.number.result c.from_residual-in_err-number.result (c.number.new.out, c.number.new.words) (c.number.new.out, c.number.new.words) c.number.ensures same (search rules)))

pub returns-in_err-number-2 : goal.returns-in_err-number-2
unfolding fields_in
returns-in_err-number-2 c =
    let f0 : Field = one (item_word c.args.names.now 32) in
    let f1 : Field = one (item_word c.args.names.now 32) in
    let f2 : Field = one (number_word 8) in
    let f3 : Field = one (number_word 1) in
    let f4 : Field = all (behind c.args.names.now) in
    let r0 : ahead c.args.out.now (f0 c.args.words.now) ≡ Ok (c.item.new.out, c.item.new.words) = search rules in
    let r1 : ahead c.item.new.out (f1 c.item.new.words) ≡ Ok (c.item-2.new.out, c.item-2.new.words) = search rules in
    let r2 : ahead c.item-2.new.out (f2 c.item-2.new.words) ≡ Ok (c.number.new.out, c.number.new.words) = search rules in
    let same : c.number-2.result ≡ c.from_residual-in_err-number-2.result = search rules in
    reads_then f0 (f1 & (f2 & (f3 & f4))) c.args.out.now c.item.new.out c.args.words.now c.item.new.words c.from_residual-in_err-number-2.result (c.number-2.new.out, c.number-2.new.words) r0 (reads_then f1 (f2 & (f3 & f4)) c.item.new.out c.item-2.new.out c.item.new.words c.item-2.new.words c.from_residual-in_err-number-2.result (c.number-2.new.out, c.number-2.new.words) r1 (reads_then f2 (f3 & f4) c.item-2.new.out c.number.new.out c.item-2.new.words c.number.new.words c.from_residual-in_err-number-2.result (c.number-2.new.out, c.number-2.new.words) r2 (reads_stop f3 f4 c.number.new.out c.number.new.words c.number-2.result c.from_residual-in_err-number-2.result (c.number-2.new.out, c.number-2.new.words) (c.number-2.new.out, c.number-2.new.words) c.number-2.ensures same (search rules))))

pub returns : goal.returns
unfolding fields_in
returns c =
    let f0 : Field = one (item_word c.args.names.now 32) in
    let f1 : Field = one (item_word c.args.names.now 32) in
    let f2 : Field = one (number_word 8) in
    let f3 : Field = one (number_word 1) in
    let f4 : Field = all (behind c.args.names.now) in
    let r0 : ahead c.args.out.now (f0 c.args.words.now) ≡ Ok (c.item.new.out, c.item.new.words) = search rules in
    let r1 : ahead c.item.new.out (f1 c.item.new.words) ≡ Ok (c.item-2.new.out, c.item-2.new.words) = search rules in
    let r2 : ahead c.item-2.new.out (f2 c.item-2.new.words) ≡ Ok (c.number.new.out, c.number.new.words) = search rules in
    let r3 : ahead c.number.new.out (f3 c.number.new.words) ≡ Ok (c.number-2.new.out, c.number-2.new.words) = search rules in
    reads_then f0 (f1 & (f2 & (f3 & f4))) c.args.out.now c.item.new.out c.args.words.now c.item.new.words c.behind.result (c.behind.new.out, c.behind.new.words) r0 (reads_then f1 (f2 & (f3 & f4)) c.item.new.out c.item-2.new.out c.item.new.words c.item-2.new.words c.behind.result (c.behind.new.out, c.behind.new.words) r1 (reads_then f2 (f3 & f4) c.item-2.new.out c.number.new.out c.item-2.new.words c.number.new.words c.behind.result (c.behind.new.out, c.behind.new.words) r2 (reads_then f3 f4 c.number.new.out c.number-2.new.out c.number.new.words c.number-2.new.words c.behind.result (c.behind.new.out, c.behind.new.words) r3 c.behind.ensures)))
