use Rattle.std.proofs.Common.{rules, ◌≡◌, Ok}
use Rattle.snow_text_model.specs.Model.Words.{Field, ◌&◌, one}
use Rattle.snow_text_model.specs.Model.Bytes.{item_word, number_word}
use Rattle.snow_words.specs.Clauses.Making.{ahead}
use Rattle.snow_say.specs.Clauses.Forms.{field_of}
use Rattle.snow_say.proofs.Chained.{reads_then, reads_stop}
use Rattle.snow_say.proofs.payload.sent_field.Goals as goal

pub returns-in_err-number : goal.returns-in_err-number
returns-in_err-number c =
    let a : Field = one (item_word c.args.names.now 20) in
    let b : Field = one (number_word 4) in
    let d : Field = field_of c.args.names.now c.args.content in
    let read : ahead c.args.out.now (a c.args.words.now) ≡ Ok (c.item.new.out, c.item.new.words) = search rules in
    let same : c.number.result ≡ c.from_residual-in_err-number.result = search rules in
    reads_then a (b & d) c.args.out.now c.item.new.out c.args.words.now c.item.new.words c.from_residual-in_err-number.result (c.number.new.out, c.number.new.words) read
    (reads_stop b d c.item.new.out c.item.new.words c.number.result c.from_residual-in_err-number.result (c.number.new.out, c.number.new.words) (c.number.new.out, c.number.new.words) c.number.ensures same (search rules))

pub returns : goal.returns
returns c =
    let a : Field = one (item_word c.args.names.now 20) in
    let b : Field = one (number_word 4) in
    let d : Field = field_of c.args.names.now c.args.content in
    let read : ahead c.args.out.now (a c.args.words.now) ≡ Ok (c.item.new.out, c.item.new.words) = search rules in
    let next : ahead c.item.new.out (b c.item.new.words) ≡ Ok (c.number.new.out, c.number.new.words) = search rules in
    reads_then a (b & d) c.args.out.now c.item.new.out c.args.words.now c.item.new.words c.field.result (c.field.new.out, c.field.new.words) read
    (reads_then b d c.item.new.out c.number.new.out c.item.new.words c.number.new.words c.field.result (c.field.new.out, c.field.new.words) next c.field.ensures)
