use Rattle.std.proofs.Common.{rules, ◌≡◌, Ok, codes}
use Rattle.snow_text_model.specs.Model.Words.{Field, ◌&◌}
use Rattle.snow_text_model.specs.Model.Bytes.{item_word, number_word}
use Rattle.snow_text_model.specs.Model.Events.{named}
use Rattle.snow_say.specs.Clauses.Payload.{lists_field}
use Rattle.snow_words.specs.Clauses.Making.{ahead}
use Rattle.snow_say.proofs.Chained.{reads_then, reads_stop}
use Rattle.snow_say.proofs.start.start_more.Goals as goal

pub returns-in_err-number-2 : goal.returns-in_err-number-2
returns-in_err-number-2 c =
    let f0 : Field = named (codes "repolls") (number_word 4) in
    let f1 : Field = named (codes "boot") (number_word 1) in
    let f2 : Field = named (codes "last") (item_word c.args.names.now 32) in
    let f3 : Field = named (codes "height") (number_word 8) in
    let f4 : Field = lists_field c.args.names.now in
    let r0 : ahead c.args.out.now (f0 c.args.words.now) ≡ Ok (c.number.new.out, c.number.new.words) = search rules in
    let same : c.number-2.result ≡ c.from_residual-in_err-number-2.result = search rules in
    reads_then f0 (f1 & (f2 & (f3 & f4))) c.args.out.now c.number.new.out c.args.words.now c.number.new.words c.from_residual-in_err-number-2.result (c.number-2.new.out, c.number-2.new.words) r0 (reads_stop f1 (f2 & (f3 & f4)) c.number.new.out c.number.new.words c.number-2.result c.from_residual-in_err-number-2.result (c.number-2.new.out, c.number-2.new.words) (c.number-2.new.out, c.number-2.new.words) c.number-2.ensures same (search rules))

pub returns-in_err-last : goal.returns-in_err-last
returns-in_err-last c =
    let f0 : Field = named (codes "repolls") (number_word 4) in
    let f1 : Field = named (codes "boot") (number_word 1) in
    let f2 : Field = named (codes "last") (item_word c.args.names.now 32) in
    let f3 : Field = named (codes "height") (number_word 8) in
    let f4 : Field = lists_field c.args.names.now in
    let r0 : ahead c.args.out.now (f0 c.args.words.now) ≡ Ok (c.number.new.out, c.number.new.words) = search rules in
    let r1 : ahead c.number.new.out (f1 c.number.new.words) ≡ Ok (c.number-2.new.out, c.number-2.new.words) = search rules in
    let same : c.last.result ≡ c.from_residual-in_err-last.result = search rules in
    reads_then f0 (f1 & (f2 & (f3 & f4))) c.args.out.now c.number.new.out c.args.words.now c.number.new.words c.from_residual-in_err-last.result (c.last.new.out, c.last.new.words) r0 (reads_then f1 (f2 & (f3 & f4)) c.number.new.out c.number-2.new.out c.number.new.words c.number-2.new.words c.from_residual-in_err-last.result (c.last.new.out, c.last.new.words) r1 (reads_stop f2 (f3 & f4) c.number-2.new.out c.number-2.new.words c.last.result c.from_residual-in_err-last.result (c.last.new.out, c.last.new.words) (c.last.new.out, c.last.new.words) c.last.ensures same (search rules)))

pub returns-in_err-number-3 : goal.returns-in_err-number-3
returns-in_err-number-3 c =
    let f0 : Field = named (codes "repolls") (number_word 4) in
    let f1 : Field = named (codes "boot") (number_word 1) in
    let f2 : Field = named (codes "last") (item_word c.args.names.now 32) in
    let f3 : Field = named (codes "height") (number_word 8) in
    let f4 : Field = lists_field c.args.names.now in
    let r0 : ahead c.args.out.now (f0 c.args.words.now) ≡ Ok (c.number.new.out, c.number.new.words) = search rules in
    let r1 : ahead c.number.new.out (f1 c.number.new.words) ≡ Ok (c.number-2.new.out, c.number-2.new.words) = search rules in
    let r2 : ahead c.number-2.new.out (f2 c.number-2.new.words) ≡ Ok (c.last.new.out, c.last.new.words) = search rules in
    let same : c.number-3.result ≡ c.from_residual-in_err-number-3.result = search rules in
    reads_then f0 (f1 & (f2 & (f3 & f4))) c.args.out.now c.number.new.out c.args.words.now c.number.new.words c.from_residual-in_err-number-3.result (c.number-3.new.out, c.number-3.new.words) r0 (reads_then f1 (f2 & (f3 & f4)) c.number.new.out c.number-2.new.out c.number.new.words c.number-2.new.words c.from_residual-in_err-number-3.result (c.number-3.new.out, c.number-3.new.words) r1 (reads_then f2 (f3 & f4) c.number-2.new.out c.last.new.out c.number-2.new.words c.last.new.words c.from_residual-in_err-number-3.result (c.number-3.new.out, c.number-3.new.words) r2 (reads_stop f3 f4 c.last.new.out c.last.new.words c.number-3.result c.from_residual-in_err-number-3.result (c.number-3.new.out, c.number-3.new.words) (c.number-3.new.out, c.number-3.new.words) c.number-3.ensures same (search rules))))

pub returns : goal.returns
returns c =
    let f0 : Field = named (codes "repolls") (number_word 4) in
    let f1 : Field = named (codes "boot") (number_word 1) in
    let f2 : Field = named (codes "last") (item_word c.args.names.now 32) in
    let f3 : Field = named (codes "height") (number_word 8) in
    let f4 : Field = lists_field c.args.names.now in
    let r0 : ahead c.args.out.now (f0 c.args.words.now) ≡ Ok (c.number.new.out, c.number.new.words) = search rules in
    let r1 : ahead c.number.new.out (f1 c.number.new.words) ≡ Ok (c.number-2.new.out, c.number-2.new.words) = search rules in
    let r2 : ahead c.number-2.new.out (f2 c.number-2.new.words) ≡ Ok (c.last.new.out, c.last.new.words) = search rules in
    let r3 : ahead c.last.new.out (f3 c.last.new.words) ≡ Ok (c.number-3.new.out, c.number-3.new.words) = search rules in
    reads_then f0 (f1 & (f2 & (f3 & f4))) c.args.out.now c.number.new.out c.args.words.now c.number.new.words c.lists.result (c.lists.new.out, c.lists.new.words) r0 (reads_then f1 (f2 & (f3 & f4)) c.number.new.out c.number-2.new.out c.number.new.words c.number-2.new.words c.lists.result (c.lists.new.out, c.lists.new.words) r1 (reads_then f2 (f3 & f4) c.number-2.new.out c.last.new.out c.number-2.new.words c.last.new.words c.lists.result (c.lists.new.out, c.lists.new.words) r2 (reads_then f3 f4 c.last.new.out c.number-3.new.out c.last.new.words c.number-3.new.words c.lists.result (c.lists.new.out, c.lists.new.words) r3 c.lists.ensures)))
