use Rattle.std.proofs.Common.{rules, ◌≡◌, Ok, codes}
use Rattle.snow_text_model.specs.Model.Words.{Field, ◌&◌}
use Rattle.snow_text_model.specs.Model.Bytes.{number_word}
use Rattle.snow_text_model.specs.Model.Events.{named, start_field}
use Rattle.snow_say.specs.Clauses.Payload.{starts_field}
use Rattle.snow_words.specs.Clauses.Listing.{items_of}
use Rattle.snow_words.specs.Clauses.Making.{ahead}
use Rattle.snow_say.proofs.Chained.{reads_then, reads_stop}
use Rattle.snow_say.proofs.start.start.Goals as goal

pub returns-in_err-number-2 : goal.returns-in_err-number-2
unfolding start_field items_of
returns-in_err-number-2 c =
    let f0 : Field = named (codes "k") (number_word 4) in
    let f1 : Field = named (codes "alpha-preference") (number_word 4) in
    let f2 : Field = named (codes "alpha-confidence") (number_word 4) in
    let f3 : Field = named (codes "beta") (number_word 4) in
    let f4 : Field = starts_field c.args.names.now in
    let r0 : ahead c.args.out.now (f0 c.args.words.now) ≡ Ok (c.number.new.out, c.number.new.words) = search rules in
    let same : c.number-2.result ≡ c.from_residual-in_err-number-2.result = search rules in
    reads_then f0 (f1 & (f2 & (f3 & f4))) c.args.out.now c.number.new.out c.args.words.now c.number.new.words c.from_residual-in_err-number-2.result (c.number-2.new.out, c.number-2.new.words) r0 (reads_stop f1 (f2 & (f3 & f4)) c.number.new.out c.number.new.words c.number-2.result c.from_residual-in_err-number-2.result (c.number-2.new.out, c.number-2.new.words) (c.number-2.new.out, c.number-2.new.words) c.number-2.ensures same (search rules))

pub returns-in_err-number-3 : goal.returns-in_err-number-3
unfolding start_field items_of
returns-in_err-number-3 c =
    let f0 : Field = named (codes "k") (number_word 4) in
    let f1 : Field = named (codes "alpha-preference") (number_word 4) in
    let f2 : Field = named (codes "alpha-confidence") (number_word 4) in
    let f3 : Field = named (codes "beta") (number_word 4) in
    let f4 : Field = starts_field c.args.names.now in
    let r0 : ahead c.args.out.now (f0 c.args.words.now) ≡ Ok (c.number.new.out, c.number.new.words) = search rules in
    let r1 : ahead c.number.new.out (f1 c.number.new.words) ≡ Ok (c.number-2.new.out, c.number-2.new.words) = search rules in
    let same : c.number-3.result ≡ c.from_residual-in_err-number-3.result = search rules in
    reads_then f0 (f1 & (f2 & (f3 & f4))) c.args.out.now c.number.new.out c.args.words.now c.number.new.words c.from_residual-in_err-number-3.result (c.number-3.new.out, c.number-3.new.words) r0 (reads_then f1 (f2 & (f3 & f4)) c.number.new.out c.number-2.new.out c.number.new.words c.number-2.new.words c.from_residual-in_err-number-3.result (c.number-3.new.out, c.number-3.new.words) r1 (reads_stop f2 (f3 & f4) c.number-2.new.out c.number-2.new.words c.number-3.result c.from_residual-in_err-number-3.result (c.number-3.new.out, c.number-3.new.words) (c.number-3.new.out, c.number-3.new.words) c.number-3.ensures same (search rules)))

pub returns-in_err-number-4 : goal.returns-in_err-number-4
unfolding start_field items_of
returns-in_err-number-4 c =
    let f0 : Field = named (codes "k") (number_word 4) in
    let f1 : Field = named (codes "alpha-preference") (number_word 4) in
    let f2 : Field = named (codes "alpha-confidence") (number_word 4) in
    let f3 : Field = named (codes "beta") (number_word 4) in
    let f4 : Field = starts_field c.args.names.now in
    let r0 : ahead c.args.out.now (f0 c.args.words.now) ≡ Ok (c.number.new.out, c.number.new.words) = search rules in
    let r1 : ahead c.number.new.out (f1 c.number.new.words) ≡ Ok (c.number-2.new.out, c.number-2.new.words) = search rules in
    let r2 : ahead c.number-2.new.out (f2 c.number-2.new.words) ≡ Ok (c.number-3.new.out, c.number-3.new.words) = c.in_ok-number-3.ensures in
    let same : c.number-4.result ≡ c.from_residual-in_err-number-4.result = search rules in
    reads_then f0 (f1 & (f2 & (f3 & f4))) c.args.out.now c.number.new.out c.args.words.now c.number.new.words c.from_residual-in_err-number-4.result (c.number-4.new.out, c.number-4.new.words) r0 (reads_then f1 (f2 & (f3 & f4)) c.number.new.out c.number-2.new.out c.number.new.words c.number-2.new.words c.from_residual-in_err-number-4.result (c.number-4.new.out, c.number-4.new.words) r1 (reads_then f2 (f3 & f4) c.number-2.new.out c.number-3.new.out c.number-2.new.words c.number-3.new.words c.from_residual-in_err-number-4.result (c.number-4.new.out, c.number-4.new.words) r2 (reads_stop f3 f4 c.number-3.new.out c.number-3.new.words c.number-4.result c.from_residual-in_err-number-4.result (c.number-4.new.out, c.number-4.new.words) (c.number-4.new.out, c.number-4.new.words) c.number-4.ensures same (search rules))))

pub returns : goal.returns
unfolding start_field items_of
returns c =
    let f0 : Field = named (codes "k") (number_word 4) in
    let f1 : Field = named (codes "alpha-preference") (number_word 4) in
    let f2 : Field = named (codes "alpha-confidence") (number_word 4) in
    let f3 : Field = named (codes "beta") (number_word 4) in
    let f4 : Field = starts_field c.args.names.now in
    let r0 : ahead c.args.out.now (f0 c.args.words.now) ≡ Ok (c.number.new.out, c.number.new.words) = search rules in
    let r1 : ahead c.number.new.out (f1 c.number.new.words) ≡ Ok (c.number-2.new.out, c.number-2.new.words) = search rules in
    let r2 : ahead c.number-2.new.out (f2 c.number-2.new.words) ≡ Ok (c.number-3.new.out, c.number-3.new.words) = c.in_ok-number-3.ensures in
    let r3 : ahead c.number-3.new.out (f3 c.number-3.new.words) ≡ Ok (c.number-4.new.out, c.number-4.new.words) = search rules in
    reads_then f0 (f1 & (f2 & (f3 & f4))) c.args.out.now c.number.new.out c.args.words.now c.number.new.words c.start_more.result (c.start_more.new.out, c.start_more.new.words) r0 (reads_then f1 (f2 & (f3 & f4)) c.number.new.out c.number-2.new.out c.number.new.words c.number-2.new.words c.start_more.result (c.start_more.new.out, c.start_more.new.words) r1 (reads_then f2 (f3 & f4) c.number-2.new.out c.number-3.new.out c.number-2.new.words c.number-3.new.words c.start_more.result (c.start_more.new.out, c.start_more.new.words) r2 (reads_then f3 f4 c.number-3.new.out c.number-4.new.out c.number-3.new.words c.number-4.new.words c.start_more.result (c.start_more.new.out, c.start_more.new.words) r3 c.start_more.ensures)))
