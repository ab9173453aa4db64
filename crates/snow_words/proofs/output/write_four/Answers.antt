use Rattle.std.proofs.Common.{◌≡◌, ◌-◌, ◌++◌, length, drop, ap, ◌∙◌, arith}
use borrow.Rule.Slice.PartMut.{mid_of, put_mid}
use Rattle.snow_wire.specs.Model.Spelling.{number}
use Rattle.snow_words.proofs.Saying.{number_is, written_at}
use Rattle.snow_words.proofs.output.write_four.Goals as goal

pub returns : goal.returns
returns c =
    let at = c.args.at in
    let bytes = c.args.bytes.now in
    let written : c.write_u32.new.buf ≡ number 4 c.args.n ++ drop 4 (mid_of at (length bytes - at) bytes) = cc (number_is 4 c.args.n) in
    ap (put_mid at (length bytes - at) bytes) written ∙ written_at at 4 bytes (number 4 c.args.n) (omega arith)
