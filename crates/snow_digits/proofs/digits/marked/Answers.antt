use Rattle.std.proofs.Common.{arith}
use Rattle.snow_digits.proofs.Figures.{decimal_short, mark_before}
use Rattle.snow_digits.proofs.digits.marked.Goals as goal

pub returns-clause-text : goal.returns-clause-text
returns-clause-text c =
    let short = decimal_short c.args.number c.ranges.number.fits in
    mark_before c.args.buffer.now c.write_digits-start.new.buf _ 21 c.write_digits-start.result c.args.mark _
    (omega (arith, short, c.write_digits-start.ensures.start)) c.write_digits-start.ensures.start (omega arith) (omega arith) (omega arith) c.write_digits-start.ensures.written
