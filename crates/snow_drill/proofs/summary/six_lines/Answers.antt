-- Six lines, one behind another.
use Rattle.std.proofs.Common.{refl}
use Rattle.snow_drill.proofs.summary.six_lines.Goals as goal

pub returns : goal.returns
returns c =
    rw (
      c.in_ok-put_digits-2.ensures,
      c.in_ok-put_digits.ensures,
      c.in_ok-put_number-4.ensures,
      c.in_ok-put_number-3.ensures,
      c.in_ok-put_number-2.ensures,
      c.in_ok-put_number.ensures,
      c.new-text.ensures,
      c.from.ensures,
      c.accepted.ensures,
      c.rejected.ensures,
      c.answered.ensures,
      c.as_bytes.ensures.bytes,
      c.last.ensures,
    ) refl
