use Rattle.snow_digits.proofs.Sixteen.{in_turn}
use Rattle.snow_digits.proofs.lanes.digits_of.Goals as goal

pub returns-clause-digits : goal.returns-clause-digits
returns-clause-digits c = rw (c.high_digits-high.ensures, c.low_digits-low.ensures) (in_turn c.args.bytes c.fits-bytes.0)
