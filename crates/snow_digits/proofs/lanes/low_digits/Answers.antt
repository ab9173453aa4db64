use Rattle.std.proofs.Common.{◌%◌, arith}
use Rattle.hex.specs.Hex.{lower_digits}
use Rattle.snow_digits.proofs.Sixteen.{low_bits, low_ok, looked_up}
use Rattle.snow_digits.proofs.lanes.low_digits.Goals as goal

pub swizzle : goal.swizzle
swizzle c = low_ok c.args.bytes c.fits-bytes

pub returns : goal.returns
returns c =
    let v = c.args.bytes in
    looked_up lower_digits (λ b. b % 16) v _ c.fits-bytes (low_bits v c.fits-bytes.0) (λ b h. omega arith)
