-- They are the last eight digits.
use Rattle.std.proofs.Common.{◌∙◌, ap}
use Rattle.hex.specs.Hex.{encode_lower}
use Rattle.snow_digits.proofs.Encoded.{last_four}
use Rattle.snow_digits.proofs.Sixteen.{whole}
use Rattle.snow_digits.proofs.lanes.write_last_four.Goals as goal

pub returns : goal.returns
returns c =
    c.put_last.ensures ∙ last_four c.args.bytes.now c.digits_of.result.0 c.digits_of.result.1 c.requires.bytes c.digits_of.ensures.front
    (c.digits_of.ensures.digits ∙ ap encode_lower (whole c.args.bytes.now c.requires.bytes))
